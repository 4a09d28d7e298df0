-- What is left of a process by its frames: the frame on top, and what follows its end in those below.
use Rattle.std.specs.Prelude.{◌≡◌, ℕ, ◌-◌, false, List, [], ◌∷◌, length, Option, Some, None}
use Rattle.obj_kinds.specs.declared.name.ClassName.{ClassName}
use Rattle.os_kinds.specs.declared.call.Answer.{Answer}
use Rattle.os_kinds.specs.declared.call.ScriptEnd.{ScriptEnd}
use Rattle.os_kinds.specs.declared.call.Event.{Event}
use Rattle.os_kinds.specs.declared.call.Event.TheVariants as event
use Rattle.os_meaning.specs.Syntax as syntax
use Rattle.os_meaning.specs.Syntax.{Block}
use Rattle.os_machine.specs.States.{Left}
use Rattle.os_machine.specs.Runs.{running, awaited}
use Rattle.store_calls.specs.Calls.{Call, Give, Tell, Prints}
use Rattle.host_meaning.specs.declared.ending.Ending.{Ending}
use Rattle.host_meaning.specs.Methods.{Program}
use Rattle.host_meaning.specs.Objects.{Known, Objects}
use Rattle.host_meaning.specs.Process.{Begun, ending_of, needs, runs, answers, method, points, with_memory}
use Rattle.frame_stack.specs.declared.frame.RunningFrame.{RunningFrame}
use Rattle.frame_stack.specs.declared.stack.Stack.{Stack}
use Rattle.frame_stack.specs.Stacks.{most_callers, declarer_of, called_on_of, callers}

-- what a frame's calls know of its beginning: the classes of its method
abbrev pub between : Option ClassName → Option ClassName → Begun
between declarer called_on = record { body = syntax.Empty; this = None; vars = []; declarer = declarer; called_on = called_on }

abbrev pub begun_of : RunningFrame → Begun
begun_of f = between (declarer_of f) (called_on_of f)

-- nothing is open, in memory, or granted when a process begins
abbrev pub at_start : {M : Type 0} → Objects M → Known M
at_start objects = record { memory = objects.empty; level = 0; test = false; last_error = [] }

module _ {M : Type 0} (objects : Objects M) (program : Program) (fuel : ℕ) where
  -- what follows the end of a frame, by the class that declares its method
  abbrev pub End : Type 0
  End = Option ClassName → ScriptEnd → ℕ → Known M → Call Ending

  -- a frame with so many below it, and what follows its end
  abbrev pub runs_over : ℕ → RunningFrame → Left → End → ℕ → Known M → Call Ending
  runs_over below f rest ends units s =
      runs objects program fuel (method objects program fuel (most_callers - below)) (begun_of f) (rest units) units s (ends (declarer_of f))

  -- at the bottom the process ends; else the frame below is answered
  abbrev pub ends_in : List RunningFrame → End
  ends_in [] class e units s = Give (ending_of class e)
  ends_in (f ∷ fs) class e units s =
      answers objects program fuel class e units s (λ a units s. runs_over (length fs) f (awaited f.machine a) (ends_in fs) units s)

  -- what is left where the frame on top runs
  unfoldable pub left : Stack → ℕ → Known M → Call Ending
  left s units k = runs_over (length (callers s)) s.top (running s.top.machine) (ends_in (callers s)) units k

  -- what is left where it is given this answer
  unfoldable pub given : Stack → Answer → ℕ → Known M → Call Ending
  given s a units k = runs_over (length (callers s)) s.top (awaited s.top.machine a) (ends_in (callers s)) units k

  -- what is left where it has ended
  unfoldable pub ended : Stack → ScriptEnd → ℕ → Known M → Call Ending
  ended s e units k = ends_in (callers s) (declarer_of s.top) e units k

  -- what an event of the frame on top is to the process
  abbrev pub shown : Event → Stack → ℕ → Known M → Call Ending
  shown (event.Need c) s units k =
      needs objects program fuel (method objects program fuel (most_callers - length (callers s))) (begun_of s.top) c units k (given s)
  shown (event.Print t) s units k = Tell (Prints t) (left s units k)
  shown (event.More number) s units k = left s units (with_memory objects program fuel (objects.more number k.memory) k)
  shown (event.Less number) s units k = left s units (with_memory objects program fuel (objects.less number k.memory) k)
  shown event.Point s units k = points objects program fuel units k (left s)
  shown (event.Finished e) s units k = ended s e units k
