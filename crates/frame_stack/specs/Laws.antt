-- What ties frames one above the other to the process that they are.
use Rattle.std.specs.Prelude.{◌≡◌, ℕ, ◌-◌, ◌<◌, ◌≤◌, true, false, List, [], length, Option, None}
use Rattle.obj_kinds.specs.declared.error_name.ErrorName.TheVariants as error
use Rattle.os_kinds.specs.declared.val.Val.{Val}
use Rattle.os_kinds.specs.declared.call.Answer.{Answer}
use Rattle.os_kinds.specs.declared.call.Answer.TheVariants as answer
use Rattle.os_kinds.specs.declared.call.Event.{Event}
use Rattle.os_kinds.specs.declared.call.ScriptEnd.{ScriptEnd}
use Rattle.os_kinds.specs.declared.call.ScriptEnd.TheVariants as end
use Rattle.os_meaning.specs.Syntax.{Block}
use Rattle.os_meaning.specs.Frames.{Vars}
use Rattle.os_code.specs.Machine.{flat}
use Rattle.os_code.specs.Coding.{script_code}
use Rattle.os_machine.specs.Runs.{running, awaited, is_waiting, Sees}
use Rattle.store_calls.specs.Calls.{Give}
use Rattle.host_meaning.specs.Methods.{Program}
use Rattle.host_meaning.specs.Objects.{Known, Objects}
use Rattle.host_meaning.specs.Process.{Begun, ending_of, method, begins, process}
use Rattle.frame_stack.specs.declared.frame.RunningFrame.{RunningFrame}
use Rattle.frame_stack.specs.declared.stack.Stack.{Stack}
use Rattle.frame_stack.specs.Stacks.{most_callers, declarer_of, called_on_of, callers, with_machine, IsPushed, AreCallers, IsReady, IsAsked, Popped}
use Rattle.frame_stack.specs.Left.{at_start, left, given, ended, shown}

-- a frame at the beginning of this body
abbrev pub AtBeginning : Block → Option Val → Vars → RunningFrame → Type 0
AtBeginning body this vars f = (is_waiting f.machine ≡ false) × ((n : ℕ) → running f.machine n ≡ flat this n (script_code body) vars)

-- a frame that is a method begun
abbrev pub IsBegun : Begun → RunningFrame → Type 0
IsBegun b f = AtBeginning b.body b.this b.vars f × ((declarer_of f ≡ b.declarer) × (called_on_of f ≡ b.called_on))

-- the frame of a script alone
abbrev pub IsAtScript : Block → Stack → Type 0
IsAtScript script s = AtBeginning script None [] s.top × ((declarer_of s.top ≡ None) × ((called_on_of s.top ≡ None) × (callers s ≡ [])))

-- an end that is no value
abbrev pub IsFinal : ScriptEnd → Type 0
IsFinal (end.Done v) = ⊥
IsFinal _ = Unit {0}

-- what is left of a script alone is the process
abbrev pub ScriptsBegin : Type 0 → Type 0
ScriptsBegin M =
    (objects : Objects M) (program : Program) (fuel : ℕ) (script : Block) (s : Stack) → IsAtScript script s
    → IsReady s × (process objects program fuel script ≡ left objects program fuel s fuel (at_start objects))

-- what the frame on top shows is what the process does next
abbrev pub EventsShow : Type 0 → Type 0
EventsShow M =
    (objects : Objects M) (program : Program) (fuel : ℕ) (e : Event) (before after : ℕ) (old new : Stack) → IsReady old
    → Sees e before after (running old.top.machine) new.top.machine → new ≡ with_machine new.top.machine old
    → (k : Known M) → left objects program fuel old before k ≡ shown objects program fuel e new after k

-- an answer goes to the frame on top
abbrev pub AnswersGo : Type 0 → Type 0
AnswersGo M =
    (objects : Objects M) (program : Program) (fuel : ℕ) (a : Answer) (old new : Stack)
    → ((n : ℕ) → running new.top.machine n ≡ awaited old.top.machine a n) → new ≡ with_machine new.top.machine old
    → (units : ℕ) (k : Known M) → given objects program fuel old a units k ≡ left objects program fuel new units k

-- a method begins on top of the frame that called it
abbrev pub MethodsBegin : Type 0 → Type 0
MethodsBegin M =
    (objects : Objects M) (program : Program) (fuel : ℕ) (b : Begun) (f : RunningFrame) (s new : Stack)
    → IsAsked s → length (callers s) < most_callers → IsBegun b f → IsPushed f s new
    → IsReady new × ((units : ℕ) (k : Known M) → units ≤ fuel
    → method objects program fuel (most_callers - length (callers s)) b units k (given objects program fuel s) ≡ left objects program fuel new units (begins objects program fuel b k))

-- the 65th frame doesn't begin: its caller gets an error
abbrev pub NoneBegins : Type 0 → Type 0
NoneBegins M =
    (objects : Objects M) (program : Program) (fuel : ℕ) (b : Begun) (s : Stack) → most_callers ≤ length (callers s)
    → (units : ℕ) (k : Known M) → method objects program fuel (most_callers - length (callers s)) b units k (given objects program fuel s) ≡ given objects program fuel s (answer.Error error.FrameStack) units k

-- the value of a method goes to the frame below
abbrev pub ValuesGo : Type 0 → Type 0
ValuesGo M =
    (objects : Objects M) (program : Program) (fuel : ℕ) (v : Val) (old new : Stack) → AreCallers (callers old) → Popped true old new
    → IsAsked new × ((units : ℕ) (k : Known M) → ended objects program fuel old (end.Done v) units k ≡ given objects program fuel new (answer.Got v) units k)

-- any other end is that of the process, and so is each end of the frame at the bottom
abbrev pub ProcessesEnd : Type 0 → Type 0
ProcessesEnd M =
    (objects : Objects M) (program : Program) (fuel : ℕ) (e : ScriptEnd) (s : Stack) (units : ℕ) (k : Known M)
    → (IsFinal e → ended objects program fuel s e units k ≡ Give (ending_of (declarer_of s.top) e))
    × (callers s ≡ [] → ended objects program fuel s e units k ≡ Give (ending_of (declarer_of s.top) e))
