-- Frames one above the other: which of them wait, and where objects have places in them.
use Rattle.std.specs.Prelude.{◌≡◌, ℕ, ◌+◌, ◌≤◌, Bool, true, false, List, [], ◌∷◌, ◌++◌, reverse, Option}
use Rattle.std.specs.Option.{option_copied}
use Rattle.obj_kinds.specs.declared.name.ClassName.{ClassName}
use Rattle.os_kinds.specs.declared.call.Answer.{Answer}
use Rattle.os_kinds.specs.declared.call.Event.{Event}
use Rattle.os_kinds.specs.declared.call.Event.TheVariants as event
use Rattle.os_meaning.specs.Frames.{within}
use Rattle.os_machine.specs.States.{Left}
use Rattle.os_machine.specs.Runs.{running, awaited, is_waiting, places}
use Rattle.os_machine.specs.declared.machine.Machine.{Machine}
use Rattle.frame_stack.specs.declared.frame.RunningFrame.{RunningFrame}
use Rattle.frame_stack.specs.declared.stack.Stack.{Stack}

-- a process has 64 frames at most
abbrev pub most_callers : ℕ
most_callers = 63

abbrev pub declarer_of : RunningFrame → Option ClassName
declarer_of f = option_copied f.declarer

abbrev pub called_on_of : RunningFrame → Option ClassName
called_on_of f = option_copied f.called_on

-- the frames below the top, the highest first
abbrev pub callers : Stack → List RunningFrame
callers s = reverse s.below.items

abbrev pub with_machine : Machine → Stack → Stack
with_machine m s = record s { top = record s.top { machine = m } }

-- the same frames
abbrev pub IsSame : Stack → Stack → Type 0
IsSame old new = (new.top ≡ old.top) × (callers new ≡ callers old)

-- the frame is on top of the one that was
abbrev pub IsPushed : RunningFrame → Stack → Stack → Type 0
IsPushed f old new = (new.top ≡ f) × (callers new ≡ old.top ∷ callers old)

-- ---- what waits

-- with fewer units it is the same frame, cut where the next unit isn't there
abbrev pub IsSteady : Left → Type 0
IsSteady f = (n most : ℕ) → n ≤ most → f n ≡ within (f most) n

abbrev pub Runs : RunningFrame → Type 0
Runs f = (is_waiting f.machine ≡ false) × IsSteady (running f.machine)

abbrev pub Waits : RunningFrame → Type 0
Waits f = (is_waiting f.machine ≡ true) × ((a : Answer) → IsSteady (awaited f.machine a))

abbrev pub AreCallers : List RunningFrame → Type 0
AreCallers [] = Unit {0}
AreCallers (f ∷ fs) = Waits f × AreCallers fs

-- the frame on top runs, and each one below it waits
abbrev pub IsReady : Stack → Type 0
IsReady s = Runs s.top × AreCallers (callers s)

-- each frame waits, the one on top too
abbrev pub IsAsked : Stack → Type 0
IsAsked s = Waits s.top × AreCallers (callers s)

-- what stands after an event; when the frame on top has ended, nothing more is said of it
abbrev pub StandsAfter : Event → Stack → Type 0
StandsAfter (event.Need c) s = IsAsked s
StandsAfter (event.Finished e) s = AreCallers (callers s)
StandsAfter _ s = IsReady s

-- the frame on top has gone, where there was one below it
abbrev pub Popped : Bool → Stack → Stack → Type 0
Popped true old new = callers old ≡ new.top ∷ callers new
Popped false old new = (callers old ≡ []) × IsSame old new

-- ---- places of objects

abbrev pub places_below : ℕ → List RunningFrame → ℕ
places_below o [] = 0
places_below o (f ∷ fs) = places o f.machine + places_below o fs

-- each place of the object once, in all frames
abbrev pub all_places : ℕ → Stack → ℕ
all_places o s = places o s.top.machine + places_below o (callers s)
