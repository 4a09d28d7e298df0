-- What a run tells, and the frame that is left.
use Rattle.std.specs.Prelude.{◌≡◌, ℕ, zero, suc, ◌+◌, ◌-◌, ◌*◌, List, length, drop, min, Option, Some, None, IfSome, IfNone}
use Rattle.os_kinds.specs.declared.call.Answer.{Answer}
use Rattle.os_kinds.specs.declared.call.ScriptEnd.TheVariants as end
use Rattle.os_meaning.specs.Frames.{Frame, Ends, Spends, Asks, fails, misfit, loses_some}
use Rattle.os_code.specs.declared.instruction.Instruction.{Instruction}
use Rattle.os_code.specs.Machine.{walk, spent, from}
use Rattle.os_machine.specs.Receiving.{takes}
use Rattle.os_machine.specs.Leading.{at, showing, goes_with}
use Rattle.os_machine.specs.declared.stepped.Awaits.{Awaits}
use Rattle.os_machine.specs.declared.stepped.Stepped.{Stepped}
use Rattle.os_machine.specs.declared.stepped.Stepped.TheVariants as step
use Rattle.os_machine.specs.declared.local.Told.{Told}
use Rattle.os_machine.specs.declared.local.Told.TheVariants as told
use Rattle.os_machine.specs.declared.local.Local.{Local}

-- what is left of a frame, for each number of units
abbrev pub Left : Type 0
Left = ℕ → Frame

-- a frame behind so many units: where they aren't there it is out of fuel
abbrev pub behind : ℕ → Left → Left
behind zero f n = f n
behind (suc k) f zero = Ends end.Fuel
behind (suc k) f (suc n) = Spends (behind k f n)

-- From `before` units to `after` nothing is shown: the old frame is the new one behind the units taken.
abbrev pub Quiets : ℕ → ℕ → Left → Left → Type 0
Quiets before after old new = (taken : ℕ) × (after + taken ≡ before) × ((n : ℕ) → old n ≡ behind taken new n)

-- Out of fuel is where one unit more than there are would be taken.
abbrev pub IsOut : ℕ → ℕ → Left → Type 0
IsOut before after old = (after ≡ 0) × (f : Left) × ((n : ℕ) → old n ≡ behind (suc before) f n)

module _ (code : List Instruction) where
  -- the frame from a place on, with so many units
  unfoldable pub frame_at : Local → Left
  frame_at l n = at (from l.this code n (drop l.place code)) l.work

  -- what an answer leaves
  unfoldable pub frame_with : Local → Awaits → Answer → Left
  frame_with l awaits a n = goes_with (λ over. walk l.this code (spent l.this code n) over (drop l.place code)) (takes awaits a l.work)

  -- the frame that is told of
  abbrev pub telling : Told → Local → Left
  telling (told.Shows s) l n = showing s (frame_at l n)
  telling (told.Asks c awaits) l n = Asks c (λ a. frame_with l awaits a n)
  telling (told.Leaves v) l n = loses_some l.this (Ends (end.Done v))
  telling (told.Fails e line) l n = fails line e
  telling told.Halts l n = misfit
  telling told.Fuel l n = Ends end.Fuel

  abbrev pub Quiet : ℕ → ℕ → Local → Local → Type 0
  Quiet before after old new = Quiets before after (frame_at old) (frame_at new)

  abbrev pub TellsOf : Told → ℕ → ℕ → Left → Local → Type 0
  TellsOf told.Fuel before after old new = IsOut before after old
  TellsOf t before after old new = Quiets before after old (telling t new)

  abbrev pub Tells : Told → ℕ → ℕ → Local → Local → Type 0
  Tells t before after old new = TellsOf t before after (frame_at old) new

  abbrev pub StepsOf : Option Told → ℕ → ℕ → Left → Local → Type 0
  StepsOf None before after old new = Quiets before after old (frame_at new)
  StepsOf (Some t) before after old new = TellsOf t before after old new

  abbrev pub Steps : Option Told → ℕ → ℕ → Local → Local → Type 0
  Steps t before after old new = StepsOf t before after (frame_at old) new

  -- what falls in a step that tells nothing
  abbrev pub left : ℕ → Local → ℕ
  left units l = units * (length code + 1) + (length code - l.place)

-- a unit was taken, or none was there
pub record Took (next before after : ℕ) (old new : Local) (t : Option Told) : Type 0 where
  pub none : IfNone t ((new ≡ record old { place = next }) × (before ≡ after + 1))
  pub some : IfSome t (λ x. (x ≡ told.Fuel) × (new ≡ old) × (before ≡ 0) × (after ≡ 0))

-- what is told of a step, and the place behind it
abbrev pub Passes : ℕ → ℕ → ℕ → Stepped → Local → Option Told → Local → Type 0
Passes last before after (step.Goes over) old t new = (t ≡ None) × (new ≡ record old { place = min (old.place + 1 + over) last }) × (after ≡ before)
Passes last before after (step.Shows s over) old t new = (t ≡ Some (told.Shows s)) × (new ≡ record old { place = min (old.place + 1 + over) last }) × (after ≡ before)
Passes last before after (step.Stays s) old t new = (t ≡ Some (told.Shows s)) × (new ≡ old) × (after ≡ before)
Passes last before after (step.Asks c awaits) old t new = (t ≡ Some (told.Asks c awaits)) × (new ≡ record old { place = old.place + 1 }) × (after ≡ before)
Passes last before after (step.Leaves v) old t new = (t ≡ Some (told.Leaves v)) × (new ≡ old) × (after ≡ before)
Passes last before after step.Spends old t new = Took (old.place + 1) before after old new t
Passes last before after (step.Returns back) old t new = Took (old.place + 1 - back) before after old new t
Passes last before after (step.Fails e line) old t new = (t ≡ Some (told.Fails e line)) × (new ≡ old) × (after ≡ before)
Passes last before after step.Halts old t new = (t ≡ Some told.Halts) × (new ≡ old) × (after ≡ before)
