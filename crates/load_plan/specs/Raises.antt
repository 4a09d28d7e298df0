-- What a raise has still to do in each of its phases.
use Rattle.std.specs.Prelude.{◌≡◌, ◌&&◌, ◌==◌, suc, Bool, true, false, List}
use Rattle.obj_kinds.specs.declared.name.ClassName.{ClassName}
use Rattle.obj_kinds.specs.declared.op.Reply.{Reply}
use Rattle.obj_kinds.specs.declared.op.Mode.TheVariants.{Shared}
use Rattle.record_layout.specs.Rows.{data_node}
use Rattle.store_calls.specs.Calls.{Give, Cut, bind, Plain, Tried, Got, Lost, try, run}
use Rattle.store_calls.specs.Plans.{AsksFor, SaysNext, IsAfter}
use Rattle.object_calls.specs.Asking.{Does, does, when, lock_counted, unlock}
use Rattle.object_calls.specs.Loads.{raise}
use Rattle.read_plan.specs.Reads.{tried_of}
use Rattle.load_plan.specs.declared.raise.RaiseCall.{RaiseCall}
use Rattle.load_plan.specs.declared.raise.RaiseStep.{RaiseStep}
use Rattle.load_plan.specs.declared.raise.RaiseStep.TheVariants as step
use Rattle.load_plan.specs.declared.raise.RaisePhase.{RaisePhase}
use Rattle.load_plan.specs.declared.raise.RaisePhase.TheVariants as phase

module _ (c : RaiseCall) where
  -- behind the tries of the lock: the shared one of level 3 is given back
  abbrev pub locked : Tried (Unit {0}) → Does
  locked (Lost x) = Give (Lost x)
  locked (Got _) = when (c.to == 4 && c.from == 3) (does Plain (unlock Shared (data_node c.key)))

  -- the call that is left in each phase
  unfoldable pub to_come : RaisePhase → Does
  to_come (phase.Locking mode n) = bind (try Plain (suc n) (lock_counted mode (data_node c.key))) locked
  to_come phase.Unlocking = does Plain (unlock Shared (data_node c.key))
  to_come (phase.Over a) = Give (tried_of a)
  to_come phase.Told = Cut

  -- the raise that was called, by its replies
  abbrev pub IsBegun : RaisePhase → Type 0
  IsBegun p = (class : ClassName) (rs : List Reply) → run (to_come p) rs ≡ run (raise c.tries c.key class c.from c.to) rs

  -- the one phase is behind the other by the reply
  abbrev pub IsTaken : Reply → RaisePhase → RaisePhase → Type 0
  IsTaken r before now = IsAfter r (λ most. to_come before) (λ most. to_come now)

  -- what the step says comes next
  abbrev pub IsNext : RaiseStep → RaisePhase → Type 0
  IsNext (step.Ask op) p = SaysNext (AsksFor op) (λ most. to_come p)
  IsNext (step.Raise a) p = to_come p ≡ Give (tried_of a)

abbrev pub is_asking : RaisePhase → Bool
is_asking (phase.Locking mode n) = true
is_asking phase.Unlocking = true
is_asking _ = false

abbrev pub is_over : RaisePhase → Bool
is_over (phase.Over a) = true
is_over _ = false

abbrev pub is_told : RaisePhase → Bool
is_told phase.Told = true
is_told _ = false

-- a raise that asks stays as it is; one that has answered is over
abbrev pub StaysAt : RaiseStep → RaisePhase → RaisePhase → Type 0
StaysAt (step.Ask op) before now = (is_asking before ≡ true) × (now ≡ before)
StaysAt (step.Raise a) before now = now ≡ phase.Told
