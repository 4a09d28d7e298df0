-- What a load has still to do in each of its phases.
use Rattle.std.specs.Prelude.{◌≡◌, ℕ, suc, Bool, true, false, cond, List, Option, None, Some}
use Rattle.obj_kinds.specs.declared.op.Op.{Op}
use Rattle.obj_kinds.specs.declared.op.Reply.{Reply}
use Rattle.obj_kinds.specs.declared.op.Mode.{Mode}
use Rattle.schema_kinds.specs.declared.class.Class.{Class}
use Rattle.schema_kinds.specs.declared.record.Record.{Record}
use Rattle.record_layout.specs.Rows.{data_node}
use Rattle.store_calls.specs.Calls.{Call, Give, Ask, Cut, bind, Plain, Tried, Got, Lost, try, run}
use Rattle.store_calls.specs.Plans.{Bounded, IsAfter, AsksFor, SaysNext}
use Rattle.object_calls.specs.Asking.{lock_counted, unlock}
use Rattle.object_calls.specs.Extents.{refuses_other}
use Rattle.object_calls.specs.Reading.{read}
use Rattle.object_calls.specs.Loads.{LoadCall, missing, keeps_lock, load}
use Rattle.read_plan.specs.Reads.{tried_of, is_asking as is_read_asking, is_told as is_read_told, to_come_within as read_to_come}
use Rattle.read_plan.specs.declared.call.ReadStep.{ReadStep}
use Rattle.read_plan.specs.declared.call.ReadStep.TheVariants as read_step
use Rattle.load_plan.specs.declared.call.LoadCall.{LoadCall as Called}
use Rattle.load_plan.specs.declared.call.LoadStep.{LoadStep}
use Rattle.load_plan.specs.declared.call.LoadStep.TheVariants as step
use Rattle.load_plan.specs.declared.phase.Reading.{Reading}
use Rattle.load_plan.specs.declared.phase.Phase.{Phase}
use Rattle.load_plan.specs.declared.phase.Phase.TheVariants as phase

-- the call, as it is meant
abbrev pub load_of : Called → LoadCall
load_of c = record { key = c.key; class = c.class; level = c.level; touch = c.touch }

module _ (classes : List Class) (l : LoadCall) (tries most : ℕ) where
  -- what the load answers, where this was read
  abbrev pub answer_of : Tried (Option Record) → Tried Record
  answer_of (Got (Some r)) = Got r
  answer_of (Got None) = Lost (missing classes tries most l)
  answer_of (Lost x) = Lost x

  -- the lock is given back
  abbrev pub unlocking : Mode → Tried Record → Call (Tried Record)
  unlocking mode a = Ask (unlock mode (data_node l.key)) Plain (λ r. Give a)

  -- behind the read, under a lock where there is one
  abbrev pub read_ends : Option Mode → Tried (Option Record) → Call (Tried Record)
  read_ends None x = Give (answer_of x)
  read_ends (Some mode) x = cond (keeps_lock classes tries most l x) (Give (answer_of x)) (unlocking mode (answer_of x))

  abbrev pub reading : Option Mode → Call (Tried Record)
  reading lock = bind (read classes l.key Plain most (refuses_other classes l.class)) (read_ends lock)

  -- behind the tries of the lock
  abbrev pub locked : Mode → Tried (Unit {0}) → Call (Tried Record)
  locked mode (Lost x) = Give (Lost x)
  locked mode (Got _) = reading (Some mode)

  -- the call that is left in each phase
  unfoldable pub to_come_within : Phase → Call (Tried Record)
  to_come_within (phase.Locking mode n) = bind (try Plain (suc n) (lock_counted mode (data_node l.key))) (locked mode)
  to_come_within (phase.Reading r) = bind (read_to_come classes l.key Plain most (Some l.class) r.read.phase) (read_ends r.lock)
  to_come_within (phase.Unlocking mode a) = unlocking mode (tried_of a)
  to_come_within (phase.Over a) = Give (tried_of a)
  to_come_within phase.Told = Cut

-- for each number of turns that its walks may have
abbrev pub to_come : List Class → LoadCall → Phase → Bounded (Tried Record)
to_come classes l p = λ most. to_come_within classes l 0 most p

abbrev pub is_asking : Phase → Bool
is_asking (phase.Locking mode n) = true
is_asking (phase.Reading r) = is_read_asking r.read.phase
is_asking (phase.Unlocking mode a) = true
is_asking (phase.Over a) = false
is_asking phase.Told = false

-- the answer was handed out, or that of the read was
abbrev pub is_told : Phase → Bool
is_told (phase.Reading r) = is_read_told r.read.phase
is_told phase.Told = true
is_told _ = false

-- the load that was called, by its replies
abbrev pub IsBegun : List Class → LoadCall → ℕ → Phase → Type 0
IsBegun classes l tries p = (most : ℕ) (rs : List Reply) → run (to_come classes l p most) rs ≡ run (load classes tries most l) rs

-- the one phase leaves what the other does
abbrev pub LeavesTheSame : List Class → LoadCall → Phase → Phase → Type 0
LeavesTheSame classes l before now = (most : ℕ) → to_come classes l now most ≡ to_come classes l before most

-- the one phase is behind the other by the reply
abbrev pub IsTaken : List Class → LoadCall → Reply → Phase → Phase → Type 0
IsTaken classes l r before now = IsAfter r (to_come classes l before) (to_come classes l now)

-- what the step says comes next
abbrev pub IsNext : List Class → LoadCall → LoadStep → Phase → Type 0
IsNext classes l (step.Ask op) p = SaysNext (AsksFor op) (to_come classes l p)
IsNext classes l (step.Load a) p = (most : ℕ) → to_come classes l p most ≡ Give (tried_of a)

-- a load that asks waits for the reply, and has the same to do; one that has answered is over
abbrev pub GoesOn : List Class → LoadCall → LoadStep → Phase → Phase → Type 0
GoesOn classes l (step.Ask op) before now = (is_asking now ≡ true) × LeavesTheSame classes l before now
GoesOn classes l (step.Load a) before now = now ≡ phase.Told

-- for want of memory it has the same to do
abbrev pub Stays : List Class → LoadCall → Phase → Phase → Type 0
Stays classes l before now = (is_told now ≡ false) × LeavesTheSame classes l before now

abbrev pub is_reading : Phase → Bool
is_reading (phase.Reading r) = true
is_reading _ = false

abbrev pub is_over : Phase → Bool
is_over (phase.Over a) = true
is_over _ = false

abbrev pub is_unlocking : Phase → Bool
is_unlocking (phase.Unlocking mode a) = true
is_unlocking _ = false

abbrev pub behind_unlock : Phase → Phase
behind_unlock (phase.Unlocking mode a) = phase.Over a
behind_unlock p = p

-- the read asks this; or it has ended with this, behind which the load goes on
abbrev pub ReadSays : List Class → LoadCall → ReadStep → Reading → Type 0
ReadSays classes l (read_step.Ask op) r = SaysNext (AsksFor op) (to_come classes l (phase.Reading r))
ReadSays classes l (read_step.Read o) r = (most : ℕ) → to_come classes l (phase.Reading r) most ≡ read_ends classes l 0 most r.lock (tried_of o)

-- the read asks this; or the load isn't at its read, or no longer
abbrev pub GoesToRead : List Class → LoadCall → Option Op → Phase → Phase → Type 0
GoesToRead classes l (Some op) before now = (is_asking now ≡ true) × LeavesTheSame classes l before now × SaysNext (AsksFor op) (to_come classes l before)
GoesToRead classes l None before now = (is_reading now ≡ false) × (is_told now ≡ false) × LeavesTheSame classes l before now
