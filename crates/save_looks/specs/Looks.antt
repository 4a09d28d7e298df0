-- What a look has still to do in each of its phases.
use Rattle.std.specs.Prelude.{◌≡◌, ℕ, Bool, true, false, not, List, Option, None, Some, Result, Ok, Err}
use Rattle.obj_kinds.specs.declared.op.Op.{Op}
use Rattle.obj_kinds.specs.declared.op.Op.TheVariants.{Get}
use Rattle.obj_kinds.specs.declared.op.Reply.{Reply}
use Rattle.obj_kinds.specs.declared.cause.Cause.{Cause}
use Rattle.obj_kinds.specs.Texts.{same_text}
use Rattle.schema_kinds.specs.declared.class.Class.{Class}
use Rattle.schema_kinds.specs.declared.record.Record.{Record}
use Rattle.record_layout.specs.Rows.{data_node}
use Rattle.store_calls.specs.Calls.{Call, Give, Ask, Cut, Inside, Tried, Got, Lost, then, then_on}
use Rattle.store_calls.specs.Plans.{Bounded, IsAfter, AsksFor, SaysNext}
use Rattle.object_calls.specs.Saves.{Item, Work, on_new, on_old, look}
use Rattle.read_plan.specs.Reads.{tried_of, is_asking as is_read_asking, is_told as is_read_told, to_come_within as read_to_come}
use Rattle.read_plan.specs.declared.call.ReadStep.{ReadStep}
use Rattle.read_plan.specs.declared.call.ReadStep.TheVariants as read_step
use Rattle.save_looks.specs.declared.call.LookStep.{LookStep}
use Rattle.save_looks.specs.declared.call.LookStep.TheVariants as step
use Rattle.save_looks.specs.declared.call.SaveItem.{SaveItem}
use Rattle.save_looks.specs.declared.phase.Phase.{Phase}
use Rattle.save_looks.specs.declared.phase.Phase.TheVariants as phase

-- the object, as a save means it
abbrev pub item_of : SaveItem → Item
item_of i = record { key = i.key; level = i.level; is_new = i.is_new; now = i.after }

-- what a look answers, where this is the old record
abbrev pub looked : Item → Tried (Option Record) → Tried Work
looked i (Got old) = Got (record { item = i; old = old })
looked i (Lost x) = Lost x

-- behind the read of an old object
abbrev pub judged : Item → Tried (Option Record) → Call (Tried Work)
judged i x = then_on (λ r. Give (on_old i r)) x

module _ (classes : List Class) (i : Item) (most : ℕ) where
  -- the call that is left in each phase
  unfoldable pub to_come_within : Phase → Call (Tried Work)
  to_come_within phase.AtRow = Ask (Get (data_node i.key)) Inside (λ r. Give (on_new i r))
  to_come_within (phase.Reading p) = then (read_to_come classes i.key Inside most None p.phase) (λ r. Give (on_old i r))
  to_come_within (phase.Read o) = judged i (tried_of o)
  to_come_within (phase.Over a) = Give (looked i (tried_of a))
  to_come_within phase.Told = Cut

-- for each number of turns that its walks may have
abbrev pub to_come : List Class → Item → Phase → Bounded (Tried Work)
to_come classes i p = λ most. to_come_within classes i most p

abbrev pub is_asking : Phase → Bool
is_asking phase.AtRow = true
is_asking (phase.Reading p) = is_read_asking p.phase
is_asking _ = false

-- the answer was handed out, or that of the read was
abbrev pub is_told : Phase → Bool
is_told (phase.Reading p) = is_read_told p.phase
is_told phase.Told = true
is_told _ = false

-- the phase leaves the look of any object that is new, or of any that isn't
abbrev pub IsBegun : Bool → Phase → Type 0
IsBegun is_new p = (classes : List Class) (tries most : ℕ) (i : Item) → i.is_new ≡ is_new → to_come classes i p most ≡ look classes tries most i

-- the one phase leaves what the other does
abbrev pub LeavesTheSame : List Class → Item → Phase → Phase → Type 0
LeavesTheSame classes i before now = (most : ℕ) → to_come classes i now most ≡ to_come classes i before most

-- the one phase is behind the other by the reply
abbrev pub IsTaken : List Class → Item → Reply → Phase → Phase → Type 0
IsTaken classes i r before now = IsAfter r (to_come classes i before) (to_come classes i now)

-- what the step says comes next
abbrev pub IsNext : List Class → Item → LookStep → Phase → Type 0
IsNext classes i (step.Ask op) p = SaysNext (AsksFor op) (to_come classes i p)
IsNext classes i (step.Look a) p = (most : ℕ) → to_come classes i p most ≡ Give (looked i (tried_of a))

-- a look that asks waits for the reply, and has the same to do; one that has answered is over
abbrev pub GoesOn : List Class → Item → LookStep → Phase → Phase → Type 0
GoesOn classes i (step.Ask op) before now = (is_asking now ≡ true) × LeavesTheSame classes i before now
GoesOn classes i (step.Look a) before now = now ≡ phase.Told

-- for want of memory it has the same to do
abbrev pub Stays : List Class → Item → Phase → Phase → Type 0
Stays classes i before now = (is_told now ≡ false) × LeavesTheSame classes i before now

-- a record of another class than the object's was read
abbrev pub is_other : Item → Tried (Option Record) → Bool
is_other i (Got (Some r)) = not (same_text r.class.0 i.now.class.0)
is_other i _ = false

abbrev pub reads_other : Item → Phase → Bool
reads_other i (phase.Read o) = is_other i (tried_of o)
reads_other i _ = false

abbrev pub is_reading : Phase → Bool
is_reading (phase.Reading p) = true
is_reading _ = false

-- it has ended, with what was read or with an answer
abbrev pub is_over : Phase → Bool
is_over (phase.Read o) = true
is_over (phase.Over a) = true
is_over _ = false

-- its read asks this; or it isn't at its read, or no longer
abbrev pub GoesToRead : List Class → Item → Option Op → Phase → Phase → Type 0
GoesToRead classes i (Some op) before now = (is_asking now ≡ true) × LeavesTheSame classes i before now × SaysNext (AsksFor op) (to_come classes i before)
GoesToRead classes i None before now = (is_reading now ≡ false) × (is_told now ≡ false) × LeavesTheSame classes i before now
