-- What an opening has still to do in each of its phases, where this is the memory.
use Rattle.std.specs.Prelude.{◌≡◌, ℕ, Bool, true, false, List, [], Option, Some, None, Result, Ok, Err}
use Rattle.obj_kinds.specs.declared.name.ClassName.{ClassName}
use Rattle.obj_kinds.specs.declared.cause.Cause.{Cause}
use Rattle.obj_kinds.specs.declared.op.Op.{Op}
use Rattle.obj_kinds.specs.declared.op.Reply.{Reply}
use Rattle.schema_kinds.specs.declared.class.Class.{Class}
use Rattle.schema_kinds.specs.declared.key.Key.{Key}
use Rattle.schema_kinds.specs.declared.record.Record.{Record}
use Rattle.oref_table.specs.Memory.{Memory, IsLive}
use Rattle.oref_table.specs.Sound.{IsFree}
use Rattle.store_calls.specs.Calls.{Call, Give, Cut, bind, Tried, Got, Lost, run}
use Rattle.store_calls.specs.Plans.{Bounded, IsAfter, AsksFor, SaysNext}
use Rattle.object_calls.specs.Loads.{LoadCall}
use Rattle.object_calls.specs.Memories.{Seen}
use Rattle.object_calls.specs.ObjectCalls.{loaded, live_opened, open_seen, open_object}
use Rattle.object_members.specs.Seeing.{with_loaded, memories}
use Rattle.load_plan.specs.Loads.{load_of, is_asking as is_load_asking, is_told as is_load_told, to_come_within as load_to_come}
use Rattle.load_plan.specs.Raises.{is_asking as is_raise_asking, is_told as is_raise_told, to_come as raise_to_come}
use Rattle.open_plan.specs.declared.phase.Phase.{Phase}
use Rattle.open_plan.specs.declared.phase.Phase.TheVariants as phase
use Rattle.open_plan.specs.declared.step.OpenStep.{OpenStep}
use Rattle.open_plan.specs.declared.step.OpenStep.TheVariants as step

-- an object of that key is wanted at that level
abbrev pub wanting : Key → ClassName → ℕ → LoadCall
wanting key class level = record { key = key; class = class; level = level; touch = false }

module _ (m : Memory) where
  -- memory and answer, where this was read
  abbrev pub made : List Class → LoadCall → Tried Record → Memory × Tried ℕ
  made classes l x = loaded (memories classes) classes 0 0 m l x

  -- and where the object of the number was raised from the first level to the second
  abbrev pub raised : ClassName → Key → ℕ → ℕ → ℕ → Tried (Unit {0}) → Memory × Tried ℕ
  raised class key n from to x = live_opened (memories []) [] 0 0 m (wanting key class to) n from x

  -- the call that is left in each phase
  unfoldable pub to_come_within : ℕ → Phase → Call (Memory × Tried ℕ)
  to_come_within most (phase.Loading p) = bind (load_to_come p.schema.now (load_of p.call) 0 most p.phase) (λ x. Give (made p.schema.now (load_of p.call) x))
  to_come_within most (phase.Found f) = Give (made f.schema.now (wanting f.key f.read.class f.level) (Got f.read))
  to_come_within most (phase.Raising r) =
      bind (raise_to_come r.plan.call r.plan.phase) (λ x. Give (raised r.plan.call.key.extent r.plan.call.key r.oref.0 r.plan.call.from r.plan.call.to x))
  to_come_within most (phase.Raised r) = Give (raised r.key.extent r.key r.oref.0 r.from r.to (Got tt))
  to_come_within most (phase.Refused x) = Give (m, Lost x)
  to_come_within most (phase.Opened r) = Cut

  -- for each number of turns that its walks may have
  abbrev pub to_come : Phase → Bounded (Memory × Tried ℕ)
  to_come p = λ most. to_come_within most p

  -- the opening that was called, by its replies
  abbrev pub IsBegun : List Class → LoadCall → ℕ → Phase → Type 0
  IsBegun classes l tries p = (most : ℕ) (rs : List Reply) → run (to_come p most) rs ≡ run (open_object (memories classes) classes tries most m l) rs

  -- the one phase leaves what the other does
  abbrev pub LeavesTheSame : Phase → Phase → Type 0
  LeavesTheSame before now = (most : ℕ) → to_come now most ≡ to_come before most

  -- the one phase is behind the other by the reply
  abbrev pub IsTaken : Reply → Phase → Phase → Type 0
  IsTaken r before now = IsAfter r (to_come before) (to_come now)

  -- what the memory has for the phase: the key has no live object yet, or the object is live
  abbrev pub HasPlace : Phase → Type 0
  HasPlace (phase.Loading p) = IsFree p.call.key.extent p.call.key.id m.objects
  HasPlace (phase.Found f) = IsFree f.key.extent f.key.id m.objects
  HasPlace (phase.Raising r) = IsLive m r.oref.0
  HasPlace (phase.Raised r) = IsLive m r.oref.0
  HasPlace _ = Unit {0}

abbrev pub is_asking : Phase → Bool
is_asking (phase.Loading p) = is_load_asking p.phase
is_asking (phase.Raising r) = is_raise_asking r.plan.phase
is_asking _ = false

-- the object was handed out, or the refusal; or the answer of the load or raise was
abbrev pub is_opened : Phase → Bool
is_opened (phase.Loading p) = is_load_told p.phase
is_opened (phase.Raising r) = is_raise_told r.plan.phase
is_opened (phase.Opened r) = true
is_opened _ = false

abbrev pub is_over : Phase → Bool
is_over (phase.Opened r) = true
is_over _ = false

-- the record of which an object was made
abbrev pub found_in : Phase → Option Record
found_in (phase.Opened r) = r
found_in _ = None

-- ---- an opening begins

-- an object of the number that has that class and level is opened, by its replies
abbrev pub IsLiveBegun : List Class → LoadCall → ℕ → ℕ → ClassName → ℕ → Phase → Type 0
IsLiveBegun classes l tries n class level p =
    (m : Memory) (s : Seen) (most : ℕ) (rs : List Reply) → s.class ≡ class → s.level ≡ level
    → run (to_come m p most) rs ≡ run (open_seen (memories classes) classes tries most m l n (Some s)) rs

-- where the object of the number is live, the phase has its place
abbrev pub HasPlaceAt : ℕ → Phase → Type 0
HasPlaceAt n p = (m : Memory) → IsLive m n → HasPlace m p

-- ---- an opening goes on

abbrev pub is_loading : Phase → Bool
is_loading (phase.Loading p) = true
is_loading _ = false

abbrev pub is_raising : Phase → Bool
is_raising (phase.Raising r) = true
is_raising _ = false

abbrev pub is_found : Phase → Bool
is_found (phase.Found f) = true
is_found _ = false

abbrev pub is_refused : Phase → Bool
is_refused (phase.Refused x) = true
is_refused _ = false

-- the load or the raise is over
abbrev pub is_settled : Phase → Bool
is_settled (phase.Found f) = true
is_settled (phase.Raised r) = true
is_settled (phase.Refused x) = true
is_settled _ = false

-- behind its load, and behind its raise
abbrev pub load_ended : Result Record Cause → Phase → Phase
load_ended (Ok r) (phase.Loading p) = phase.Found (record { schema = p.schema; key = p.call.key; level = p.call.level; read = r })
load_ended (Ok r) p = p
load_ended (Err x) p = phase.Refused x

abbrev pub raise_ended : Result (Unit {0}) Cause → Phase → Phase
raise_ended (Ok _) (phase.Raising r) = phase.Raised (record { oref = r.oref; key = r.plan.call.key; from = r.plan.call.from; to = r.plan.call.to })
raise_ended (Ok _) p = p
raise_ended (Err x) p = phase.Refused x

-- behind the making of its object
abbrev pub object_made : Phase → Phase
object_made (phase.Found f) = phase.Opened (Some f.read)
object_made p = p

-- it keeps its place, and has the same to do
abbrev pub KeepsPlace : Phase → Phase → Type 0
KeepsPlace before now = (m : Memory) → HasPlace m before → HasPlace m now

abbrev pub Stays : Phase → Phase → Type 0
Stays before now = (is_opened now ≡ false) × KeepsPlace before now × ((m : Memory) → LeavesTheSame m before now)

-- its load or raise asks this; or it is over
abbrev pub TurnsOn : Option Op → Phase → Phase → Type 0
TurnsOn (Some op) before now =
    (is_asking now ≡ true) × KeepsPlace before now × ((m : Memory) → LeavesTheSame m before now) × ((m : Memory) → SaysNext (AsksFor op) (to_come m before))
TurnsOn None before now = (is_settled now ≡ true) × KeepsPlace before now × ((m : Memory) → LeavesTheSame m before now)

-- What the step says comes next. What is asked leaves the memory; the answer comes with the memory that it leaves.
abbrev pub IsNext : Memory → Memory → OpenStep → Phase → Type 0
IsNext m now (step.Ask op) p = (now ≡ m) × SaysNext (AsksFor op) (to_come m p)
IsNext m now (step.Open (Ok h)) p = (most : ℕ) → to_come m p most ≡ Give (now, Got h.number)
IsNext m now (step.Open (Err x)) p = (most : ℕ) → to_come m p most ≡ Give (now, Lost x)

-- the object of the number was made of the record, under some key at some level; or it was live before
abbrev pub IsMadeOf : Memory → Memory → ℕ → Option Record → Type 0
IsMadeOf m now n (Some r) = (classes : List Class) × (l : LoadCall) × (with_loaded classes l r m ≡ (now, n))
IsMadeOf m now n None = IsLive m n

-- an opening that asks waits for the reply, and has the same to do; one that has answered is over, and has the record of
-- the object that it made
abbrev pub GoesOn : Memory → Memory → OpenStep → Phase → Phase → Type 0
GoesOn m now (step.Ask op) before after = (is_asking after ≡ true) × KeepsPlace before after × ((m : Memory) → LeavesTheSame m before after)
GoesOn m now (step.Open (Ok h)) before after = (is_over after ≡ true) × IsMadeOf m now h.number (found_in after)
GoesOn m now (step.Open (Err x)) before after = after ≡ phase.Opened None
