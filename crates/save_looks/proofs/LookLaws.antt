-- Looks by their phases.
use Rattle.std.proofs.Common.{◌≡◌, ℕ, suc, Bool, true, false, cond, List, [], Option, None, Some, refl, sym, ap, subst, ◌∙◌}
use Rattle.std.specs.Prelude.{not, Result, Ok, Err}
use Rattle.std.specs.Option.{option_copied}
use Rattle.obj_kinds.specs.declared.name.ClassName.{ClassName}
use Rattle.obj_kinds.specs.declared.op.Op.{Op}
use Rattle.obj_kinds.specs.declared.op.Reply.{Reply}
use Rattle.obj_kinds.specs.declared.cause.Cause.{Cause}
use Rattle.obj_kinds.specs.declared.cause.Cause.TheVariants.{Damaged}
use Rattle.obj_kinds.specs.Texts.{same_text}
use Rattle.record_layout.specs.Rows.{data_node}
use Rattle.schema_kinds.specs.declared.class.Class.{Class}
use Rattle.schema_kinds.specs.declared.key.Key.{Key}
use Rattle.schema_kinds.specs.declared.record.Record.{Record}
use Rattle.store_calls.specs.Calls.{Call, Give, bind, Tag, Inside, Tried, Got, Lost, then_on, run}
use Rattle.store_calls.specs.Plans.{Bounded, IsAfter, AsksFor, SaysNext}
use Rattle.store_calls.proofs.TurnRules.{after_bind, asks_bind}
use Rattle.object_calls.specs.Saves.{Item, Work, on_new, on_old}
use Rattle.read_plan.specs.declared.call.ReadCall.{ReadCall}
use Rattle.read_plan.specs.declared.call.ReadStep.{ReadStep}
use Rattle.read_plan.specs.declared.call.ReadStep.TheVariants as read_step
use Rattle.read_plan.specs.declared.phase.Phase.{Phase as ReadPhase}
use Rattle.read_plan.specs.declared.plan.ReadPlan.{ReadPlan}
use Rattle.read_plan.specs.Reads.{tried_of, is_asking as is_read_asking, StaysAt, to_come_within as read_to_come, IsNext as IsNextRead, IsTaken as IsReadTaken}
use Rattle.save_looks.specs.declared.phase.Phase.{Phase}
use Rattle.save_looks.specs.declared.phase.Phase.TheVariants as phase
use Rattle.save_looks.specs.declared.call.LookStep.{LookStep}
use Rattle.save_looks.specs.declared.call.LookStep.TheVariants as step
use Rattle.save_looks.specs.Looks.{judged, looked, is_other, reads_other, to_come_within, to_come, LeavesTheSame, IsTaken, IsNext, GoesToRead}

-- a read at the same place leaves the same to do
same_reading : (classes : List Class) (i : Item) (p q : ReadPlan) → q.phase ≡ p.phase → LeavesTheSame classes i (phase.Reading p) (phase.Reading q)
unfolding to_come_within
same_reading classes i p q same most = ap (λ d. bind (read_to_come classes i.key Inside most None d) (then_on (λ r. Give (on_old i r)))) same

-- ---- the read of an old object

module _ (c : ReadCall) (classes : List Class) (i : Item) (schema : c.schema.now ≡ classes) (key : c.key.now ≡ i.key) (wanted : option_copied c.wanted ≡ None) where
  -- what holds of the read that was called holds of that of the look
  turned : (P : List Class → Key → Option ClassName → Type 0) → P c.schema.now c.key.now (option_copied c.wanted) → P classes i.key None
  turned P h = subst (λ s. P s i.key None) schema (subst (λ k. P c.schema.now k None) key (subst (λ w. P c.schema.now c.key.now w) wanted h))

  abbrev left_of : ReadPhase → Bounded (Tried (Option Record))
  left_of p most = read_to_come classes i.key Inside most None p

  abbrev behind : Tried (Option Record) → Call (Tried Work)
  behind = then_on (λ r. Give (on_old i r))

  pub read_asks : (p : ReadPlan) (op : Op) → IsNextRead c (read_step.Ask op) p.phase → SaysNext (AsksFor op) (to_come classes i (phase.Reading p))
  unfolding to_come_within
  read_asks p op h = asks_bind op (left_of p.phase) (λ most. behind) (turned (λ s k w. (tag : Tag) → SaysNext (AsksFor op) (λ most. read_to_come s k tag most w p.phase)) h Inside)

  pub read_tells : (p : ReadPlan) (o : Result (Option Record) Cause) → IsNextRead c (read_step.Read o) p.phase → LeavesTheSame classes i (phase.Reading p) (phase.Read o)
  unfolding to_come_within
  read_tells p o h most =
      sym (ap (λ d. bind d behind) (turned (λ s k w. (tag : Tag) (most : ℕ) → read_to_come s k tag most w p.phase ≡ Give (tried_of o)) h Inside most))

  pub read_taken : (p q : ReadPlan) (r : Reply) → IsReadTaken c r p.phase q.phase → IsTaken classes i r (phase.Reading p) (phase.Reading q)
  unfolding to_come_within
  read_taken p q r h =
      after_bind r (left_of p.phase) (left_of q.phase) (λ most. behind)
      (turned (λ s k w. (tag : Tag) → IsAfter r (λ most. read_to_come s k tag most w p.phase) (λ most. read_to_come s k tag most w q.phase)) h Inside)

  -- the read asks, and the look has the same to do
  pub asks_on : (p q : ReadPlan) (s : ReadStep) (op : Op) → s ≡ read_step.Ask op → IsNextRead c s p.phase → StaysAt s p.phase q.phase → GoesToRead classes i (Some op) (phase.Reading p) (phase.Reading q)
  asks_on p q (read_step.Ask asked) op e says stays =
      (ap is_read_asking stays.1 ∙ stays.0, same_reading classes i p q stays.1, subst (λ o. SaysNext (AsksFor o) (to_come classes i (phase.Reading p))) (cc e) (read_asks p asked says))
  asks_on p q (read_step.Read o) op e says stays = absurd (cc e)

  -- it has ended
  pub tells_on : (p : ReadPlan) (s : ReadStep) (o : Result (Option Record) Cause) → s ≡ read_step.Read o → IsNextRead c s p.phase → GoesToRead classes i None (phase.Reading p) (phase.Read o)
  tells_on p s o e says = (refl, refl, read_tells p o (subst (λ x. IsNextRead c x p.phase) e says))

-- ---- steps

pub no_read : (classes : List Class) (i : Item) (before now : Phase) (op : Option Op) → op ≡ None → GoesToRead classes i op before now → LeavesTheSame classes i before now
no_read classes i before now None e h = h.2
no_read classes i before now (Some op) e h = absurd (cc e)

-- where both have the same to do, what comes next is the same
pub next_of_same : (classes : List Class) (i : Item) (before now : Phase) (s : LookStep) → LeavesTheSame classes i before now → IsNext classes i s now → IsNext classes i s before
next_of_same classes i before now (step.Ask op) same h = λ most. (let next = h most in (next.0, ap (λ d. run d []) (sym (same (suc most))) ∙ next.1))
next_of_same classes i before now (step.Look a) same h = λ most. (sym (same most) ∙ h most)

-- ---- the class of an old record

by_class : (i : Item) (r : Record) (b : Bool) → same_text r.class.0 i.now.class.0 ≡ b → judged i (Got (Some r)) ≡ Give (cond b (Got (record { item = i; old = Some r })) (Lost (Damaged (data_node i.key))))
by_class i r b e = ap (λ c. Give (cond c (Got (record { item = i; old = Some r })) (Lost (Damaged (data_node i.key))))) e

not_true : (b : Bool) → not b ≡ true → b ≡ false
not_true true h = absurd (cc h)
not_true false h = refl

not_false : (b : Bool) → not b ≡ false → b ≡ true
not_false true h = refl
not_false false h = absurd (cc h)

-- another class than the object's
pub other_told : (classes : List Class) (i : Item) (p : Phase) (most : ℕ) → reads_other i p ≡ true → to_come classes i p most ≡ Give (Lost (Damaged (data_node i.key)))
unfolding to_come_within
other_told classes i (phase.Read (Ok (Some r))) most h = by_class i r false (not_true (same_text r.class.0 i.now.class.0) h)
other_told classes i (phase.Read (Ok None)) most h = absurd (cc h)
other_told classes i (phase.Read (Err x)) most h = absurd (cc h)
other_told classes i phase.AtRow most h = absurd (cc h)
other_told classes i (phase.Reading p) most h = absurd (cc h)
other_told classes i (phase.Over a) most h = absurd (cc h)
other_told classes i phase.Told most h = absurd (cc h)

-- its own class
pub own_told : (i : Item) (r : Record) → is_other i (Got (Some r)) ≡ false → judged i (Got (Some r)) ≡ Give (looked i (Got (Some r)))
own_told i r h = by_class i r true (not_false (same_text r.class.0 i.now.class.0) h)

-- ---- the row of a new object

pub row_taken : (classes : List Class) (i : Item) (r : Reply) (a : Result (Option Record) Cause) → looked i (tried_of a) ≡ on_new i r → IsTaken classes i r phase.AtRow (phase.Over a)
unfolding to_come_within
row_taken classes i r a e most rs le = ap (λ t. run (Give t) rs) e
