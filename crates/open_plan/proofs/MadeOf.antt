-- The object that a load makes.
use Rattle.std.proofs.Common.{◌≡◌, ℕ, ◌+◌, List, Some, Result, Ok, Err, OnOk, IfOk, sym, ap, ◌∙◌}
use Rattle.obj_kinds.specs.declared.name.ClassName.{ClassName}
use Rattle.schema_kinds.specs.declared.class.Class.{Class}
use Rattle.schema_kinds.specs.declared.key.Key.{Key}
use Rattle.schema_kinds.specs.declared.record.Field.{Field}
use Rattle.schema_kinds.specs.declared.record.Record.{Record}
use Rattle.oref_table.specs.declared.slot.Slot.{Slot}
use Rattle.oref_table.specs.Memory.{Memory, fresh, with_object}
use Rattle.obj_shape.specs.Slots.{slots_of}
use Rattle.object_members.specs.Seeing.{props_at, with_loaded}
use Rattle.open_plan.specs.Opens.{wanting}

pub object_of_record : (classes : List Class) (key : Key) (level : ℕ) (r : Record) (m w : Memory) (class extent : ClassName) (slots : List Slot) (fields : List Field) (n : ℕ) → class ≡ r.class → extent ≡ key.extent
    → slots ≡ slots_of (props_at classes class) fields → fields ≡ r.fields → w ≡ with_object m (fresh m class (Some extent) (Some key.id) level slots) → n ≡ m.last + 1
    → with_loaded classes (wanting key r.class level) r m ≡ (w, n)
unfolding with_loaded
object_of_record classes key level r m w class extent slots fields n a b c d e f =
    let filled : slots ≡ slots_of (props_at classes r.class) r.fields = c ∙ ap (λ k. slots_of (props_at classes k) fields) a ∙ ap (slots_of (props_at classes r.class)) d in
    let all : w ≡ with_object m (fresh m r.class (Some key.extent) (Some key.id) level (slots_of (props_at classes r.class) r.fields))
    = e ∙ ap (λ k. with_object m (fresh m k (Some extent) (Some key.id) level slots)) a
    ∙ ap (λ k. with_object m (fresh m r.class (Some k) (Some key.id) level slots)) b
    ∙ ap (λ k. with_object m (fresh m r.class (Some key.extent) (Some key.id) level k)) filled in
    λ i. (sym all i, sym f i)

pub both_ok : {A E : Type 0} {P : Type 0} {Q S : A → Type 0} (r : Result A E) → ((a : A) → P → Q a → S a) → OnOk r P → IfOk r Q → IfOk r S
both_ok (Ok a) f h k = f a h k
both_ok (Err e) f h k = tt
