-- What is copied fits.
use Rattle.std.proofs.Common.{◌≡◌, ℕ, List, [], Option, None, Some, refl, ap, sym, subst, ◌∙◌}
use Rattle.std.specs.Option.{IsSomeAnd}
use Rattle.obj_kinds.specs.declared.name.ClassName.{ClassName}
use Rattle.obj_kinds.specs.declared.sub.Sub.{Sub}
use Rattle.obj_kinds.specs.declared.value.Value.{Value}
use Rattle.schema_kinds.specs.declared.class.Class.{Class}
use Rattle.schema_kinds.specs.declared.kind.Item.TheVariants as of
use Rattle.schema_kinds.specs.Classes.{class_of, props_of}
use Rattle.record_layout.specs.Inverse.{AreGood}
use Rattle.oref_table.specs.declared.oref.Oref.{Oref}
use Rattle.oref_table.specs.declared.slot.Slot.{Slot}
use Rattle.oref_table.specs.declared.slot.Slot.TheVariants.{Plain, Target, To, Items, Map, Members, rolls-Plain, rolls-Target, rolls-To, rolls-Items, rolls-Map, rolls-Members}
use Rattle.oref_table.specs.declared.slot.Slot.TheOpen.{Slot-F}
use Rattle.oref_table.specs.declared.slot.Slot.TheViews.{out-Slot, out-roll-Slot}
use Rattle.oref_table.specs.Memory.{Object, Memory, object_of}
use Rattle.oref_table.specs.Refs.{refs_of}
use Rattle.obj_shape.specs.Elements.{IsStored, IsStoredPart}
use Rattle.obj_shape.specs.Fitting.{IsClassFor, IsElement, IsSlotOf, TableFits}
use Rattle.obj_shape.specs.Records.{slots_at, slots_part}
use Rattle.obj_shape.proofs.FitLaws.{fits-at}
use Rattle.obj_props.proofs.ContentLaws.{element-none, part-none}

pub out-To : (o : Oref) → out-Slot (To o) ≡ Slot-F.To o
out-To o = ap out-Slot (sym (rolls-To o)) ∙ out-roll-Slot (Slot-F.To o)

pub out-Items : (slots : List Slot) → out-Slot (Items slots) ≡ Slot-F.Items slots
out-Items slots = ap out-Slot (sym (rolls-Items slots)) ∙ out-roll-Slot (Slot-F.Items slots)

pub out-Plain : (v : Value) → out-Slot (Plain v) ≡ Slot-F.Plain v
out-Plain v = ap out-Slot (sym (rolls-Plain v)) ∙ out-roll-Slot (Slot-F.Plain v)

pub out-Target : (id : Option (List ℕ)) → out-Slot (Target id) ≡ Slot-F.Target id
out-Target id = ap out-Slot (sym (rolls-Target id)) ∙ out-roll-Slot (Slot-F.Target id)

pub out-Map : (pairs : List (Sub × Slot)) → out-Slot (Map pairs) ≡ Slot-F.Map pairs
out-Map pairs = ap out-Slot (sym (rolls-Map pairs)) ∙ out-roll-Slot (Slot-F.Map pairs)

pub out-Members : (os : List Oref) → out-Slot (Members os) ≡ Slot-F.Members os
out-Members os = ap out-Slot (sym (rolls-Members os)) ∙ out-roll-Slot (Slot-F.Members os)

-- the fields of a part without an object name none
pub items_none : (classes : List Class) (m : Memory) (c : ClassName) (s : Slot) (slots : List Slot) → s ≡ Items slots → IsElement classes m (of.Serial c) (out-Slot s) → refs_of s ≡ []
items_none classes m c s slots e h =
    let is : out-Slot s ≡ Slot-F.Items slots = ap out-Slot e ∙ out-Items slots in
    let stored : IsStoredPart 4 classes c slots = subst (λ v. IsElement classes m (of.Serial c) v) is h in
    element-none classes (IsStoredPart 4 classes) (part-none 4 classes) (of.Serial c) s (subst (λ v. IsStored classes (IsStoredPart 4 classes) (of.Serial c) v) (sym is) stored)

-- the slots of the object of a part are those of its class
pub part_slots : (classes : List Class) (m : Memory) (c : ClassName) (s : Slot) (o : Oref) (slots : List Slot) → TableFits classes m → s ≡ To o → IsElement classes m (of.Serial c) (out-Slot s) → slots ≡ slots_at m o.0
    → AreGood (IsSlotOf classes m) (props_of (class_of classes c)) slots
part_slots classes m c s o slots fits e h is = by (object_of o.0 m.objects) refl (subst (λ v. IsElement classes m (of.Serial c) v) (ap out-Slot e ∙ out-To o) h)
  where
    by : (x : Option Object) → object_of o.0 m.objects ≡ x → IsSomeAnd x (λ t. IsClassFor classes (of.Serial c) t.class) → AreGood (IsSlotOf classes m) (props_of (class_of classes c)) slots
    by None at k = absurd k
    by (Some t) at k =
        let own : slots ≡ t.slots = is ∙ ap slots_part at in
        subst (λ xs. AreGood (IsSlotOf classes m) (props_of (class_of classes c)) xs) (sym own)
        (subst (λ d. AreGood (IsSlotOf classes m) (props_of (class_of classes d)) t.slots) k (fits-at classes m o.0 t fits at).slots)
