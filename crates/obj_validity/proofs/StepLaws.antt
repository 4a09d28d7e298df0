-- A part has one level of parts less in it.
use Rattle.std.proofs.Common.{◌≡◌, ◌≢◌, ℕ, zero, suc, ◌+◌, ◌-◌, [], ◌∷◌, ◌++◌, length, subst, sym, List, Option, None, Some, map, refl, ap, ◌∙◌, arith}
use Rattle.obj_kinds.specs.declared.name.ClassName.{ClassName}
use Rattle.obj_kinds.specs.declared.cause.Why.{Why}
use Rattle.schema_kinds.specs.declared.class.Class.{Class}
use Rattle.schema_kinds.specs.Classes.{class_of, props_of}
use Rattle.oref_table.specs.declared.slot.Slot.{Slot}
use Rattle.oref_table.specs.Memory.{Memory}
use Rattle.obj_shape.specs.Records.{fields_by, part_fields}
use Rattle.schema_kinds.specs.declared.record.Field.TheVariants as field
use Rattle.obj_validity.specs.Faults.{part_fault, props_fault}
use Rattle.obj_validity.specs.Weights.{room_after, share, total}
use Rattle.record_layout.specs.Shapes.{Form, form_of}
use Rattle.schema_kinds.specs.declared.prop.Prop.{Prop}
use Rattle.schema_kinds.specs.declared.record.Field.{Field}
use Rattle.std.specs.Option.{option_map}
use Rattle.std.specs.Prelude.{option_to_list}
use Rattle.oref_table.specs.declared.slot.Slot.TheViews.{out-Slot}
use Rattle.obj_shape.specs.Records.{field_by}
use Rattle.obj_validity.proofs.RoomLaws.{room_none, room_then, room_stop}
use Rattle.obj_validity.proofs.ShareLaws.{share_part, shares_then, shares_stop}

pub part_step : (n : ℕ) (classes : List Class) (m : Memory) (drawn : List (ℕ × List ℕ)) (c : ClassName) (slots : List Slot) → n ≢ 0
    → part_fields n classes m drawn c slots ≡ Some (fields_by m drawn (part_fields (n - 1) classes m drawn) (props_of (class_of classes c)) slots)
part_step zero classes m drawn c slots h = absurd (h refl)
part_step (suc n) classes m drawn c slots h =
    ap (λ k. Some (fields_by m drawn (part_fields k classes m drawn) (props_of (class_of classes c)) slots)) (let e : n ≡ suc n - 1 = omega arith in e)

pub fault_step : (n : ℕ) (classes : List Class) (m : Memory) (c : ClassName) (slots : List Slot) → n ≢ 0
    → part_fault n classes m c slots ≡ props_fault m (part_fault (n - 1) classes m) (props_of (class_of classes c)) slots
fault_step zero classes m c slots h = absurd (h refl)
fault_step (suc n) classes m c slots h =
    ap (λ k. props_fault m (part_fault k classes m) (props_of (class_of classes c)) slots) (let e : n ≡ suc n - 1 = omega arith in e)

part_share : (n : ℕ) (classes : List Class) (m : Memory) (drawn : List (ℕ × List ℕ)) (c : ClassName) (slots : List Slot) → n ≢ 0
    → share (field.Part (part_fields n classes m drawn c slots)) ≡ 4 + total (map share (fields_by m drawn (part_fields (n - 1) classes m drawn) (props_of (class_of classes c)) slots))
part_share n classes m drawn c slots h =
    ap (λ p. share (field.Part p)) (part_step n classes m drawn c slots h) ∙ share_part (fields_by m drawn (part_fields (n - 1) classes m drawn) (props_of (class_of classes c)) slots)

-- what is left for the fields of a part, in what is left once it has its own 4
pub part_then : (n : ℕ) (classes : List Class) (m : Memory) (drawn : List (ℕ × List ℕ)) (c : ClassName) (slots : List Slot) (r q : ℕ) → n ≢ 0 → room_after r 4 ≡ Some q
    → room_after r (share (field.Part (part_fields n classes m drawn c slots))) ≡ room_after q (total (map share (fields_by m drawn (part_fields (n - 1) classes m drawn) (props_of (class_of classes c)) slots)))
part_then n classes m drawn c slots r q h e =
    ap (room_after r) (part_share n classes m drawn c slots h) ∙ room_then r 4 (total (map share (fields_by m drawn (part_fields (n - 1) classes m drawn) (props_of (class_of classes c)) slots))) q e

pub part_stop : (n : ℕ) (classes : List Class) (m : Memory) (drawn : List (ℕ × List ℕ)) (c : ClassName) (slots : List Slot) (r : ℕ) → n ≢ 0 → room_after r 4 ≡ None
    → room_after r (share (field.Part (part_fields n classes m drawn c slots))) ≡ None
part_stop n classes m drawn c slots r h e =
    ap (room_after r) (part_share n classes m drawn c slots h) ∙ room_stop r 4 (total (map share (fields_by m drawn (part_fields (n - 1) classes m drawn) (props_of (class_of classes c)) slots))) e

-- nothing is left to be put in
pub items_left : {X : Type 0} (f : X → ℕ) (xs : List X) (r : ℕ) → length xs ≡ 0 → room_after r (total (map f xs)) ≡ Some r
items_left f [] r h = room_none r
items_left f (x ∷ xs) r h = absurd (omega (arith, h))

module _ (m : Memory) (drawn : List (ℕ × List ℕ)) (part : ClassName → List Slot → Option (List Field)) where
  pub slots_left : (ps : List Prop) (ss : List Slot) (r : ℕ) → length ss ≡ 0 → room_after r (total (map share (fields_by m drawn part ps ss))) ≡ Some r
  slots_left [] ss r h = room_none r
  slots_left (p ∷ ps) [] r h = room_none r
  slots_left (p ∷ ps) (s ∷ ss) r h = absurd (omega (arith, h))

  pub props_left : (ps : List Prop) (ss : List Slot) (r : ℕ) → length ps ≡ 0 → room_after r (total (map share (fields_by m drawn part ps ss))) ≡ Some r
  props_left [] ss r h = room_none r
  props_left (p ∷ ps) ss r h = absurd (omega (arith, h))

  fields_as : (w ps : List Prop) (rs ss : List Slot) (p : Prop) (s : Slot) → w ≡ p ∷ ps → rs ≡ s ∷ ss
      → fields_by m drawn part w rs ≡ option_to_list (option_map (λ form. field_by m drawn part form (out-Slot s)) (form_of p.kind)) ++ fields_by m drawn part ps ss
  fields_as w ps rs ss p s e f = ap (λ x. fields_by m drawn part x rs) e ∙ ap (λ x. fields_by m drawn part (p ∷ ps) x) f

  -- one more is put in
  pub field_then : (w ps : List Prop) (rs ss : List Slot) (p : Prop) (s : Slot) (r q : ℕ) → w ≡ p ∷ ps → rs ≡ s ∷ ss
      → Some q ≡ room_after r (total (map share (option_to_list (option_map (λ form. field_by m drawn part form (out-Slot s)) (form_of p.kind)))))
      → room_after r (total (map share (fields_by m drawn part w rs))) ≡ room_after q (total (map share (fields_by m drawn part ps ss)))
  field_then w ps rs ss p s r q e f h =
      ap (λ fs. room_after r (total (map share fs))) (fields_as w ps rs ss p s e f)
      ∙ shares_then r q (option_to_list (option_map (λ form. field_by m drawn part form (out-Slot s)) (form_of p.kind))) (fields_by m drawn part ps ss) (sym h)

  pub field_stop : (w ps : List Prop) (rs ss : List Slot) (p : Prop) (s : Slot) (r : ℕ) → w ≡ p ∷ ps → rs ≡ s ∷ ss
      → None ≡ room_after r (total (map share (option_to_list (option_map (λ form. field_by m drawn part form (out-Slot s)) (form_of p.kind)))))
      → room_after r (total (map share (fields_by m drawn part w rs))) ≡ None
  field_stop w ps rs ss p s r e f h =
      ap (λ fs. room_after r (total (map share fs))) (fields_as w ps rs ss p s e f)
      ∙ shares_stop r (option_to_list (option_map (λ form. field_by m drawn part form (out-Slot s)) (form_of p.kind))) (fields_by m drawn part ps ss) (sym h)
