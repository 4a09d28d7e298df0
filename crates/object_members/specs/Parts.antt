-- The parts of an object that have objects of their own: their numbers, at any depth.
use Rattle.std.specs.Prelude.{ℕ, zero, suc, List, [], ◌∷◌, ◌++◌, Option, None, Some}
use Rattle.std.specs.List.{flat_map}
use Rattle.schema_kinds.specs.declared.class.Class.{Class}
use Rattle.schema_kinds.specs.declared.prop.Prop.{Prop}
use Rattle.schema_kinds.specs.declared.kind.Item.{Item}
use Rattle.schema_kinds.specs.declared.kind.Item.TheVariants as of
use Rattle.schema_kinds.specs.Classes.{class_of, props_of}
use Rattle.record_layout.specs.Shapes.{Form, single, listed, keyed, form_of}
use Rattle.oref_table.specs.declared.slot.Slot.{Slot}
use Rattle.oref_table.specs.declared.slot.Slot.TheOpen.{Slot-F}
use Rattle.oref_table.specs.declared.slot.Slot.TheViews.{out-Slot}
use Rattle.oref_table.specs.Memory.{Object, Memory, object_of}
use Rattle.obj_shape.specs.Records.{items_of, pairs_of}

abbrev pub oref_in : Slot-F Slot → List ℕ
oref_in (Slot-F.To o) = o.0 ∷ []
oref_in _ = []

-- an element is a part where its class is serial
abbrev pub element_parts : Item → Slot-F Slot → List ℕ
element_parts (of.Serial c) s = oref_in s
element_parts i s = []

abbrev pub form_parts : Option Form → Slot-F Slot → List ℕ
form_parts None s = []
form_parts (Some (single i)) s = element_parts i s
form_parts (Some (listed i)) s = flat_map (λ t. element_parts i (out-Slot t)) (items_of s)
form_parts (Some (keyed i)) s = flat_map (λ p. element_parts i (out-Slot p.1)) (pairs_of s)

-- in the order of the properties
abbrev pub props_parts : List Prop → List Slot → List ℕ
props_parts [] slots = []
props_parts (p ∷ ps) [] = []
props_parts (p ∷ ps) (s ∷ ss) = form_parts (form_of p.kind) (out-Slot s) ++ props_parts ps ss

module _ (classes : List Class) (m : Memory) where
  abbrev pub parts_part : Option Object → List ℕ
  parts_part None = []
  parts_part (Some o) = props_parts (props_of (class_of classes o.class)) o.slots

  -- the object of the number and its parts, no more than so many one in the other
  abbrev pub with_parts_within : ℕ → ℕ → List ℕ
  with_parts_within zero n = n ∷ []
  with_parts_within (suc depth) n = n ∷ flat_map (with_parts_within depth) (parts_part (object_of n m.objects))

  -- parts nest at most 4 deep
  abbrev pub with_parts : ℕ → List ℕ
  with_parts n = with_parts_within 4 n
