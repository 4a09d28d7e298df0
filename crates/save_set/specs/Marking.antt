-- Objects that are found one after the other, each looked at once; and whether one of some parts is marked as modified.
use Rattle.std.specs.Prelude.{ℕ, Bool, cond, List, [], ◌∷◌, ◌++◌}
use Rattle.std.specs.Ordering.{nat_cmp}
use Rattle.std.specs.BTreeMap.{is_at}
use Rattle.std.specs.BTreeSet.{insert_key}
use Rattle.std.specs.List.{list_any, flat_map}
use Rattle.obj_kinds.specs.declared.sub.Sub.{Sub}
use Rattle.schema_kinds.specs.declared.class.Class.{Class}
use Rattle.schema_kinds.specs.declared.kind.Item.{Item}
use Rattle.oref_table.specs.declared.slot.Slot.{Slot}
use Rattle.oref_table.specs.declared.slot.Slot.TheViews.{out-Slot}
use Rattle.oref_table.specs.Memory.{Memory, object_of}
use Rattle.object_members.specs.Parts.{element_parts, with_parts_within}
use Rattle.object_members.specs.Seeing.{mark_part, refs_part}
use Rattle.save_set.specs.declared.reach.Reach.{Reach}

-- the OREFs in the slots of the object of the number
abbrev pub refs_at : Memory → ℕ → List ℕ
refs_at m n = refs_part (object_of n m.objects)

-- the numbers of what was found, in order, and of what of it is still to be looked at
pub record Found : Type 0 where
  pub marks : List ℕ
  pub ahead : List ℕ

abbrev pub found_in : Reach → Found
found_in r = record { marks = r.marks.keys; ahead = r.ahead }

abbrev pub has_mark : List ℕ → ℕ → Bool
has_mark marks n = list_any (is_at (nat_cmp n)) marks

-- one more is found, and is to be looked at where it wasn't found before
unfoldable pub mark_one : ℕ → Found → Found
mark_one n f = record { marks = insert_key nat_cmp f.marks n; ahead = f.ahead ++ cond (has_mark f.marks n) [] (n ∷ []) }

abbrev pub mark_each : List ℕ → Found → Found
mark_each [] f = f
mark_each (n ∷ ns) f = mark_each ns (mark_one n f)

-- ---- parts

module _ (classes : List Class) (m : Memory) where
  abbrev pub is_marked_at : ℕ → Bool
  is_marked_at n = mark_part (object_of n m.objects)

  -- the object of the number or one of its parts, no more than so many one in the other
  unfoldable pub any_marked : ℕ → ℕ → Bool
  any_marked depth n = list_any is_marked_at (with_parts_within classes m depth n)

  abbrev pub any_part_marked : ℕ → List ℕ → Bool
  any_part_marked depth ns = list_any (any_marked depth) ns

-- the parts among items and elements
abbrev pub items_parts : Item → List Slot → List ℕ
items_parts i slots = flat_map (λ t. element_parts i (out-Slot t)) slots

abbrev pub pairs_parts : Item → List (Sub × Slot) → List ℕ
pairs_parts i pairs = flat_map (λ p. element_parts i (out-Slot p.1)) pairs
