-- What the places of a tree, in node order, hold.
use Rattle.std.specs.Prelude.{◌≤◌, IsTrue, ℕ, ◌+◌, cond, is_some, List, [], ◌∷◌, Option, None, Some}
use Rattle.std.specs.FinMap.{from_sorted, is_sorted}
use Rattle.obj_kinds.specs.declared.node.Node.{Node}
use Rattle.obj_kinds.specs.Order.{node_cmp}
use Rattle.obj_kinds.specs.declared.value.Value.{Value}
use Rattle.global_tree.specs.declared.place.Place.{Place}
use Rattle.global_tree.specs.Contents.{Contents, counted}

abbrev pub part_by : {K Y : Type 0} → K → Option Y → List (K × Y) → List (K × Y)
part_by k None es = es
part_by k (Some y) es = (k, y) ∷ es

-- the pairs for whose value f has an answer, with that answer
abbrev pub part : {K X Y : Type 0} → (X → Option Y) → List (K × X) → List (K × Y)
part f [] = []
part f (e ∷ es) = part_by e.0 (f e.1) (part f es)

abbrev pub value_in : Place → Option Value
value_in p = p.value

abbrev pub pins_in : Place → Option ℕ
pins_in p = counted p.pins

unfoldable pub contents : List (Node × Place) → Contents
contents places = record { globals = from_sorted (part value_in places); pins = from_sorted (part pins_in places) }

-- without its value, and pinned once more if it had one
unfoldable pub emptied : Place → Place
emptied p = cond (is_some p.value) (record { value = None; pins = p.pins + 1 }) p

-- it has a value or a pin
abbrev pub IsLive : Place → Type 0
IsLive p = 1 ≤ p.pins + cond (is_some p.value) 1 0

abbrev pub AllLive : List (Node × Place) → Type 0
AllLive [] = Unit {0}
AllLive (e ∷ es) = IsLive e.1 × AllLive es

-- what is true of the places of a tree: rising nodes, and no place without a value and pins
pub record IsTree (es : List (Node × Place)) : Type 0 where
  pub rising : IsTrue (is_sorted node_cmp es)
  pub live : AllLive es
