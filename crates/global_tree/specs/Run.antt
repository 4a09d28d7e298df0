-- The places of a node and its descendants, which stand together.
use Rattle.std.specs.Prelude.{◌≡◌, ℕ, ◌<◌, ◌≤◌, Bool, true, false, not, ◌&&◌, zero, suc, List, [], ◌∷◌, length, slice_index_or}
use Rattle.std.specs.Ordering.{is_lt}
use Rattle.obj_kinds.specs.declared.node.Node.{Node}
use Rattle.obj_kinds.specs.Order.{node_cmp, covers}
use Rattle.global_tree.specs.declared.place.Place.{Place}
use Rattle.global_tree.specs.Places.{emptied}

-- whether m comes after n and all its descendants
unfoldable pub is_past : Node → Node → Bool
is_past n m = is_lt (node_cmp n m) && not (covers n m)

-- the places from i to j, and no others, are those of n and its descendants
pub record IsRun (es : List (Node × Place)) (n : Node) (i j : ℕ) : Type 0 where
  pub order : i ≤ j
  pub within : j ≤ length es
  pub before : (k : ℕ) (d : Node × Place) → k < i → let e = slice_index_or es k d in covers n e.0 ≡ false
  pub inside : (k : ℕ) (d : Node × Place) → i ≤ k → k < j → let e = slice_index_or es k d in covers n e.0 ≡ true
  pub behind : (k : ℕ) (d : Node × Place) → j ≤ k → k < length es → let e = slice_index_or es k d in covers n e.0 ≡ false

abbrev pub empty_one : Node × Place → Node × Place
empty_one e = (e.0, emptied e.1)

-- with the places from i on emptied, as many as said
abbrev pub emptied_in : ℕ → ℕ → List (Node × Place) → List (Node × Place)
emptied_in zero zero es = es
emptied_in zero (suc m) [] = []
emptied_in zero (suc m) (e ∷ es) = empty_one e ∷ emptied_in zero m es
emptied_in (suc i) m [] = []
emptied_in (suc i) m (e ∷ es) = e ∷ emptied_in i m es
