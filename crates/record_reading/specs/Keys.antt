-- The subscripts by which nodes stand below a node.
use Rattle.std.specs.Prelude.{◌≡◌, ℕ, ◌≤◌, List, [], ◌∷◌, drop, length, Option, None, Some, IsTrue}
use Rattle.std.specs.FinMap.{is_sorted}
use Rattle.std.specs.FinMap.Entries.{below_all}
use Rattle.obj_kinds.specs.declared.node.Node.{Node}
use Rattle.obj_kinds.specs.declared.sub.Sub.{Sub}
use Rattle.obj_kinds.specs.declared.value.Value.{Value}
use Rattle.obj_kinds.specs.Order.{node_cmp}
use Rattle.global_tree.specs.Below.{step_below, if_after}

-- a subscript that is there, and those behind it
abbrev pub key_then : Option Sub → List Sub → (Sub → List Sub) → List Sub
key_then None others next = others
key_then (Some k) others next = k ∷ next k

-- the subscripts below n on the way to nodes of the list, as far as each comes after those before it
abbrev pub keys_after : Node → Option Sub → List (Node × Value) → List Sub
keys_after n last [] = []
keys_after n last (e ∷ es) = key_then (if_after last (step_below n e.0)) (keys_after n last es) (λ k. keys_after n (Some k) es)

-- the subscripts right below n, each once, of nodes in rising order
unfoldable pub keys_below : Node → List (Node × Value) → List Sub
keys_below n nodes = keys_after n None nodes

-- from the place on all nodes come behind n, and those before it have nothing below n
pub record IsStart (n : Node) (es : List (Node × Value)) (i : ℕ) : Type 0 where
  pub within : i ≤ length es
  pub keys : keys_after n None (drop i es) ≡ keys_after n None es
  pub rising : IsTrue (is_sorted node_cmp (drop i es))
  pub behind : IsTrue (below_all node_cmp n (drop i es))
