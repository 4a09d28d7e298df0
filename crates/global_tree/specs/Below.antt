-- The subscripts below a node.
use Rattle.std.specs.Prelude.{◌≡◌, ◌≢◌, Bool, true, cond, List, [], ◌∷◌, ◌++◌, Option, Some, None, is_some, ℕ, ◌+◌}
use Rattle.std.specs.declared.cmp.Ordering.{Ordering}
use Rattle.std.specs.declared.cmp.Ordering.TheVariants.{Less}
use Rattle.std.specs.Ordering.{is_lt, eq_by_cmp}
use Rattle.std.specs.FinMap.{entries, contains_key}
use Rattle.obj_kinds.specs.declared.sub.Sub.{Sub}
use Rattle.obj_kinds.specs.declared.node.Node.{Node}
use Rattle.obj_kinds.specs.Order.{text_cmp, sub_cmp, node_cmp, covers}
use Rattle.global_tree.specs.Contents.{Globals}

-- the first subscript behind the front, if the way begins with it and goes on
abbrev pub sub_behind : List Sub → List Sub → Option Sub
sub_behind [] [] = None
sub_behind [] (s ∷ rest) = Some s
sub_behind (x ∷ front) [] = None
sub_behind (x ∷ front) (y ∷ way) = cond (eq_by_cmp sub_cmp x y) (sub_behind front way) None

-- the subscript by which the way from n down to m goes on
unfoldable pub step_below : Node → Node → Option Sub
step_below n m = cond (eq_by_cmp text_cmp n.global m.global) (sub_behind n.subs m.subs) None

-- whether a subscript comes after the one that is given
abbrev pub is_after : Option Sub → Sub → Bool
is_after None s = true
is_after (Some a) s = is_lt (sub_cmp a s)

abbrev pub if_after : Option Sub → Option Sub → Option Sub
if_after after None = None
if_after after (Some s) = cond (is_after after s) (Some s) None

abbrev pub or_else : {A : Type 0} → Option A → Option A → Option A
or_else None q = q
or_else (Some s) q = Some s

-- the first subscript below n and after the given one, on the way to a node of the list
abbrev pub next_in : {X : Type 0} → Node → Option Sub → List (Node × X) → Option Sub
next_in n after [] = None
next_in n after (e ∷ es) = or_else (if_after after (step_below n e.0)) (next_in n after es)

-- the next subscript below n that has a value or descendants
unfoldable pub next_below : Globals → Node → Option Sub → Option Sub
next_below g n after = next_in n after (entries g)

abbrev pub beyond_by : Option Sub → Option Sub → Ordering → Bool
beyond_by None after order = is_lt order
beyond_by (Some s) after order = is_after after s

-- whether m comes after n and after all that is below n by a subscript up to the one that is given
unfoldable pub is_beyond : Node → Option Sub → Node → Bool
is_beyond n after m = beyond_by (step_below n m) after (node_cmp n m)

abbrev pub child : Node → Sub → Node
child n s = record { global = n.global; subs = n.subs ++ s ∷ [] }

-- the child of n by s has a value or descendants
abbrev pub IsThere : Globals → Node → Sub → Type 0
IsThere g n s = (m : Node) × (covers (child n s) m ≡ true) × (contains_key g m ≡ true)

-- s is the least of the subscripts below n that come after the one that is given
pub record IsNext (g : Globals) (n : Node) (after : Option Sub) (s : Sub) : Type 0 where
  pub late : is_after after s ≡ true
  pub there : IsThere g n s
  pub least : (t : Sub) → is_after after t ≡ true → IsThere g n t → sub_cmp t s ≢ Less

-- there is no subscript below n that comes after the one that is given
abbrev pub IsLast : Globals → Node → Option Sub → Type 0
IsLast g n after = (t : Sub) → is_after after t ≡ true → IsThere g n t → ⊥

-- the node has descendants
abbrev pub HasDescendants : Globals → Node → Type 0
HasDescendants g n = (s : Sub) × IsThere g n s

-- 1 for a value, 10 for descendants, 11 for both, and else 0
unfoldable pub state_at : Globals → Node → ℕ
state_at g n = cond (contains_key g n) 1 0 + cond (is_some (next_below g n None)) 10 0
