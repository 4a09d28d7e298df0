-- A walk over the elements of an array.
use Rattle.std.specs.Prelude.{ℕ, Bool, cond, List, [], ◌∷◌, ◌++◌, Option, Some, None}
use Rattle.obj_kinds.specs.declared.node.Node.{Node}
use Rattle.obj_kinds.specs.declared.sub.Sub.{Sub}
use Rattle.obj_kinds.specs.declared.value.Value.{Value}
use Rattle.obj_kinds.specs.declared.op.Op.TheVariants.{Get, Order}
use Rattle.obj_kinds.specs.declared.op.Reply.{Reply}
use Rattle.obj_kinds.specs.declared.op.Reply.TheVariants.{Found, Next}
use Rattle.obj_kinds.specs.declared.cause.Cause.TheVariants.{Damaged}
use Rattle.store_calls.specs.Calls.{Call, Give, Ask, Tag, Tried, Got, Lost, Round, Again, Ends, turns}

unfoldable pub child : Node → Sub → Node
child n s = record { global = n.global; subs = n.subs ++ s ∷ [] }

abbrev pub Elements : Type 0
Elements = List (Sub × Value)

-- behind a key, with what was found so far
pub record Walk : Type 0 where
  pub behind : Option Sub
  pub found : Elements

abbrev pub first_walk : Walk
first_walk = record { behind = None; found = [] }

-- the array below the node n; an element must have the form that is asked
module _ (n : Node) (tag : Tag) (is_form : Node → Value → Bool) where
  abbrev pub on_element : Elements → Sub → Reply → Tried (Round Walk Elements)
  on_element found k (Found v) = cond (is_form (child n k) v) (Got (Again (record { behind = Some k; found = found ++ (k, v) ∷ [] }))) (Lost (Damaged (child n k)))
  on_element found k _ = Lost (Damaged (child n k))

  abbrev pub element : Elements → Sub → Call (Tried (Round Walk Elements))
  element found k = Ask (Get (child n k)) tag (λ r. Give (on_element found k r))

  abbrev pub on_key : Elements → Reply → Call (Tried (Round Walk Elements))
  on_key found (Next k) = element found k
  on_key found _ = Give (Got (Ends found))

  -- one key and its element
  abbrev pub walk_turn : Walk → Call (Tried (Round Walk Elements))
  walk_turn w = Ask (Order n w.behind) tag (on_key w.found)

  unfoldable pub walk : ℕ → Walk → Call (Tried Elements)
  walk most w = turns most walk_turn w
