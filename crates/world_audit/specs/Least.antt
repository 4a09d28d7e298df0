-- The least of several nodes.
use Rattle.std.specs.Prelude.{◌≡◌, ◌≢◌, ◌⊎◌, cond, List, [], ◌∷◌, Option, None, Some}
use Rattle.std.specs.declared.cmp.Ordering.TheVariants.{Less}
use Rattle.std.specs.Ordering.{is_lt}
use Rattle.obj_kinds.specs.declared.node.Node.{Node}
use Rattle.obj_kinds.specs.Order.{node_cmp}

-- a node in place of the least so far, where it is less
abbrev pub lesser : Option Node → Node → Option Node
lesser None n = Some n
lesser (Some m) n = cond (is_lt (node_cmp n m)) (Some n) (Some m)

-- the least of one that is known and of these
abbrev pub noted : Option Node → List Node → Option Node
noted least [] = least
noted least (n ∷ ns) = noted (lesser least n) ns

-- the nodes that each of several things has are noted
abbrev pub note_each : {A : Type 0} → (A → List Node) → Option Node → List A → Option Node
note_each f least [] = least
note_each f least (x ∷ xs) = note_each f (noted least (f x)) xs

abbrev pub IsAmong : Node → List Node → Type 0
IsAmong n [] = ⊥
IsAmong n (m ∷ ms) = (n ≡ m) ⊎ IsAmong n ms

-- there is a least node, and n isn't less
abbrev pub IsUpTo : Option Node → Node → Type 0
IsUpTo None n = ⊥
IsUpTo (Some m) n = node_cmp n m ≢ Less

abbrev pub IsElement : {A : Type 0} → A → List A → Type 0
IsElement x [] = ⊥
IsElement x (y ∷ ys) = (x ≡ y) ⊎ IsElement x ys

-- the nodes that each of several things has are noted, for each of the things that each of others has
abbrev pub note_pairs : {A B : Type 0} → (A → List B) → (A → B → List Node) → Option Node → List A → Option Node
note_pairs parts f least [] = least
note_pairs parts f least (x ∷ xs) = note_pairs parts f (note_each (f x) least (parts x)) xs
