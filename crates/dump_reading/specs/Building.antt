-- Values that are read list by list: the items so far of each open list, the innermost first, and last those of the whole.
use Rattle.std.specs.Prelude.{Bool, nat_le, List, [], ◌∷◌, ◌++◌, length, Option, None, Some}
use Rattle.obj_kinds.specs.declared.value.Value.{Value}
use Rattle.obj_kinds.specs.declared.value.Value.TheVariants as value

abbrev pub Open : Type 0
Open = List (List Value)

-- one item more in the innermost list
abbrev pub with_value : Value → Open → Open
with_value v [] = []
with_value v (items ∷ outer) = (items ++ v ∷ []) ∷ outer

-- the innermost list ends, and is an item of the one around it
abbrev pub closed : Open → Open
closed [] = []
closed (items ∷ []) = items ∷ []
closed (items ∷ around ∷ outer) = (around ++ value.List items ∷ []) ∷ outer

-- whether 16 lists are open
abbrev pub is_full : Open → Bool
is_full lists = nat_le 17 (length lists)

-- the one value of the whole, where no list is open
abbrev pub whole_value : Open → Option Value
whole_value ((v ∷ []) ∷ []) = Some v
whole_value _ = None
