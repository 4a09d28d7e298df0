-- What a field adds to the list in which it is stored, where each reference counts 64.
use Rattle.std.specs.Prelude.{ℕ, ◌+◌, ◌-◌, nat_le, cond, List, [], ◌∷◌, length, Option, None, Some}
use Rattle.schema_kinds.specs.declared.record.Field.{Field}
use Rattle.schema_kinds.specs.declared.record.Field.TheOpen.{Field-F}
use Rattle.schema_kinds.specs.declared.record.Field.TheFolds.{fold-Field}

-- all together
abbrev pub total : List ℕ → ℕ
total [] = 0
total (w ∷ ws) = w + total ws

-- a list weighs 2 and what its items add; an empty one is stored as the empty text
abbrev pub list_share : List ℕ → ℕ
list_share [] = 2
list_share (w ∷ ws) = 4 + total (w ∷ ws)

abbrev pub part_share : Option (List ℕ) → ℕ
part_share None = 2
part_share (Some ws) = 4 + total ws

-- an item adds 2 and its own weight; an array has nodes of its own
abbrev pub share_step : Field-F ℕ → ℕ
share_step (Field-F.Plain text) = 2 + length text
share_step (Field-F.Target id) = 66
share_step (Field-F.Part ws) = part_share ws
share_step (Field-F.List ws) = list_share ws
share_step (Field-F.Map ps) = 0

unfoldable pub share : Field → ℕ
share f = fold-Field ℕ share_step f

-- what is left of a room
unfoldable pub room_after : ℕ → ℕ → Option ℕ
room_after room n = cond (nat_le n room) (Some (room - n)) None
