-- The globals as if all open transactions were rolled back.
use Rattle.std.specs.Prelude.{ℕ, zero, suc, [], ◌∷◌, Option, None, unwrap_or}
use Rattle.std.specs.Option.{option_or}
use Rattle.std.specs.FinMap.{get}
use Rattle.obj_kinds.specs.declared.node.Node.{Node}
use Rattle.obj_kinds.specs.declared.value.Value.{Value}
use Rattle.tran_log.specs.Levels.{Levels}
use Rattle.store_core.specs.Machine.{State, levels_at}

-- what the outermost of the levels that name the node keeps of it
abbrev pub outermost : Levels → Node → Option (Option Value)
outermost [] n = None
outermost (l ∷ ls) n = option_or (outermost ls n) (get l n)

-- with the values that the levels of the processes 1 to p keep, in this order
abbrev pub cleared_upto : State → ℕ → Node → Option Value
cleared_upto s zero n = get s.globals n
cleared_upto s (suc p) n = unwrap_or (outermost (levels_at s (suc p)) n) (cleared_upto s p n)

-- the cleared globals at a node
unfoldable pub cleared : State → Node → Option Value
cleared s n = cleared_upto s s.pids n
