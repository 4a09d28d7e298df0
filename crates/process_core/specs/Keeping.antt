-- `$TEST` and `$TLEVEL`, as they are kept, and as what a process knows.
use Rattle.std.specs.Prelude.{ℕ, ℤ, pos, negsuc, Bool, true, false, [], Option, Some, None}
use Rattle.obj_kinds.specs.declared.op.Op.{Op}
use Rattle.obj_kinds.specs.declared.op.Op.TheVariants as ops
use Rattle.obj_kinds.specs.declared.op.Reply.{Reply}
use Rattle.obj_kinds.specs.declared.op.Reply.TheVariants as reply
use Rattle.os_kinds.specs.declared.val.Val.{Val}
use Rattle.os_kinds.specs.declared.call.Special.{Special}
use Rattle.os_kinds.specs.declared.call.Special.TheVariants as special
use Rattle.os_meaning.specs.Values.{text_value, number_value}
use Rattle.process_core.specs.declared.kept.LevelMove.{LevelMove}
use Rattle.process_core.specs.declared.kept.LevelMove.TheVariants as level
use Rattle.process_core.specs.declared.kept.Kept.{Kept}

abbrev pub level_move : Op → LevelMove
level_move ops.Begin = level.Told
level_move ops.Commit = level.Told
level_move ops.RollbackOne = level.Told
level_move ops.RollbackAll = level.Ended
level_move _ = level.Stays

abbrev pub told_level : ℤ → ℤ → ℤ
told_level (pos n) old = pos n
told_level (negsuc n) old = old

abbrev pub level_told : Reply → ℤ → ℤ
level_told (reply.Number told) old = told_level told old
level_told _ old = old

abbrev pub level_by : LevelMove → Reply → ℤ → ℤ
level_by level.Told r old = level_told r old
level_by level.Ended r old = pos 0
level_by level.Stays r old = old

abbrev pub test_number : Bool → ℤ
test_number true = pos 1
test_number false = pos 0

-- the number of open transactions
abbrev pub count_of : ℤ → ℕ
count_of (pos n) = n
count_of (negsuc n) = 0

abbrev pub open_level : ℤ → ℤ
open_level z = pos (count_of z)

abbrev pub special_value : Special → Kept → Val
special_value special.Test k = number_value (test_number k.test)
special_value special.Level k = number_value (open_level k.level)
special_value special.LastError k = text_value []

-- a lock without a timeout leaves `$TEST`
abbrev pub test_granted : Option ℕ → Bool → Bool
test_granted None test = test
test_granted (Some times) test = true

abbrev pub with_level : ℤ → Kept → Kept
with_level z k = record k { level = z }
