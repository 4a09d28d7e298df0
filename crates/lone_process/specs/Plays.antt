-- What a frame prints and leaves where a store of one process answers it, and how it ends.
use Rattle.std.specs.Prelude.{ℕ, ℤ, pos, Bool, false, ◌||◌, List, [], ◌++◌, is_some}
use Rattle.obj_kinds.specs.declared.node.Node.{Node}
use Rattle.obj_kinds.specs.declared.op.Pid.{Pid}
use Rattle.obj_kinds.specs.declared.op.Mode.{Mode}
use Rattle.obj_kinds.specs.declared.op.Owner.TheVariants.{Script}
use Rattle.obj_kinds.specs.declared.op.Keep.TheVariants.{Counted}
use Rattle.obj_kinds.specs.declared.op.Op.{Op}
use Rattle.obj_kinds.specs.declared.op.Op.TheVariants as ops
use Rattle.obj_kinds.specs.declared.op.Reply.{Reply}
use Rattle.obj_kinds.specs.declared.op.Reply.TheVariants as reply
use Rattle.obj_kinds.specs.declared.error_name.ErrorName.TheVariants as error
use Rattle.os_kinds.specs.declared.val.Val.{Val}
use Rattle.os_kinds.specs.declared.call.Special.{Special}
use Rattle.os_kinds.specs.declared.call.Special.TheVariants as special
use Rattle.os_kinds.specs.declared.call.Call.{Call}
use Rattle.os_kinds.specs.declared.call.Call.TheVariants as call
use Rattle.os_kinds.specs.declared.call.Answer.{Answer}
use Rattle.os_kinds.specs.declared.call.Answer.TheVariants as answer
use Rattle.os_kinds.specs.declared.call.ScriptEnd.{ScriptEnd}
use Rattle.os_meaning.specs.Values.{text_value, number_value, bit}
use Rattle.os_meaning.specs.Frames.{Frame, Ends, Prints, Holds, Loses, Points, Spends, Asks}
use Rattle.store_core.specs.Ledger.{Ledger, state_of, next_entry, with_entry}
use Rattle.store_core.specs.Machine.{reply as machine_reply}
use Rattle.lone_process.specs.declared.process.LevelMove.{LevelMove}
use Rattle.lone_process.specs.declared.process.LevelMove.TheVariants as level
use Rattle.lone_process.specs.declared.process.Kept.{Kept}

-- the one process
abbrev pub pid : Pid
pid = record { 0 = 1 }

abbrev pub reply_to : Op → Ledger → Reply
reply_to op l = machine_reply (state_of l) pid op

abbrev pub entered : Op → Ledger → Ledger
entered op l = with_entry l (next_entry l pid op)

-- $TLEVEL is what the replies tell
abbrev pub level_move : Op → LevelMove
level_move ops.Begin = level.Told
level_move ops.Commit = level.Told
level_move ops.RollbackOne = level.Told
level_move ops.RollbackAll = level.Ended
level_move _ = level.Stays

abbrev pub told_level : Reply → ℤ → ℤ
told_level (reply.Number z) old = z
told_level _ old = old

abbrev pub level_by : LevelMove → Reply → ℤ → ℤ
level_by level.Told r old = told_level r old
level_by level.Ended r old = pos 0
level_by level.Stays r old = old

-- an answer, and what the process and the store have then
abbrev pub Answered : Type 0
Answered = Answer × (Kept × Ledger)

abbrev pub asked : Op → Kept → Ledger → Answered
asked op k l = (answer.Reply (reply_to op l), (record k { level = level_by (level_move op) (reply_to op l) k.level }, entered op l))

-- no other process is there: a lock is granted
abbrev pub locked : Node → Mode → Bool → Kept → Ledger → Answered
locked n mode timed k l = (answer.Done, (record k { test = k.test || timed }, entered (ops.Lock n mode Script Counted) l))

abbrev pub special_value : Special → Kept → Val
special_value special.Test k = bit k.test
special_value special.Level k = number_value k.level
special_value special.LastError k = text_value []

-- there are no classes
abbrev pub answered : Call → Kept → Ledger → Answered
answered (call.Store op) k l = asked op k l
answered (call.TryLock n mode tries) k l = locked n mode (is_some tries) k l
answered (call.Special s) k l = (answer.Got (special_value s k), (k, l))
answered (call.OnClass class m vs) k l = (answer.Error error.ClassDoesNotExist, (k, l))
answered (call.OnOwn m vs) k l = (answer.Error error.InvalidOref, (k, l))
answered (call.OnObject number m vs) k l = (answer.Error error.InvalidOref, (k, l))
answered (call.Read number p) k l = (answer.Error error.InvalidOref, (k, l))
answered (call.Write number p v) k l = (answer.Error error.InvalidOref, (k, l))
answered (call.OnItems number p m vs) k l = (answer.Error error.InvalidOref, (k, l))

-- the end, all that is printed behind what was printed before, and the store
abbrev pub Played : Type 0
Played = ScriptEnd × (List ℕ × Ledger)

abbrev pub plays : Frame → Kept → Ledger → List ℕ → Played
plays (Ends e) k l out = (e, (out, l))
plays (Prints t f) k l out = plays f k l (out ++ t)
plays (Holds o f) k l out = plays f k l out
plays (Loses o f) k l out = plays f k l out
plays (Points f) k l out = plays f k l out
plays (Spends f) k l out = plays f k l out
plays (Asks c f) k l out = let a = answered c k l in plays (f a.0) a.1.0 a.1.1 out

-- a process at its beginning
abbrev pub fresh : Kept
fresh = record { test = false; level = pos 0 }
