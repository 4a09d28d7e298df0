-- A worked process that saves an object, undoes it, and saves it again; worked out by hand.
use Rattle.std.specs.Prelude.{ℕ, List, [], ◌∷◌, codes, None}
use Rattle.obj_kinds.specs.declared.op.Op.TheVariants as ops
use Rattle.obj_kinds.specs.declared.op.Mode.TheVariants.{Exclusive}
use Rattle.obj_kinds.specs.declared.op.Reply.TheVariants as reply
use Rattle.obj_kinds.specs.declared.cause.Cause.TheVariants as cause
use Rattle.schema_kinds.specs.declared.record.Record.{Record}
use Rattle.schema_kinds.specs.declared.record.Part.TheVariants.{Put}
use Rattle.os_meaning.specs.Syntax as s
use Rattle.os_meaning.specs.Syntax.{Command}
use Rattle.os_meaning.specs.Samples.{lit, line}
use Rattle.store_calls.specs.Calls.{Saving, Failed}
use Rattle.object_calls.specs.Asking.{lock_to_end}
use Rattle.object_calls.specs.Banking.{account, key_in, account_row, row, account_record}
use Rattle.object_calls.specs.Shown.{Noted, Asked, Commits}
use Rattle.worked_processes.specs.Bank.{accounts, Worked, plainly, new, saves, to_var, to_prop, writes, prints, new_line, at_end}
use Rattle.worked_processes.specs.Saving.{number, draws}

abbrev pub owned : List ℕ → Record
owned owner = account_record owner [] None

-- ---- a save that is rolled back: the object keeps its id, and once modified it is gone

abbrev pub again : List Command
again =
    line 1 (s.Set (to_var (codes "a") (new account) ∷ to_prop (codes "a") (codes "Owner") (lit (codes "A")) ∷ [])) ∷ line 2 s.TStart
    ∷ line 3 (writes (saves (codes "a"))) ∷ line 4 s.TRollback ∷ line 5 (s.Set (to_prop (codes "a") (codes "Owner") (lit (codes "B")) ∷ []))
    ∷ line 6 (writes (saves (codes "a"))) ∷ []

abbrev pub saves_again : Worked
saves_again = plainly accounts again
    (number 1 ∷ number 2 ∷ number 1 ∷ reply.Granted ∷ reply.Absent ∷ reply.Done ∷ number 1 ∷ reply.Done ∷ number 1 ∷ reply.Granted ∷ reply.Absent ∷ number 0 ∷ [])
    (Asked ops.Begin
    ∷ Asked ops.Begin ∷ draws ∷ Asked (lock_to_end Exclusive (account_row 1)) ∷ Asked (ops.Get (account_row 1))
    ∷ Asked (ops.Set (account_row 1) (row ([] ∷ codes "A" ∷ [] ∷ [] ∷ []))) ∷ Commits (Put (key_in account 1) (owned (codes "A")) ∷ []) ops.Commit ∷ prints (codes "1") ∷ new_line
    ∷ Asked ops.RollbackAll
    ∷ Asked ops.Begin ∷ Asked (lock_to_end Exclusive (account_row 1)) ∷ Asked (ops.Get (account_row 1)) ∷ Asked ops.RollbackOne
    ∷ Noted (Failed (Saving (Put (key_in account 1) (owned (codes "B")) ∷ [])) 1 (cause.Gone (1 ∷ []))) ∷ prints (codes "0 Gone 1") ∷ new_line ∷ at_end)
