-- A worked process with three saves in a transaction of its own; worked out by hand.
use Rattle.std.specs.Prelude.{List, [], ◌∷◌, codes}
use Rattle.obj_kinds.specs.declared.op.Op.TheVariants as ops
use Rattle.obj_kinds.specs.declared.op.Mode.TheVariants.{Exclusive}
use Rattle.obj_kinds.specs.declared.op.Reply.TheVariants as reply
use Rattle.obj_kinds.specs.declared.cause.Cause.TheVariants as cause
use Rattle.obj_kinds.specs.declared.cause.Why.TheVariants.{NotWhole}
use Rattle.schema_kinds.specs.declared.record.Part.TheVariants.{Put}
use Rattle.os_meaning.specs.Syntax as s
use Rattle.os_meaning.specs.Syntax.{Command}
use Rattle.os_meaning.specs.Samples.{lit, line}
use Rattle.store_calls.specs.Calls.{Refused}
use Rattle.object_calls.specs.Asking.{lock_to_end}
use Rattle.object_calls.specs.Banking.{account, key_in, account_row, row}
use Rattle.object_calls.specs.Shown.{Noted, Asked, Commits}
use Rattle.worked_processes.specs.Bank.{accounts, Worked, plainly, new, saves, to_var, to_prop, writes, prints, new_line, at_end}
use Rattle.worked_processes.specs.Saving.{number, draws}
use Rattle.worked_processes.specs.Again.{owned}

-- ---- three saves in a transaction of the script; the second object is invalid, and nothing is asked for it

abbrev pub within : List Command
within =
    line 1 s.TStart
    ∷ line 2 (s.Set (to_var (codes "a") (new account) ∷ to_prop (codes "a") (codes "Owner") (lit (codes "A")) ∷ [])) ∷ line 2 (writes (saves (codes "a")))
    ∷ line 3 (s.Set (to_var (codes "b") (new account) ∷ to_prop (codes "b") (codes "Number") (lit (codes "x")) ∷ [])) ∷ line 3 (writes (saves (codes "b")))
    ∷ line 4 (s.Set (to_var (codes "c") (new account) ∷ to_prop (codes "c") (codes "Owner") (lit (codes "C")) ∷ [])) ∷ line 4 (writes (saves (codes "c")))
    ∷ line 5 s.TCommit ∷ []

abbrev pub saves_within : Worked
saves_within = plainly accounts within
    (number 1 ∷ number 2 ∷ number 1 ∷ reply.Granted ∷ reply.Absent ∷ reply.Done ∷ number 1
    ∷ number 2 ∷ number 2 ∷ reply.Granted ∷ reply.Absent ∷ reply.Done ∷ number 1 ∷ number 0 ∷ [])
    (Asked ops.Begin
    ∷ Asked ops.Begin ∷ draws ∷ Asked (lock_to_end Exclusive (account_row 1)) ∷ Asked (ops.Get (account_row 1))
    ∷ Asked (ops.Set (account_row 1) (row ([] ∷ codes "A" ∷ [] ∷ [] ∷ []))) ∷ Commits (Put (key_in account 1) (owned (codes "A")) ∷ []) ops.Commit ∷ prints (codes "1") ∷ new_line
    ∷ Noted (Refused (cause.Invalid account (codes "Number") NotWhole)) ∷ prints (codes "0 Invalid Bank.Account Number NotWhole") ∷ new_line
    ∷ Asked ops.Begin ∷ draws ∷ Asked (lock_to_end Exclusive (account_row 2)) ∷ Asked (ops.Get (account_row 2))
    ∷ Asked (ops.Set (account_row 2) (row ([] ∷ codes "C" ∷ [] ∷ [] ∷ []))) ∷ Commits (Put (key_in account 2) (owned (codes "C")) ∷ []) ops.Commit ∷ prints (codes "1") ∷ new_line
    ∷ Asked ops.Commit ∷ at_end)
