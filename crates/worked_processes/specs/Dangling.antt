-- A worked process over a reference whose target is gone; worked out by hand.
use Rattle.std.specs.Prelude.{List, [], ◌∷◌, codes, Some}
use Rattle.obj_kinds.specs.declared.op.Op.TheVariants as ops
use Rattle.obj_kinds.specs.declared.op.Mode.TheVariants.{Shared, Exclusive}
use Rattle.obj_kinds.specs.declared.op.Reply.{Reply}
use Rattle.obj_kinds.specs.declared.op.Reply.TheVariants as reply
use Rattle.obj_kinds.specs.declared.cause.Cause.TheVariants as cause
use Rattle.schema_kinds.specs.declared.record.Record.{Record}
use Rattle.schema_kinds.specs.declared.record.Part.TheVariants.{Put}
use Rattle.os_kinds.specs.declared.expression.Operator.TheVariants as op
use Rattle.os_meaning.specs.Syntax as s
use Rattle.os_meaning.specs.Syntax.{Command}
use Rattle.os_meaning.specs.Samples.{lit, line}
use Rattle.store_calls.specs.Calls.{Opening, Failed, Loaded}
use Rattle.object_calls.specs.Asking.{lock_counted, lock_to_end, unlock}
use Rattle.object_calls.specs.Banking.{account, key_in, account_row, row, account_record}
use Rattle.object_calls.specs.Shown.{Noted, Asked, Commits}
use Rattle.worked_processes.specs.Bank.{accounts, Worked, plainly, opened, of_var, saves, to_var, to_prop, writes, prints, new_line, at_end}
use Rattle.worked_processes.specs.Saving.{number}

-- ---- a reference whose target is gone reads as the empty text, and keeps its id

abbrev pub ann_to_2 : Record
ann_to_2 = account_record (codes "Ann") [] (Some (2 ∷ []))

abbrev pub z_to_2 : Record
z_to_2 = account_record (codes "Z") [] (Some (2 ∷ []))

abbrev pub ann_to_2_row : Reply
ann_to_2_row = reply.Found (row ([] ∷ codes "Ann" ∷ [] ∷ codes "2" ∷ []))

abbrev pub dangling : List Command
dangling =
    line 1 (s.Set (to_var (codes "a") (opened account (codes "1")) ∷ []))
    ∷ line 2 (writes (s.Binary op.Join (s.Binary op.Join (lit (codes "[")) (of_var (codes "a") (codes "Next"))) (lit (codes "]"))))
    ∷ line 3 (s.Set (to_prop (codes "a") (codes "Owner") (lit (codes "Z")) ∷ [])) ∷ line 4 (writes (saves (codes "a"))) ∷ []

abbrev pub keeps_dangling : Worked
keeps_dangling = plainly accounts dangling
    (reply.Granted ∷ ann_to_2_row ∷ reply.Done ∷ reply.Granted ∷ reply.Absent ∷ reply.Done
    ∷ number 1 ∷ reply.Granted ∷ ann_to_2_row ∷ reply.Done ∷ number 0 ∷ [])
    (Asked (lock_counted Shared (account_row 1)) ∷ Asked (ops.Get (account_row 1)) ∷ Asked (unlock Shared (account_row 1)) ∷ Noted (Loaded 1 (key_in account 1) ann_to_2)
    ∷ Asked (lock_counted Shared (account_row 2)) ∷ Asked (ops.Get (account_row 2)) ∷ Asked (unlock Shared (account_row 2))
    ∷ Noted (Failed (Opening (key_in account 2) account) 1 (cause.Gone (2 ∷ []))) ∷ prints (codes "[]") ∷ new_line
    ∷ Asked ops.Begin ∷ Asked (lock_to_end Exclusive (account_row 1)) ∷ Asked (ops.Get (account_row 1))
    ∷ Asked (ops.Set (account_row 1) (row ([] ∷ codes "Z" ∷ [] ∷ codes "2" ∷ [])))
    ∷ Commits (Put (key_in account 1) z_to_2 ∷ []) ops.Commit ∷ prints (codes "1") ∷ new_line ∷ at_end)
