-- A worked process that saves a ring; worked out by hand.
use Rattle.std.specs.Prelude.{List, [], ◌∷◌, codes, Some}
use Rattle.obj_kinds.specs.declared.op.Op.TheVariants as ops
use Rattle.obj_kinds.specs.declared.op.Mode.TheVariants.{Exclusive}
use Rattle.obj_kinds.specs.declared.op.Reply.TheVariants as reply
use Rattle.schema_kinds.specs.declared.record.Record.{Record}
use Rattle.schema_kinds.specs.declared.record.Part.TheVariants.{Put}
use Rattle.os_meaning.specs.Syntax as s
use Rattle.os_meaning.specs.Syntax.{Command}
use Rattle.os_meaning.specs.Samples.{lit, var, line}
use Rattle.object_calls.specs.Asking.{lock_to_end}
use Rattle.object_calls.specs.Banking.{account, key_in, account_row, row, account_record}
use Rattle.object_calls.specs.Shown.{Asked, Commits}
use Rattle.worked_processes.specs.Bank.{accounts, Worked, plainly, new, saves, to_var, to_prop, writes, prints, new_line, at_end}
use Rattle.worked_processes.specs.Saving.{number, draws}

-- ---- a ring of two new accounts

abbrev pub ring_a : Record
ring_a = account_record (codes "A") [] (Some (2 ∷ []))

abbrev pub ring_b : Record
ring_b = account_record (codes "B") [] (Some (1 ∷ []))

abbrev pub ring : List Command
ring =
    line 1 (s.Set (to_var (codes "a") (new account) ∷ to_var (codes "b") (new account) ∷ []))
    ∷ line 2 (s.Set (to_prop (codes "a") (codes "Next") (var (codes "b")) ∷ to_prop (codes "b") (codes "Next") (var (codes "a")) ∷ to_prop (codes "a") (codes "Owner") (lit (codes "A")) ∷ to_prop (codes "b") (codes "Owner") (lit (codes "B")) ∷ []))
    ∷ line 3 (writes (saves (codes "a"))) ∷ []

abbrev pub saves_ring : Worked
saves_ring = plainly accounts ring
    (number 1 ∷ number 1 ∷ number 2 ∷ reply.Granted ∷ reply.Granted ∷ reply.Absent ∷ reply.Absent ∷ reply.Done ∷ reply.Done ∷ number 0 ∷ [])
    (Asked ops.Begin ∷ draws ∷ draws ∷ Asked (lock_to_end Exclusive (account_row 1)) ∷ Asked (lock_to_end Exclusive (account_row 2))
    ∷ Asked (ops.Get (account_row 1)) ∷ Asked (ops.Get (account_row 2))
    ∷ Asked (ops.Set (account_row 1) (row ([] ∷ codes "A" ∷ [] ∷ codes "2" ∷ []))) ∷ Asked (ops.Set (account_row 2) (row ([] ∷ codes "B" ∷ [] ∷ codes "1" ∷ [])))
    ∷ Commits (Put (key_in account 1) ring_a ∷ Put (key_in account 2) ring_b ∷ []) ops.Commit ∷ prints (codes "1") ∷ new_line ∷ at_end)
