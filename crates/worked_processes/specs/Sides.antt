-- Worked processes over one sides; worked out by hand.
use Rattle.std.specs.Prelude.{ℕ, pos, List, [], ◌∷◌, codes, Some}
use Rattle.obj_kinds.specs.declared.op.Op.TheVariants as ops
use Rattle.obj_kinds.specs.declared.op.Mode.TheVariants.{Shared, Exclusive}
use Rattle.obj_kinds.specs.declared.op.Reply.TheVariants as reply
use Rattle.obj_kinds.specs.declared.cause.Cause.TheVariants as cause
use Rattle.schema_kinds.specs.declared.record.Record.{Record}
use Rattle.schema_kinds.specs.declared.record.Part.TheVariants.{Put}
use Rattle.os_meaning.specs.Syntax as s
use Rattle.os_meaning.specs.Syntax.{Command}
use Rattle.os_meaning.specs.Samples.{var, line}
use Rattle.store_calls.specs.Calls.{Saving, Failed, Loaded}
use Rattle.object_calls.specs.Asking.{lock_counted, lock_to_end, unlock}
use Rattle.object_calls.specs.Extents.{counter_node}
use Rattle.object_calls.specs.Banking.{branch, clerk, key_in, branch_row, clerk_row, member_entry, row, nothing, branch_record, clerk_record}
use Rattle.object_calls.specs.Shown.{Noted, Asked, Commits}
use Rattle.worked_processes.specs.Bank.{branches, Worked, plainly, new, opened, saves, to_var, to_prop, writes, prints, new_line, at_end}
use Rattle.worked_processes.specs.Saving.{number}

-- ---- a branch whose save is rolled back is no target

abbrev pub lacking : List Command
lacking =
    line 1 (s.Set (to_var (codes "b") (new branch) ∷ [])) ∷ line 2 s.TStart ∷ line 3 (writes (saves (codes "b"))) ∷ line 4 s.TRollback
    ∷ line 5 (s.Set (to_var (codes "c") (new clerk) ∷ to_prop (codes "c") (codes "Branch") (var (codes "b")) ∷ [])) ∷ line 6 (writes (saves (codes "c"))) ∷ []

abbrev pub lacks_target : Worked
lacks_target = plainly branches lacking
    (number 1 ∷ number 2 ∷ number 1 ∷ reply.Granted ∷ reply.Absent ∷ reply.Done ∷ number 1 ∷ reply.Done
    ∷ number 1 ∷ number 1 ∷ reply.Granted ∷ reply.Absent ∷ reply.Granted ∷ reply.Granted ∷ reply.State 0 ∷ number 0 ∷ [])
    (Asked ops.Begin
    ∷ Asked ops.Begin ∷ Asked (ops.Incr (counter_node branch) (pos 1)) ∷ Asked (lock_to_end Exclusive (branch_row 1)) ∷ Asked (ops.Get (branch_row 1))
    ∷ Asked (ops.Set (branch_row 1) (row ([] ∷ [] ∷ []))) ∷ Commits (Put (key_in branch 1) (branch_record []) ∷ []) ops.Commit ∷ prints (codes "1") ∷ new_line
    ∷ Asked ops.RollbackAll
    ∷ Asked ops.Begin ∷ Asked (ops.Incr (counter_node clerk) (pos 1)) ∷ Asked (lock_to_end Exclusive (clerk_row 1)) ∷ Asked (ops.Get (clerk_row 1))
    ∷ Asked (lock_to_end Exclusive (member_entry 1 1)) ∷ Asked (lock_to_end Shared (branch_row 1)) ∷ Asked (ops.Defined (branch_row 1)) ∷ Asked ops.RollbackOne
    ∷ Noted (Failed (Saving (Put (key_in clerk 1) (clerk_record [] (Some (1 ∷ []))) ∷ [])) 1 (cause.NoTarget branch (1 ∷ [])))
    ∷ prints (codes "0 NoTarget Bank.Branch 1") ∷ new_line ∷ at_end)

-- ---- a clerk goes from one branch to another, within a transaction of the script

abbrev pub cy : ℕ → Record
cy b = clerk_record (codes "Cy") (Some (b ∷ []))

abbrev pub moving : List Command
moving =
    line 1 s.TStart
    ∷ line 2 (s.Set (to_var (codes "c") (opened clerk (codes "1")) ∷ to_prop (codes "c") (codes "Branch") (opened branch (codes "2")) ∷ []))
    ∷ line 3 (writes (saves (codes "c"))) ∷ line 4 s.TCommit ∷ []

abbrev pub moves_clerk : Worked
moves_clerk = plainly branches moving
    (number 1 ∷ reply.Granted ∷ reply.Found (row ([] ∷ codes "Cy" ∷ codes "1" ∷ [])) ∷ reply.Done
    ∷ reply.Granted ∷ reply.Found (row ([] ∷ codes "South" ∷ [])) ∷ reply.Done
    ∷ number 2 ∷ reply.Granted ∷ reply.Found (row ([] ∷ codes "Cy" ∷ codes "1" ∷ [])) ∷ reply.Granted ∷ reply.Granted ∷ reply.Granted ∷ reply.State 1
    ∷ reply.Done ∷ reply.Done ∷ reply.Done ∷ number 1 ∷ number 0 ∷ [])
    (Asked ops.Begin
    ∷ Asked (lock_counted Shared (clerk_row 1)) ∷ Asked (ops.Get (clerk_row 1)) ∷ Asked (unlock Shared (clerk_row 1)) ∷ Noted (Loaded 1 (key_in clerk 1) (cy 1))
    ∷ Asked (lock_counted Shared (branch_row 2)) ∷ Asked (ops.Get (branch_row 2)) ∷ Asked (unlock Shared (branch_row 2)) ∷ Noted (Loaded 1 (key_in branch 2) (branch_record (codes "South")))
    ∷ Asked ops.Begin ∷ Asked (lock_to_end Exclusive (clerk_row 1)) ∷ Asked (ops.Get (clerk_row 1))
    ∷ Asked (lock_to_end Exclusive (member_entry 1 1)) ∷ Asked (lock_to_end Exclusive (member_entry 2 1)) ∷ Asked (lock_to_end Shared (branch_row 2))
    ∷ Asked (ops.Defined (branch_row 2)) ∷ Asked (ops.Kill (member_entry 1 1))
    ∷ Asked (ops.Set (clerk_row 1) (row ([] ∷ codes "Cy" ∷ codes "2" ∷ []))) ∷ Asked (ops.Set (member_entry 2 1) nothing)
    ∷ Commits (Put (key_in clerk 1) (cy 2) ∷ []) ops.Commit ∷ prints (codes "1") ∷ new_line ∷ Asked ops.Commit ∷ at_end)
