-- Worked processes with saves and deletes, with all that is seen of them; worked out by hand.
use Rattle.std.specs.Prelude.{ℕ, pos, List, [], ◌∷◌, codes, None}
use Rattle.obj_kinds.specs.declared.op.Op.TheVariants as ops
use Rattle.obj_kinds.specs.declared.op.Mode.TheVariants.{Shared, Exclusive}
use Rattle.obj_kinds.specs.declared.op.Reply.{Reply}
use Rattle.obj_kinds.specs.declared.op.Reply.TheVariants as reply
use Rattle.obj_kinds.specs.declared.cause.Cause.TheVariants as cause
use Rattle.schema_kinds.specs.declared.record.Record.{Record}
use Rattle.schema_kinds.specs.declared.record.Part.TheVariants.{Put}
use Rattle.os_meaning.specs.Syntax as s
use Rattle.os_meaning.specs.Syntax.{Command}
use Rattle.os_meaning.specs.Samples.{lit, one, line}
use Rattle.store_calls.specs.Calls.{Saving, Deleting, Failed, Loaded}
use Rattle.object_calls.specs.Asking.{lock_counted, lock_to_end, unlock}
use Rattle.object_calls.specs.Extents.{counter_node}
use Rattle.object_calls.specs.Banking.{account, branch, key_in, num, account_row, number_node, number_entry, branch_row, members_of, row, nothing, account_record}
use Rattle.object_calls.specs.LoadSamples.{ann}
use Rattle.object_calls.specs.SaveSamples.{ann7, p1}
use Rattle.object_calls.specs.Shown.{Noted, Asked, Commits, Answers}
use Rattle.host_meaning.specs.declared.ending.Ending.TheVariants as ending
use Rattle.worked_processes.specs.Bank.{accounts, branches, Worked, plainly, new, opened, opened_at, saves, to_var, to_prop, writes, prints, new_line, at_end, Seen}
use Rattle.worked_processes.specs.Loading.{ann_row}

abbrev pub number : ℕ → Reply
number i = reply.Number (pos i)

-- a counter of accounts is raised
abbrev pub draws : Seen
draws = Asked (ops.Incr (counter_node account) (pos 1))

-- ---- a new account with a number

abbrev pub new_account : List Command
new_account =
    line 1 (s.Set (to_var (codes "a") (new account) ∷ [])) ∷ line 2 (s.Set (to_prop (codes "a") (codes "Owner") (lit (codes "Ann")) ∷ []))
    ∷ line 3 (s.Set (to_prop (codes "a") (codes "Number") (lit (codes "7")) ∷ [])) ∷ line 4 (writes (saves (codes "a"))) ∷ []

abbrev pub saves_new : Worked
saves_new = plainly accounts new_account
    (number 1 ∷ number 1 ∷ reply.Granted ∷ reply.Absent ∷ reply.Granted ∷ reply.NoNext ∷ reply.Done ∷ reply.Done ∷ number 0 ∷ [])
    (Asked ops.Begin ∷ draws ∷ Asked (lock_to_end Exclusive (account_row 1)) ∷ Asked (ops.Get (account_row 1))
    ∷ Asked (lock_to_end Exclusive (number_node 7)) ∷ Asked (ops.Order (number_node 7) None)
    ∷ Asked (ops.Set (account_row 1) (row ([] ∷ codes "Ann" ∷ codes "7" ∷ [] ∷ []))) ∷ Asked (ops.Set (number_entry 7 1) nothing)
    ∷ Commits (Put (key_in account 1) ann7 ∷ []) ops.Commit ∷ prints (codes "1") ∷ new_line ∷ at_end)

-- with eleven units: four arguments and seven operations
abbrev pub runs_out : Worked
runs_out = record {
  classes = accounts;
  tries = 10;
  units = 11;
  script = new_account;
  replies = number 1 ∷ number 1 ∷ reply.Granted ∷ reply.Absent ∷ reply.Granted ∷ reply.NoNext ∷ reply.Done ∷ [];
  sees =
      Asked ops.Begin ∷ draws ∷ Asked (lock_to_end Exclusive (account_row 1)) ∷ Asked (ops.Get (account_row 1))
      ∷ Asked (lock_to_end Exclusive (number_node 7)) ∷ Asked (ops.Order (number_node 7) None)
      ∷ Asked (ops.Set (account_row 1) (row ([] ∷ codes "Ann" ∷ codes "7" ∷ [] ∷ []))) ∷ Answers ending.Fuel ∷ [];
}

-- its counter is at its last number
abbrev pub has_no_id : Worked
has_no_id = plainly accounts new_account
    (number 1 ∷ reply.NumberLimit ∷ number 0 ∷ [])
    (Asked ops.Begin ∷ draws ∷ Asked ops.RollbackOne ∷ Noted (Failed (Saving []) 1 cause.IdLimit) ∷ prints (codes "0 IdLimit") ∷ new_line ∷ at_end)

-- ---- an account is opened and saved with another owner; and beside it, where the row is held three times

abbrev pub renames : List ℕ → List Command
renames owner =
    line 1 (s.Set (to_var (codes "a") (opened account (codes "1")) ∷ [])) ∷ line 2 (s.Set (to_prop (codes "a") (codes "Owner") (lit owner) ∷ []))
    ∷ line 3 (writes (saves (codes "a"))) ∷ []

abbrev pub saves_old : Worked
saves_old = plainly accounts (renames (codes "P1"))
    (reply.Granted ∷ ann_row ∷ reply.Done ∷ number 1 ∷ reply.Granted ∷ ann_row ∷ reply.Done ∷ number 0 ∷ [])
    (Asked (lock_counted Shared (account_row 1)) ∷ Asked (ops.Get (account_row 1)) ∷ Asked (unlock Shared (account_row 1)) ∷ Noted (Loaded 1 (key_in account 1) ann)
    ∷ Asked ops.Begin ∷ Asked (lock_to_end Exclusive (account_row 1)) ∷ Asked (ops.Get (account_row 1))
    ∷ Asked (ops.Set (account_row 1) (row ([] ∷ codes "P1" ∷ codes "7" ∷ [] ∷ [])))
    ∷ Commits (Put (key_in account 1) p1 ∷ []) ops.Commit ∷ prints (codes "1") ∷ new_line ∷ at_end)

abbrev pub p2 : Record
p2 = account_record (codes "P2") (codes "7") None

abbrev pub held_by_first : Reply
held_by_first = reply.Held (record { 0 = 1 }) (account_row 1) Exclusive

abbrev pub saves_second : Worked
saves_second = plainly accounts (renames (codes "P2"))
    (reply.Granted ∷ ann_row ∷ reply.Done ∷ number 1 ∷ held_by_first ∷ held_by_first ∷ held_by_first ∷ reply.Granted
    ∷ reply.Found (row ([] ∷ codes "P1" ∷ codes "7" ∷ [] ∷ [])) ∷ reply.Done ∷ number 0 ∷ [])
    (Asked (lock_counted Shared (account_row 1)) ∷ Asked (ops.Get (account_row 1)) ∷ Asked (unlock Shared (account_row 1)) ∷ Noted (Loaded 1 (key_in account 1) ann)
    ∷ Asked ops.Begin ∷ Asked (lock_to_end Exclusive (account_row 1)) ∷ Asked (lock_to_end Exclusive (account_row 1)) ∷ Asked (lock_to_end Exclusive (account_row 1))
    ∷ Asked (lock_to_end Exclusive (account_row 1)) ∷ Asked (ops.Get (account_row 1))
    ∷ Asked (ops.Set (account_row 1) (row ([] ∷ codes "P2" ∷ codes "7" ∷ [] ∷ [])))
    ∷ Commits (Put (key_in account 1) p2 ∷ []) ops.Commit ∷ prints (codes "1") ∷ new_line ∷ at_end)

-- ---- a retained lock of another process: the save fails, and the lock of the object goes with the process

abbrev pub held_by_second : Reply
held_by_second = reply.Held (record { 0 = 2 }) (account_row 1) Shared

abbrev pub saves_held : Worked
saves_held = record {
  classes = accounts;
  tries = 2;
  units = 1000000;
  script =
      line 1 (s.Set (to_var (codes "a") (opened_at account (codes "1") (codes "3")) ∷ [])) ∷ line 2 (s.Set (to_prop (codes "a") (codes "Owner") (lit (codes "P1")) ∷ []))
      ∷ line 3 (writes (saves (codes "a"))) ∷ [];
  replies = reply.Granted ∷ ann_row ∷ number 1 ∷ held_by_second ∷ held_by_second ∷ number 0 ∷ [];
  sees =
      Asked (lock_counted Shared (account_row 1)) ∷ Asked (ops.Get (account_row 1)) ∷ Noted (Loaded 0 (key_in account 1) ann)
      ∷ Asked ops.Begin ∷ Asked (lock_to_end Exclusive (account_row 1)) ∷ Asked (lock_to_end Exclusive (account_row 1)) ∷ Asked ops.RollbackOne
      ∷ Noted (Failed (Saving (Put (key_in account 1) p1 ∷ [])) 1 (cause.Busy (record { 0 = 2 }) (account_row 1)))
      ∷ prints (codes "0 Busy 2 ^Bank.AccountD(1)") ∷ new_line ∷ at_end;
}

-- ---- a branch with a member isn't deleted

abbrev pub north_row : Reply
north_row = reply.Found (row ([] ∷ codes "North" ∷ []))

abbrev pub deletes_holder : Worked
deletes_holder = plainly branches
    (line 1 (writes (s.OnClass branch (codes "%DeleteId") (one (lit (codes "1"))))) ∷ [])
    (number 1 ∷ reply.Granted ∷ north_row ∷ reply.Granted ∷ reply.Next (num 1) ∷ number 0 ∷ [])
    (Asked ops.Begin ∷ Asked (lock_to_end Exclusive (branch_row 1)) ∷ Asked (ops.Get (branch_row 1)) ∷ Asked (lock_to_end Exclusive (members_of 1))
    ∷ Asked (ops.Order (members_of 1) None) ∷ Asked ops.RollbackOne ∷ Noted (Failed (Deleting (key_in branch 1) branch) 1 (cause.HasMembers (1 ∷ [])))
    ∷ prints (codes "0 HasMembers 1") ∷ new_line ∷ at_end)
