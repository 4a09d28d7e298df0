-- Worked processes without saves, with all that is seen of them; worked out by hand.
use Rattle.std.specs.Prelude.{ℕ, pos, List, [], ◌∷◌, codes, Some, None}
use Rattle.obj_kinds.specs.declared.op.Op.TheVariants as ops
use Rattle.obj_kinds.specs.declared.op.Mode.TheVariants.{Shared, Exclusive}
use Rattle.obj_kinds.specs.declared.op.Owner.TheVariants.{Script}
use Rattle.obj_kinds.specs.declared.op.Keep.TheVariants.{Counted}
use Rattle.obj_kinds.specs.declared.op.Op.{Op}
use Rattle.obj_kinds.specs.declared.op.Reply.{Reply}
use Rattle.obj_kinds.specs.declared.op.Reply.TheVariants as reply
use Rattle.obj_kinds.specs.declared.value.Value.TheVariants.{Str}
use Rattle.obj_kinds.specs.declared.cause.Cause.TheVariants as cause
use Rattle.obj_kinds.specs.declared.error_name.ErrorName.TheVariants as error
use Rattle.os_kinds.specs.declared.call.Special.TheVariants.{Test, LastError}
use Rattle.os_kinds.specs.declared.command.LockAction.TheVariants as lock
use Rattle.os_kinds.specs.declared.expression.Operator.TheVariants as op
use Rattle.os_meaning.specs.Syntax as s
use Rattle.os_meaning.specs.Syntax.{Exprs, Expr, Action}
use Rattle.os_meaning.specs.Samples.{lit, var, one, line, block, write, bare, first}
use Rattle.store_calls.specs.Calls.{Opening, Failed, Loaded, Low}
use Rattle.object_calls.specs.Asking.{lock_counted, unlock}
use Rattle.object_calls.specs.Banking.{account, saver, key_in, num, node, account_row, row}
use Rattle.object_calls.specs.Shown.{Noted, Asked, Answers}
use Rattle.object_calls.specs.LoadSamples.{ann}
use Rattle.host_meaning.specs.declared.ending.Ending.TheVariants as ending
use Rattle.worked_processes.specs.Bank.{accounts, savers, Worked, plainly, opened, opened_at, of_var, to_var, writes, kills, prints, new_line, at_end}

abbrev pub ann_row : Reply
ann_row = reply.Found (row ([] ∷ codes "Ann" ∷ codes "7" ∷ [] ∷ []))

-- another process has the row
abbrev pub busy : Reply
busy = reply.Held (record { 0 = 1 }) (account_row 1) Exclusive

-- ---- an empty script

abbrev pub empty_script : Worked
empty_script = plainly [] [] [] at_end

-- ---- an account is opened at level 4 and let go: its lock goes at the end of the KILL

abbrev pub lets_go : Worked
lets_go = plainly accounts
    (line 1 (s.Set (to_var (codes "a") (opened_at account (codes "1") (codes "4")) ∷ [])) ∷ line 2 (kills (codes "a")) ∷ [])
    (reply.Granted ∷ ann_row ∷ reply.Done ∷ [])
    (Asked (lock_counted Exclusive (account_row 1)) ∷ Asked (ops.Get (account_row 1)) ∷ Noted (Loaded 0 (key_in account 1) ann)
    ∷ Asked (unlock Exclusive (account_row 1)) ∷ at_end)

-- beside it, with three tries of each lock: the first opening fails, the second finds the lock free
abbrev pub opens_later : Worked
opens_later = record {
  classes = accounts;
  tries = 3;
  units = 1000000;
  script =
      line 1 (s.Set (to_var (codes "b") (opened account (codes "1")) ∷ [])) ∷ line 2 (writes (s.Kept LastError))
      ∷ line 3 (s.Set (to_var (codes "b") (opened account (codes "1")) ∷ [])) ∷ line 4 (writes (of_var (codes "b") (codes "Owner"))) ∷ [];
  replies = busy ∷ busy ∷ busy ∷ reply.Granted ∷ ann_row ∷ reply.Done ∷ [];
  sees =
      Asked (lock_counted Shared (account_row 1)) ∷ Asked (lock_counted Shared (account_row 1)) ∷ Asked (lock_counted Shared (account_row 1))
      ∷ Noted (Failed (Opening (key_in account 1) account) 0 (cause.Busy (record { 0 = 1 }) (account_row 1)))
      ∷ prints (codes "0 Busy 1 ^Bank.AccountD(1)") ∷ new_line
      ∷ Asked (lock_counted Shared (account_row 1)) ∷ Asked (ops.Get (account_row 1)) ∷ Asked (unlock Shared (account_row 1)) ∷ Noted (Loaded 1 (key_in account 1) ann)
      ∷ prints (codes "Ann") ∷ new_line ∷ at_end;
}

-- ---- an account that is opened twice is one object; its lock goes when the last variable is killed

abbrev pub opens_twice : Worked
opens_twice = plainly accounts
    (line 1 (s.Set (to_var (codes "a") (opened_at account (codes "1") (codes "4")) ∷ to_var (codes "b") (opened account (codes "1")) ∷ []))
    ∷ line 2 (writes (s.Binary op.Equal (var (codes "a")) (var (codes "b")))) ∷ line 3 (kills (codes "a"))
    ∷ line 4 (writes (of_var (codes "b") (codes "Owner"))) ∷ line 5 (kills (codes "b")) ∷ [])
    (reply.Granted ∷ ann_row ∷ reply.Done ∷ [])
    (Asked (lock_counted Exclusive (account_row 1)) ∷ Asked (ops.Get (account_row 1)) ∷ Noted (Loaded 0 (key_in account 1) ann)
    ∷ prints (codes "1") ∷ new_line ∷ prints (codes "Ann") ∷ new_line ∷ Asked (unlock Exclusive (account_row 1)) ∷ at_end)

-- ---- a commit without a transaction, and a process beside it

abbrev pub commits_nothing : Worked
commits_nothing = plainly [] (line 1 s.TCommit ∷ []) (reply.NoTran ∷ []) (Asked ops.Commit ∷ Answers (ending.Error error.Command None 1) ∷ [])

abbrev pub writes_ok : Worked
writes_ok = plainly [] (line 1 (writes (lit (codes "ok"))) ∷ []) [] (prints (codes "ok") ∷ new_line ∷ at_end)

-- ---- a row that the script has overwritten is damaged

abbrev pub overwrites : Worked
overwrites = plainly accounts
    (line 1 (s.Set (record { target = s.OfPlace (s.Global (codes "Bank.AccountD") (one (lit (codes "1")))); value = lit (codes "x") } ∷ []))
    ∷ line 2 (s.Set (to_var (codes "a") (opened account (codes "1")) ∷ [])) ∷ line 3 (writes (s.Kept LastError)) ∷ [])
    (reply.Done ∷ reply.Granted ∷ reply.Found (Str (codes "x")) ∷ reply.Done ∷ [])
    (Asked (ops.Set (account_row 1) (Str (codes "x")))
    ∷ Asked (lock_counted Shared (account_row 1)) ∷ Asked (ops.Get (account_row 1)) ∷ Asked (unlock Shared (account_row 1))
    ∷ Noted (Failed (Opening (key_in account 1) account) 1 (cause.Damaged (account_row 1)))
    ∷ prints (codes "0 Damaged ^Bank.AccountD(1)") ∷ new_line ∷ at_end)

-- ---- a device whose second put fails: the meaning goes on, the run ends there

abbrev pub writes_twice : Worked
writes_twice = plainly []
    (line 1 s.TStart ∷ line 2 (s.Set (record { target = s.OfPlace (s.Global (codes "x") s.NoMore); value = lit (codes "1") } ∷ []))
    ∷ line 3 (write (lit (codes "a"))) ∷ line 4 (write (lit (codes "b"))) ∷ [])
    (reply.Number (pos 1) ∷ reply.Done ∷ [])
    (Asked ops.Begin ∷ Asked (ops.Set (node (codes "x") []) (Str (codes "1"))) ∷ prints (codes "a") ∷ prints (codes "b") ∷ at_end)

-- ---- a saver is asked for where an account is stored

abbrev pub asks_for_saver : Worked
asks_for_saver = plainly savers
    (line 1 (s.Set (to_var (codes "s") (opened saver (codes "1")) ∷ []))
    ∷ line 2 (s.Write (Some (var (codes "s")) ∷ Some (s.Kept LastError) ∷ None ∷ [])) ∷ [])
    (reply.Granted ∷ ann_row ∷ reply.Done ∷ [])
    (Asked (lock_counted Shared (account_row 1)) ∷ Asked (ops.Get (account_row 1)) ∷ Asked (unlock Shared (account_row 1))
    ∷ Noted (Failed (Opening (key_in account 1) saver) 1 (cause.OtherClass account))
    ∷ prints (codes "0 OtherClass Bank.Account") ∷ new_line ∷ at_end)

-- ---- at level 0 nothing is locked, and the low level is noted

abbrev pub opens_low : Worked
opens_low = plainly accounts
    (line 1 (s.Set (to_var (codes "a") (opened_at account (codes "1") (codes "0")) ∷ [])) ∷ line 2 (writes (of_var (codes "a") (codes "Owner"))) ∷ [])
    (ann_row ∷ [])
    (Noted Low ∷ Asked (ops.Get (account_row 1)) ∷ Noted (Loaded 0 (key_in account 1) ann) ∷ prints (codes "Ann") ∷ new_line ∷ at_end)

-- ---- a loop of sets: thirteen are done, the next one is asked

abbrev pub set_at : ℕ → List ℕ → Op
set_at i text = ops.Set (node (codes "x") (num i ∷ [])) (Str text)

abbrev pub done_times : List Reply
done_times =
    reply.Done ∷ reply.Done ∷ reply.Done ∷ reply.Done ∷ reply.Done ∷ reply.Done ∷ reply.Done ∷ reply.Done ∷ reply.Done ∷ reply.Done ∷ reply.Done
    ∷ reply.Done ∷ reply.Done ∷ []

abbrev pub sets_in_turn : Worked
sets_in_turn = record {
  classes = [];
  tries = 10;
  units = 200;
  script =
      s.For 1 (codes "i") (lit (codes "1")) (lit (codes "1")) (Some (lit (codes "100")))
      (block (line 1 (s.Set (record { target = s.OfPlace (s.Global (codes "x") (one (var (codes "i")))); value = var (codes "i") } ∷ [])) ∷ [])) ∷ [];
  replies = done_times;
  sees =
      Asked (set_at 1 (codes "1")) ∷ Asked (set_at 2 (codes "2")) ∷ Asked (set_at 3 (codes "3")) ∷ Asked (set_at 4 (codes "4")) ∷ Asked (set_at 5 (codes "5"))
      ∷ Asked (set_at 6 (codes "6")) ∷ Asked (set_at 7 (codes "7")) ∷ Asked (set_at 8 (codes "8")) ∷ Asked (set_at 9 (codes "9")) ∷ Asked (set_at 10 (codes "10"))
      ∷ Asked (set_at 11 (codes "11")) ∷ Asked (set_at 12 (codes "12")) ∷ Asked (set_at 13 (codes "13")) ∷ Asked (set_at 14 (codes "14")) ∷ [];
}

-- ---- a lock of a script, and another below it that is tried once

abbrev pub locks_node : Worked
locks_node = plainly []
    (line 1 (s.Lock (record { action = lock.Add; global = codes "a"; subs = s.NoMore; mode = Exclusive; timeout = None } ∷ [])) ∷ [])
    (reply.Granted ∷ []) (Asked (ops.Lock bare Exclusive Script Counted) ∷ at_end)

abbrev pub locks_below : Worked
locks_below = plainly []
    (line 1 (s.Lock (record { action = lock.Add; global = codes "a"; subs = one (lit (codes "1")); mode = Exclusive; timeout = Some (lit (codes "1")) } ∷ []))
    ∷ line 1 (writes (s.Kept Test)) ∷ [])
    (reply.Held (record { 0 = 1 }) bare Exclusive ∷ [])
    (Asked (ops.Lock first Exclusive Script Counted) ∷ prints (codes "0") ∷ new_line ∷ at_end)
