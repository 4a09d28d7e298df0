-- Deletes of worked objects, with all that is seen of them; worked out by hand.
use Rattle.std.specs.Prelude.{◌≡◌, ℕ, pos, List, [], ◌∷◌, codes, None}
use Rattle.obj_kinds.specs.declared.name.ClassName.{ClassName}
use Rattle.obj_kinds.specs.declared.op.Op.TheVariants as ops
use Rattle.obj_kinds.specs.declared.op.Mode.TheVariants.{Exclusive}
use Rattle.obj_kinds.specs.declared.op.Reply.{Reply}
use Rattle.obj_kinds.specs.declared.op.Reply.TheVariants as reply
use Rattle.obj_kinds.specs.declared.cause.Cause.TheVariants as cause
use Rattle.schema_kinds.specs.declared.key.Key.{Key}
use Rattle.schema_kinds.specs.declared.record.Part.TheVariants.{Del}
use Rattle.store_calls.specs.Calls.{Deleting, Failed, Tried, Got, Lost}
use Rattle.object_calls.specs.Asking.{lock_to_end}
use Rattle.object_calls.specs.Deletes.{delete}
use Rattle.object_calls.specs.Shown.{Shown, Noted, Asked, Commits, Answers, shown}
use Rattle.object_calls.specs.Banking.{bank, account, branch, clerk, key_in, num, account_row, number_node, number_entry, branch_row, clerk_row, members_of, member_entry, row}

pub record DeleteSample : Type 0 where
  pub key : Key
  pub class : ClassName
  pub level : ℕ
  pub replies : List Reply
  pub sees : List (Shown (Tried (Unit {0})))

-- two tries of a lock
abbrev pub IsDeleteSeen : DeleteSample → Type 0
IsDeleteSeen x = shown (delete bank 2 10 x.key x.class x.level) x.replies ≡ x.sees

abbrev pub AreDeletesSeen : List DeleteSample → Type 0
AreDeletesSeen [] = Unit {0}
AreDeletesSeen (x ∷ xs) = IsDeleteSeen x × AreDeletesSeen xs

abbrev pub deletes : List DeleteSample
deletes =
    -- an account: its row and the key of its number are locked, its entry and its row go
    (record { key = key_in account 1; class = account; level = 2; replies = reply.Number (pos 1) ∷ reply.Granted ∷ reply.Found (row ([] ∷ codes "Ann" ∷ codes "7" ∷ [] ∷ [])) ∷ reply.Granted ∷ reply.Done ∷ reply.Done ∷ reply.Number (pos 0) ∷ []; sees = Asked ops.Begin ∷ Asked (lock_to_end Exclusive (account_row 1)) ∷ Asked (ops.Get (account_row 1)) ∷ Asked (lock_to_end Exclusive (number_node 7)) ∷ Asked (ops.Kill (number_entry 7 1)) ∷ Asked (ops.Kill (account_row 1)) ∷ Commits (Del (key_in account 1) ∷ []) ops.Commit ∷ Answers (Got tt) ∷ [] }) ∷
    -- a branch with a member
    (record { key = key_in branch 1; class = branch; level = 2; replies = reply.Number (pos 1) ∷ reply.Granted ∷ reply.Found (row ([] ∷ codes "North" ∷ [])) ∷ reply.Granted ∷ reply.Next (num 1) ∷ reply.Number (pos 0) ∷ []; sees = Asked ops.Begin ∷ Asked (lock_to_end Exclusive (branch_row 1)) ∷ Asked (ops.Get (branch_row 1)) ∷ Asked (lock_to_end Exclusive (members_of 1)) ∷ Asked (ops.Order (members_of 1) None) ∷ Asked ops.RollbackOne ∷ Noted (Failed (Deleting (key_in branch 1) branch) 1 (cause.HasMembers (1 ∷ []))) ∷ Answers (Lost (cause.HasMembers (1 ∷ []))) ∷ [] }) ∷
    -- another process moves the member: its entry is held
    (record { key = key_in branch 1; class = branch; level = 2; replies = reply.Number (pos 1) ∷ reply.Granted ∷ reply.Found (row ([] ∷ codes "North" ∷ [])) ∷ reply.Held (record { 0 = 1 }) (member_entry 1 1) Exclusive ∷ reply.Held (record { 0 = 1 }) (member_entry 1 1) Exclusive ∷ reply.Number (pos 0) ∷ []; sees = Asked ops.Begin ∷ Asked (lock_to_end Exclusive (branch_row 1)) ∷ Asked (ops.Get (branch_row 1)) ∷ Asked (lock_to_end Exclusive (members_of 1)) ∷ Asked (lock_to_end Exclusive (members_of 1)) ∷ Asked ops.RollbackOne ∷ Noted (Failed (Deleting (key_in branch 1) branch) 1 (cause.Busy (record { 0 = 1 }) (member_entry 1 1))) ∷ Answers (Lost (cause.Busy (record { 0 = 1 }) (member_entry 1 1))) ∷ [] }) ∷
    -- a clerk: the entry of its one side is locked
    (record { key = key_in clerk 1; class = clerk; level = 2; replies = reply.Number (pos 1) ∷ reply.Granted ∷ reply.Found (row ([] ∷ codes "Cy" ∷ codes "1" ∷ [])) ∷ reply.Granted ∷ reply.Done ∷ reply.Done ∷ reply.Number (pos 0) ∷ []; sees = Asked ops.Begin ∷ Asked (lock_to_end Exclusive (clerk_row 1)) ∷ Asked (ops.Get (clerk_row 1)) ∷ Asked (lock_to_end Exclusive (member_entry 1 1)) ∷ Asked (ops.Kill (member_entry 1 1)) ∷ Asked (ops.Kill (clerk_row 1)) ∷ Commits (Del (key_in clerk 1) ∷ []) ops.Commit ∷ Answers (Got tt) ∷ [] }) ∷
    -- at level 0 nothing is locked; the account has no number, so it has no entry
    (record { key = key_in account 2; class = account; level = 0; replies = reply.Number (pos 2) ∷ reply.Found (row ([] ∷ codes "Bob" ∷ [] ∷ [] ∷ [])) ∷ reply.Done ∷ reply.Number (pos 1) ∷ []; sees = Asked ops.Begin ∷ Asked (ops.Get (account_row 2)) ∷ Asked (ops.Kill (account_row 2)) ∷ Commits (Del (key_in account 2) ∷ []) ops.Commit ∷ Answers (Got tt) ∷ [] }) ∷
    -- there is none
    (record { key = key_in account 3; class = account; level = 2; replies = reply.Number (pos 1) ∷ reply.Granted ∷ reply.Absent ∷ reply.Number (pos 0) ∷ []; sees = Asked ops.Begin ∷ Asked (lock_to_end Exclusive (account_row 3)) ∷ Asked (ops.Get (account_row 3)) ∷ Asked ops.RollbackOne ∷ Noted (Failed (Deleting (key_in account 3) account) 1 cause.NotFound) ∷ Answers (Lost cause.NotFound) ∷ [] }) ∷
    -- 255 levels are open
    (record { key = key_in account 1; class = account; level = 2; replies = reply.TooDeep ∷ []; sees = Asked ops.Begin ∷ Noted (Failed (Deleting (key_in account 1) account) 0 cause.TooDeep) ∷ Answers (Lost cause.TooDeep) ∷ [] }) ∷
    []
