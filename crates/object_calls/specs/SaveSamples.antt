-- Saves of worked objects, with all that is seen of them; worked out by hand.
use Rattle.std.specs.Prelude.{◌≡◌, ℕ, pos, Bool, true, false, cond, ◌==◌, List, [], ◌∷◌, codes, Option, Some, None}
use Rattle.obj_kinds.specs.declared.name.ClassName.{ClassName}
use Rattle.obj_kinds.specs.declared.op.Op.TheVariants as ops
use Rattle.obj_kinds.specs.declared.op.Mode.TheVariants.{Exclusive, Shared}
use Rattle.obj_kinds.specs.declared.op.Reply.{Reply}
use Rattle.obj_kinds.specs.declared.op.Reply.TheVariants as reply
use Rattle.obj_kinds.specs.declared.cause.Cause.TheVariants as cause
use Rattle.obj_kinds.specs.declared.value.Value.TheVariants as value
use Rattle.schema_kinds.specs.declared.key.Key.{Key}
use Rattle.schema_kinds.specs.declared.record.Field.TheVariants as field
use Rattle.schema_kinds.specs.declared.record.Record.{Record}
use Rattle.schema_kinds.specs.declared.record.Part.TheVariants.{Put}
use Rattle.store_calls.specs.Calls.{Saving, Failed, Tried, Got, Lost}
use Rattle.object_calls.specs.Asking.{lock_to_end}
use Rattle.object_calls.specs.Extents.{counter_node}
use Rattle.object_calls.specs.Saves.{Drawn, ToSave, save}
use Rattle.object_calls.specs.Shown.{Shown, Noted, Asked, Commits, Answers, shown}
use Rattle.object_calls.specs.Banking.{bank, account, branch, clerk, key_in, num, word, node, account_row, number_node, number_entry, branch_row, clerk_row, member_entry, row, nothing, account_record, saver_record, clerk_record}

-- the id that was drawn for an object
abbrev pub drawn_for : ℕ → Drawn → Option (List ℕ)
drawn_for n [] = None
drawn_for n (d ∷ ds) = cond (d.0 == n) (Some d.1) (drawn_for n ds)

-- objects of level 2
abbrev pub new_object : ℕ → ClassName → (Drawn → Record) → ToSave
new_object n extent r = record { number = n; extent = extent; id = None; level = 2; record_with = r }

abbrev pub old_object : ℕ → ClassName → ℕ → Record → ToSave
old_object n extent i r = record { number = n; extent = extent; id = Some (i ∷ []); level = 2; record_with = λ drawn. r }

abbrev pub none_live : Key → Bool
none_live key = false

abbrev pub all_live : Key → Bool
all_live key = true

pub record SaveSample : Type 0 where
  pub is_live : Key → Bool
  pub objects : List ToSave
  pub replies : List Reply
  pub sees : List (Shown (Tried Drawn))

-- two tries of a lock
abbrev pub IsSaveSeen : SaveSample → Type 0
IsSaveSeen x = shown (save bank 2 10 x.is_live x.objects) x.replies ≡ x.sees

abbrev pub AreSavesSeen : List SaveSample → Type 0
AreSavesSeen [] = Unit {0}
AreSavesSeen (x ∷ xs) = IsSaveSeen x × AreSavesSeen xs

abbrev pub ann7 : Record
ann7 = account_record (codes "Ann") (codes "7") None

abbrev pub p1 : Record
p1 = account_record (codes "P1") (codes "7") None

abbrev pub saver5 : Record
saver5 = saver_record (codes "Ann") (codes "5") ((word (codes "k"), field.Plain (codes "v")) ∷ [])

abbrev pub saves : List SaveSample
saves =
    -- a new account with a number
    (record { is_live = none_live; objects = new_object 1 account (λ drawn. ann7) ∷ []; replies = reply.Number (pos 1) ∷ reply.Number (pos 1) ∷ reply.Granted ∷ reply.Absent ∷ reply.Granted ∷ reply.NoNext ∷ reply.Done ∷ reply.Done ∷ reply.Number (pos 0) ∷ []; sees = Asked ops.Begin ∷ Asked (ops.Incr (counter_node account) (pos 1)) ∷ Asked (lock_to_end Exclusive (account_row 1)) ∷ Asked (ops.Get (account_row 1)) ∷ Asked (lock_to_end Exclusive (number_node 7)) ∷ Asked (ops.Order (number_node 7) None) ∷ Asked (ops.Set (account_row 1) (row ([] ∷ codes "Ann" ∷ codes "7" ∷ [] ∷ []))) ∷ Asked (ops.Set (number_entry 7 1) nothing) ∷ Commits (Put (key_in account 1) ann7 ∷ []) ops.Commit ∷ Answers (Got ((1, 1 ∷ []) ∷ [])) ∷ [] }) ∷
    -- a ring of two new accounts
    (record { is_live = none_live; objects = new_object 1 account (λ drawn. account_record (codes "A") [] (drawn_for 2 drawn)) ∷ new_object 2 account (λ drawn. account_record (codes "B") [] (drawn_for 1 drawn)) ∷ []; replies = reply.Number (pos 1) ∷ reply.Number (pos 1) ∷ reply.Number (pos 2) ∷ reply.Granted ∷ reply.Granted ∷ reply.Absent ∷ reply.Absent ∷ reply.Done ∷ reply.Done ∷ reply.Number (pos 0) ∷ []; sees = Asked ops.Begin ∷ Asked (ops.Incr (counter_node account) (pos 1)) ∷ Asked (ops.Incr (counter_node account) (pos 1)) ∷ Asked (lock_to_end Exclusive (account_row 1)) ∷ Asked (lock_to_end Exclusive (account_row 2)) ∷ Asked (ops.Get (account_row 1)) ∷ Asked (ops.Get (account_row 2)) ∷ Asked (ops.Set (account_row 1) (row ([] ∷ codes "A" ∷ [] ∷ codes "2" ∷ []))) ∷ Asked (ops.Set (account_row 2) (row ([] ∷ codes "B" ∷ [] ∷ codes "1" ∷ []))) ∷ Commits (Put (key_in account 1) (account_record (codes "A") [] (Some (2 ∷ []))) ∷ Put (key_in account 2) (account_record (codes "B") [] (Some (1 ∷ []))) ∷ []) ops.Commit ∷ Answers (Got ((1, 1 ∷ []) ∷ (2, 2 ∷ []) ∷ [])) ∷ [] }) ∷
    -- an account that was opened, with another owner
    (record { is_live = all_live; objects = old_object 1 account 1 p1 ∷ []; replies = reply.Number (pos 1) ∷ reply.Granted ∷ reply.Found (row ([] ∷ codes "Ann" ∷ codes "7" ∷ [] ∷ [])) ∷ reply.Done ∷ reply.Number (pos 0) ∷ []; sees = Asked ops.Begin ∷ Asked (lock_to_end Exclusive (account_row 1)) ∷ Asked (ops.Get (account_row 1)) ∷ Asked (ops.Set (account_row 1) (row ([] ∷ codes "P1" ∷ codes "7" ∷ [] ∷ []))) ∷ Commits (Put (key_in account 1) p1 ∷ []) ops.Commit ∷ Answers (Got []) ∷ [] }) ∷
    -- a chain of three new accounts, the last with a number that is taken
    (record { is_live = none_live; objects = new_object 1 account (λ drawn. account_record [] [] (drawn_for 2 drawn)) ∷ new_object 2 account (λ drawn. account_record [] [] (drawn_for 3 drawn)) ∷ new_object 3 account (λ drawn. account_record [] (codes "7") None) ∷ []; replies = reply.Number (pos 1) ∷ reply.Number (pos 2) ∷ reply.Number (pos 3) ∷ reply.Number (pos 4) ∷ reply.Granted ∷ reply.Granted ∷ reply.Granted ∷ reply.Absent ∷ reply.Absent ∷ reply.Absent ∷ reply.Granted ∷ reply.Done ∷ reply.Done ∷ reply.Next (num 1) ∷ reply.Number (pos 0) ∷ []; sees = Asked ops.Begin ∷ Asked (ops.Incr (counter_node account) (pos 1)) ∷ Asked (ops.Incr (counter_node account) (pos 1)) ∷ Asked (ops.Incr (counter_node account) (pos 1)) ∷ Asked (lock_to_end Exclusive (account_row 2)) ∷ Asked (lock_to_end Exclusive (account_row 3)) ∷ Asked (lock_to_end Exclusive (account_row 4)) ∷ Asked (ops.Get (account_row 2)) ∷ Asked (ops.Get (account_row 3)) ∷ Asked (ops.Get (account_row 4)) ∷ Asked (lock_to_end Exclusive (number_node 7)) ∷ Asked (ops.Set (account_row 2) (row ([] ∷ [] ∷ [] ∷ codes "3" ∷ []))) ∷ Asked (ops.Set (account_row 3) (row ([] ∷ [] ∷ [] ∷ codes "4" ∷ []))) ∷ Asked (ops.Order (number_node 7) None) ∷ Asked ops.RollbackOne ∷ Noted (Failed (Saving (Put (key_in account 2) (account_record [] [] (Some (3 ∷ []))) ∷ Put (key_in account 3) (account_record [] [] (Some (4 ∷ []))) ∷ Put (key_in account 4) (account_record [] (codes "7") None) ∷ [])) 1 (cause.NotUnique (codes "NumIdx") (1 ∷ []))) ∷ Answers (Lost (cause.NotUnique (codes "NumIdx") (1 ∷ []))) ∷ [] }) ∷
    -- two accounts change their numbers, each to the other's
    (record { is_live = all_live; objects = old_object 1 account 1 (account_record (codes "Ann") (codes "8") (Some (2 ∷ []))) ∷ old_object 2 account 2 (account_record (codes "Bob") (codes "7") None) ∷ []; replies = reply.Number (pos 1) ∷ reply.Granted ∷ reply.Granted ∷ reply.Found (row ([] ∷ codes "Ann" ∷ codes "7" ∷ codes "2" ∷ [])) ∷ reply.Found (row ([] ∷ codes "Bob" ∷ codes "8" ∷ [] ∷ [])) ∷ reply.Granted ∷ reply.Granted ∷ reply.Granted ∷ reply.Granted ∷ reply.Done ∷ reply.Done ∷ reply.NoNext ∷ reply.Done ∷ reply.Done ∷ reply.NoNext ∷ reply.Done ∷ reply.Done ∷ reply.Number (pos 0) ∷ []; sees = Asked ops.Begin ∷ Asked (lock_to_end Exclusive (account_row 1)) ∷ Asked (lock_to_end Exclusive (account_row 2)) ∷ Asked (ops.Get (account_row 1)) ∷ Asked (ops.Get (account_row 2)) ∷ Asked (lock_to_end Exclusive (number_node 7)) ∷ Asked (lock_to_end Exclusive (number_node 8)) ∷ Asked (lock_to_end Exclusive (number_node 8)) ∷ Asked (lock_to_end Exclusive (number_node 7)) ∷ Asked (ops.Kill (number_entry 7 1)) ∷ Asked (ops.Kill (number_entry 8 2)) ∷ Asked (ops.Order (number_node 8) None) ∷ Asked (ops.Set (account_row 1) (row ([] ∷ codes "Ann" ∷ codes "8" ∷ codes "2" ∷ []))) ∷ Asked (ops.Set (number_entry 8 1) nothing) ∷ Asked (ops.Order (number_node 7) None) ∷ Asked (ops.Set (account_row 2) (row ([] ∷ codes "Bob" ∷ codes "7" ∷ [] ∷ []))) ∷ Asked (ops.Set (number_entry 7 2) nothing) ∷ Commits (Put (key_in account 1) (account_record (codes "Ann") (codes "8") (Some (2 ∷ []))) ∷ Put (key_in account 2) (account_record (codes "Bob") (codes "7") None) ∷ []) ops.Commit ∷ Answers (Got []) ∷ [] }) ∷
    -- a new saver with a rate and a note: in node order the note comes before the saver's list
    (record { is_live = none_live; objects = new_object 1 account (λ drawn. saver5) ∷ []; replies = reply.Number (pos 1) ∷ reply.Number (pos 1) ∷ reply.Granted ∷ reply.Absent ∷ reply.Done ∷ reply.Done ∷ reply.Done ∷ reply.Number (pos 0) ∷ []; sees = Asked ops.Begin ∷ Asked (ops.Incr (counter_node account) (pos 1)) ∷ Asked (lock_to_end Exclusive (account_row 1)) ∷ Asked (ops.Get (account_row 1)) ∷ Asked (ops.Set (account_row 1) (row (codes "~Bank.Saver~" ∷ codes "Ann" ∷ [] ∷ [] ∷ []))) ∷ Asked (ops.Set (node (codes "Bank.AccountD") (num 1 ∷ word (codes "Notes") ∷ word (codes "k") ∷ [])) (value.Str (codes "v"))) ∷ Asked (ops.Set (node (codes "Bank.AccountD") (num 1 ∷ word (codes "Saver") ∷ [])) (row (codes "5" ∷ []))) ∷ Commits (Put (key_in account 1) saver5 ∷ []) ops.Commit ∷ Answers (Got ((1, 1 ∷ []) ∷ [])) ∷ [] }) ∷
    -- a clerk goes from one branch to another: entries of both are locked, then the new branch, which is there
    (record { is_live = all_live; objects = old_object 1 clerk 1 (clerk_record (codes "Cy") (Some (2 ∷ []))) ∷ []; replies = reply.Number (pos 2) ∷ reply.Granted ∷ reply.Found (row ([] ∷ codes "Cy" ∷ codes "1" ∷ [])) ∷ reply.Granted ∷ reply.Granted ∷ reply.Granted ∷ reply.State 1 ∷ reply.Done ∷ reply.Done ∷ reply.Done ∷ reply.Number (pos 1) ∷ []; sees = Asked ops.Begin ∷ Asked (lock_to_end Exclusive (clerk_row 1)) ∷ Asked (ops.Get (clerk_row 1)) ∷ Asked (lock_to_end Exclusive (member_entry 1 1)) ∷ Asked (lock_to_end Exclusive (member_entry 2 1)) ∷ Asked (lock_to_end Shared (branch_row 2)) ∷ Asked (ops.Defined (branch_row 2)) ∷ Asked (ops.Kill (member_entry 1 1)) ∷ Asked (ops.Set (clerk_row 1) (row ([] ∷ codes "Cy" ∷ codes "2" ∷ []))) ∷ Asked (ops.Set (member_entry 2 1) nothing) ∷ Commits (Put (key_in clerk 1) (clerk_record (codes "Cy") (Some (2 ∷ []))) ∷ []) ops.Commit ∷ Answers (Got []) ∷ [] }) ∷
    -- a new clerk of a branch that isn't there
    (record { is_live = none_live; objects = new_object 2 clerk (λ drawn. clerk_record [] (Some (1 ∷ []))) ∷ []; replies = reply.Number (pos 1) ∷ reply.Number (pos 1) ∷ reply.Granted ∷ reply.Absent ∷ reply.Granted ∷ reply.Granted ∷ reply.State 0 ∷ reply.Number (pos 0) ∷ []; sees = Asked ops.Begin ∷ Asked (ops.Incr (counter_node clerk) (pos 1)) ∷ Asked (lock_to_end Exclusive (clerk_row 1)) ∷ Asked (ops.Get (clerk_row 1)) ∷ Asked (lock_to_end Exclusive (member_entry 1 1)) ∷ Asked (lock_to_end Shared (branch_row 1)) ∷ Asked (ops.Defined (branch_row 1)) ∷ Asked ops.RollbackOne ∷ Noted (Failed (Saving (Put (key_in clerk 1) (clerk_record [] (Some (1 ∷ []))) ∷ [])) 1 (cause.NoTarget branch (1 ∷ []))) ∷ Answers (Lost (cause.NoTarget branch (1 ∷ []))) ∷ [] }) ∷
    -- an object that is gone
    (record { is_live = all_live; objects = old_object 1 account 1 (account_record (codes "B") [] None) ∷ []; replies = reply.Number (pos 1) ∷ reply.Granted ∷ reply.Absent ∷ reply.Number (pos 0) ∷ []; sees = Asked ops.Begin ∷ Asked (lock_to_end Exclusive (account_row 1)) ∷ Asked (ops.Get (account_row 1)) ∷ Asked ops.RollbackOne ∷ Noted (Failed (Saving (Put (key_in account 1) (account_record (codes "B") [] None) ∷ [])) 1 (cause.Gone (1 ∷ []))) ∷ Answers (Lost (cause.Gone (1 ∷ []))) ∷ [] }) ∷
    -- a counter at its last number
    (record { is_live = none_live; objects = new_object 1 account (λ drawn. ann7) ∷ []; replies = reply.Number (pos 1) ∷ reply.NumberLimit ∷ reply.Number (pos 0) ∷ []; sees = Asked ops.Begin ∷ Asked (ops.Incr (counter_node account) (pos 1)) ∷ Asked ops.RollbackOne ∷ Noted (Failed (Saving []) 1 cause.IdLimit) ∷ Answers (Lost cause.IdLimit) ∷ [] }) ∷
    -- a live object has the id that was drawn
    (record { is_live = all_live; objects = new_object 1 account (λ drawn. ann7) ∷ []; replies = reply.Number (pos 1) ∷ reply.Number (pos 3) ∷ reply.Number (pos 0) ∷ []; sees = Asked ops.Begin ∷ Asked (ops.Incr (counter_node account) (pos 1)) ∷ Asked ops.RollbackOne ∷ Noted (Failed (Saving []) 1 (cause.IdTaken (3 ∷ []))) ∷ Answers (Lost (cause.IdTaken (3 ∷ []))) ∷ [] }) ∷
    -- the counter was changed to something below 1
    (record { is_live = none_live; objects = new_object 1 account (λ drawn. ann7) ∷ []; replies = reply.Number (pos 1) ∷ reply.Number (pos 0) ∷ reply.Number (pos 0) ∷ []; sees = Asked ops.Begin ∷ Asked (ops.Incr (counter_node account) (pos 1)) ∷ Asked ops.RollbackOne ∷ Noted (Failed (Saving []) 1 (cause.Damaged (counter_node account))) ∷ Answers (Lost (cause.Damaged (counter_node account))) ∷ [] }) ∷
    []
