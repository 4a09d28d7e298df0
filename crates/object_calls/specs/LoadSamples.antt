-- Loads and raises of worked objects, with all that is seen of them; worked out by hand.
use Rattle.std.specs.Prelude.{◌≡◌, ℕ, true, false, List, [], ◌∷◌, codes, Some, None}
use Rattle.obj_kinds.specs.declared.op.Op.TheVariants as ops
use Rattle.obj_kinds.specs.declared.op.Mode.TheVariants.{Shared, Exclusive}
use Rattle.obj_kinds.specs.declared.op.Reply.{Reply}
use Rattle.obj_kinds.specs.declared.op.Reply.TheVariants as reply
use Rattle.obj_kinds.specs.declared.cause.Cause.TheVariants as cause
use Rattle.obj_kinds.specs.declared.value.Value.TheVariants as value
use Rattle.schema_kinds.specs.declared.record.Field.TheVariants as field
use Rattle.schema_kinds.specs.declared.record.Record.{Record}
use Rattle.store_calls.specs.Calls.{Opening, Loaded, Failed, Tried, Got, Lost}
use Rattle.object_calls.specs.Asking.{lock_counted, unlock}
use Rattle.object_calls.specs.Loads.{LoadCall, load, raise}
use Rattle.object_calls.specs.Shown.{Shown, Noted, Asked, Answers, shown}
use Rattle.object_calls.specs.Banking.{bank, account, saver, key_in, num, word, node, account_row, row, account_record, saver_record}

pub record LoadSample : Type 0 where
  pub call : LoadCall
  pub replies : List Reply
  pub sees : List (Shown (Tried Record))

-- three tries of a lock
abbrev pub IsLoadSeen : LoadSample → Type 0
IsLoadSeen x = shown (load bank 3 10 x.call) x.replies ≡ x.sees

abbrev pub AreLoadsSeen : List LoadSample → Type 0
AreLoadsSeen [] = Unit {0}
AreLoadsSeen (x ∷ xs) = IsLoadSeen x × AreLoadsSeen xs

abbrev pub ann : Record
ann = account_record (codes "Ann") (codes "7") None

abbrev pub loads : List LoadSample
loads =
    -- `%OpenId(1)` of an account: a shared lock for the read
    (record { call = record { key = key_in account 1; class = account; level = 2; touch = false }; replies = reply.Granted ∷ reply.Found (row ([] ∷ codes "Ann" ∷ codes "7" ∷ [] ∷ [])) ∷ reply.Done ∷ []; sees = Asked (lock_counted Shared (account_row 1)) ∷ Asked (ops.Get (account_row 1)) ∷ Asked (unlock Shared (account_row 1)) ∷ Noted (Loaded 1 (key_in account 1) ann) ∷ Answers (Got ann) ∷ [] }) ∷
    -- at level 0: no lock
    (record { call = record { key = key_in account 1; class = account; level = 0; touch = false }; replies = reply.Found (row ([] ∷ codes "Ann" ∷ codes "7" ∷ [] ∷ [])) ∷ []; sees = Asked (ops.Get (account_row 1)) ∷ Noted (Loaded 0 (key_in account 1) ann) ∷ Answers (Got ann) ∷ [] }) ∷
    -- at level 4: an exclusive lock that stays
    (record { call = record { key = key_in account 1; class = account; level = 4; touch = false }; replies = reply.Granted ∷ reply.Found (row ([] ∷ codes "Ann" ∷ codes "7" ∷ [] ∷ [])) ∷ []; sees = Asked (lock_counted Exclusive (account_row 1)) ∷ Asked (ops.Get (account_row 1)) ∷ Noted (Loaded 0 (key_in account 1) ann) ∷ Answers (Got ann) ∷ [] }) ∷
    -- another process holds the row: three tries, and the last reply is the cause
    (record { call = record { key = key_in account 1; class = account; level = 2; touch = false }; replies = reply.Held (record { 0 = 1 }) (account_row 1) Exclusive ∷ reply.Held (record { 0 = 1 }) (account_row 1) Exclusive ∷ reply.Held (record { 0 = 1 }) (account_row 1) Exclusive ∷ []; sees = Asked (lock_counted Shared (account_row 1)) ∷ Asked (lock_counted Shared (account_row 1)) ∷ Asked (lock_counted Shared (account_row 1)) ∷ Noted (Failed (Opening (key_in account 1) account) 0 (cause.Busy (record { 0 = 1 }) (account_row 1))) ∷ Answers (Lost (cause.Busy (record { 0 = 1 }) (account_row 1))) ∷ [] }) ∷
    -- a saver is asked for where an account is stored: the row tells, and no more is read
    (record { call = record { key = key_in account 1; class = saver; level = 2; touch = false }; replies = reply.Granted ∷ reply.Found (row ([] ∷ codes "Ann" ∷ codes "7" ∷ [] ∷ [])) ∷ reply.Done ∷ []; sees = Asked (lock_counted Shared (account_row 1)) ∷ Asked (ops.Get (account_row 1)) ∷ Asked (unlock Shared (account_row 1)) ∷ Noted (Failed (Opening (key_in account 1) saver) 1 (cause.OtherClass account)) ∷ Answers (Lost (cause.OtherClass account)) ∷ [] }) ∷
    -- a row that is no list
    (record { call = record { key = key_in account 1; class = account; level = 2; touch = false }; replies = reply.Granted ∷ reply.Found (value.Str (codes "x")) ∷ reply.Done ∷ []; sees = Asked (lock_counted Shared (account_row 1)) ∷ Asked (ops.Get (account_row 1)) ∷ Asked (unlock Shared (account_row 1)) ∷ Noted (Failed (Opening (key_in account 1) account) 1 (cause.Damaged (account_row 1))) ∷ Answers (Lost (cause.Damaged (account_row 1))) ∷ [] }) ∷
    -- a touch of what is gone, at level 3: the lock goes again
    (record { call = record { key = key_in account 2; class = account; level = 3; touch = true }; replies = reply.Granted ∷ reply.Absent ∷ reply.Done ∷ []; sees = Asked (lock_counted Shared (account_row 2)) ∷ Asked (ops.Get (account_row 2)) ∷ Asked (unlock Shared (account_row 2)) ∷ Noted (Failed (Opening (key_in account 2) account) 1 (cause.Gone (2 ∷ []))) ∷ Answers (Lost (cause.Gone (2 ∷ []))) ∷ [] }) ∷
    -- a saver: its row, its list below the row, and its notes; five reads, so the first of them is six entries back after the unlock
    (record { call = record { key = key_in account 1; class = account; level = 2; touch = false }; replies = reply.Granted ∷ reply.Found (row (codes "~Bank.Saver~" ∷ codes "Ann" ∷ [] ∷ [] ∷ [])) ∷ reply.Found (row (codes "5" ∷ [])) ∷ reply.Next (word (codes "k")) ∷ reply.Found (value.Str (codes "v")) ∷ reply.NoNext ∷ reply.Done ∷ []; sees = Asked (lock_counted Shared (account_row 1)) ∷ Asked (ops.Get (account_row 1)) ∷ Asked (ops.Get (node (codes "Bank.AccountD") (num 1 ∷ word (codes "Saver") ∷ []))) ∷ Asked (ops.Order (node (codes "Bank.AccountD") (num 1 ∷ word (codes "Notes") ∷ [])) None) ∷ Asked (ops.Get (node (codes "Bank.AccountD") (num 1 ∷ word (codes "Notes") ∷ word (codes "k") ∷ []))) ∷ Asked (ops.Order (node (codes "Bank.AccountD") (num 1 ∷ word (codes "Notes") ∷ [])) (Some (word (codes "k")))) ∷ Asked (unlock Shared (account_row 1)) ∷ Noted (Loaded 5 (key_in account 1) (saver_record (codes "Ann") (codes "5") ((word (codes "k"), field.Plain (codes "v")) ∷ []))) ∷ Answers (Got (saver_record (codes "Ann") (codes "5") ((word (codes "k"), field.Plain (codes "v")) ∷ []))) ∷ [] }) ∷
    -- at level 1 a class has a lock where it, or one below it, has several nodes; here the list of the saver is missing
    (record { call = record { key = key_in account 1; class = account; level = 1; touch = false }; replies = reply.Granted ∷ reply.Found (row (codes "~Bank.Saver~" ∷ codes "Ann" ∷ [] ∷ [] ∷ [])) ∷ reply.Absent ∷ reply.Done ∷ []; sees = Asked (lock_counted Shared (account_row 1)) ∷ Asked (ops.Get (account_row 1)) ∷ Asked (ops.Get (node (codes "Bank.AccountD") (num 1 ∷ word (codes "Saver") ∷ []))) ∷ Asked (unlock Shared (account_row 1)) ∷ Noted (Failed (Opening (key_in account 1) account) 1 (cause.Damaged (node (codes "Bank.AccountD") (num 1 ∷ word (codes "Saver") ∷ [])))) ∷ Answers (Lost (cause.Damaged (node (codes "Bank.AccountD") (num 1 ∷ word (codes "Saver") ∷ [])))) ∷ [] }) ∷
    []

-- ---- raises of the account 1

pub record RaiseSample : Type 0 where
  pub from : ℕ
  pub to : ℕ
  pub replies : List Reply
  pub sees : List (Shown (Tried (Unit {0})))

abbrev pub IsRaiseSeen : RaiseSample → Type 0
IsRaiseSeen x = shown (raise 2 (key_in account 1) account x.from x.to) x.replies ≡ x.sees

abbrev pub AreRaisesSeen : List RaiseSample → Type 0
AreRaisesSeen [] = Unit {0}
AreRaisesSeen (x ∷ xs) = IsRaiseSeen x × AreRaisesSeen xs

abbrev pub raises : List RaiseSample
raises =
    (record { from = 2; to = 3; replies = reply.Granted ∷ []; sees = Asked (lock_counted Shared (account_row 1)) ∷ Answers (Got tt) ∷ [] }) ∷
    (record { from = 2; to = 4; replies = reply.Granted ∷ []; sees = Asked (lock_counted Exclusive (account_row 1)) ∷ Answers (Got tt) ∷ [] }) ∷
    (record { from = 3; to = 4; replies = reply.Granted ∷ reply.Done ∷ []; sees = Asked (lock_counted Exclusive (account_row 1)) ∷ Asked (unlock Shared (account_row 1)) ∷ Answers (Got tt) ∷ [] }) ∷
    (record { from = 3; to = 4; replies = reply.Held (record { 0 = 2 }) (account_row 1) Shared ∷ reply.Held (record { 0 = 2 }) (account_row 1) Shared ∷ []; sees = Asked (lock_counted Exclusive (account_row 1)) ∷ Asked (lock_counted Exclusive (account_row 1)) ∷ Noted (Failed (Opening (key_in account 1) account) 0 (cause.Busy (record { 0 = 2 }) (account_row 1))) ∷ Answers (Lost (cause.Busy (record { 0 = 2 }) (account_row 1))) ∷ [] }) ∷
    (record { from = 4; to = 2; replies = []; sees = Answers (Got tt) ∷ [] }) ∷
    (record { from = 0; to = 2; replies = []; sees = Answers (Got tt) ∷ [] }) ∷
    []
