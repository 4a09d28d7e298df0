-- What any calls leave in the table.
use Rattle.std.specs.Prelude.{◌≡◌, Bool, true, false, List, [], ◌∷◌, ◌≢◌}
use Rattle.std.specs.declared.cmp.Ordering.TheVariants.{Less}
use Rattle.std.specs.FinMap.{empty, contains_key}
use Rattle.obj_kinds.specs.declared.op.Pid.{Pid}
use Rattle.obj_kinds.specs.declared.op.Owner.{Owner}
use Rattle.obj_kinds.specs.declared.op.Keep.{Keep}
use Rattle.lock_table.specs.declared.hold.Hold.{Hold}
use Rattle.lock_table.specs.Holds.{Holds, hold_cmp, is_held, kept, given_back, all_given_back, tran_ended, all_dropped}
use Rattle.lock_table.specs.Conflict.{conflicts, asked}

-- a call of the table; the truth values tell whether a transaction is open
pub data Call : Type 0 where
  Ask : Hold → Keep → Call
  Release : Hold → Bool → Call
  ReleaseAll : Pid → Owner → Bool → Call
  EndTran : Pid → Call
  DropAll : Pid → Call

abbrev pub after : Holds → Call → Holds
after hs (Ask h k) = asked hs h k
after hs (Release h in_tran) = given_back hs h in_tran
after hs (ReleaseAll p o in_tran) = all_given_back hs p o in_tran
after hs (EndTran p) = tran_ended hs p
after hs (DropAll p) = all_dropped hs p

-- from the empty table on; the last call stands first
abbrev pub after_all : List Call → Holds
after_all [] = empty
after_all (call ∷ earlier) = after (after_all earlier) call

-- no two holds of the table are in conflict
abbrev pub IsFree : Holds → Type 0
IsFree hs = (a b : Hold) → contains_key hs a ≡ true → contains_key hs b ≡ true → conflicts a b ≡ false

-- each hold of the table is counted or stays to the end
abbrev pub AllHeld : Holds → Type 0
AllHeld hs = (h : Hold) → contains_key hs h ≡ true → is_held (kept hs h) ≡ true

-- x is in the table and in conflict with h, and no hold that is so comes before x
pub record IsFirstAgainst (hs : Holds) (h x : Hold) : Type 0 where
  pub is_there : contains_key hs x ≡ true
  pub in_conflict : conflicts h x ≡ true
  pub none_before : (y : Hold) → contains_key hs y ≡ true → conflicts h y ≡ true → hold_cmp y x ≢ Less
