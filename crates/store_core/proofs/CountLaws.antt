-- How large the counts of locks are after a legal history.
use Rattle.std.proofs.Common.{◌≡◌, ◌≤◌, ℕ, ◌+◌, ◌*◌, Bool, true, false, cond, ◌&&◌, List, [], ◌∷◌, length, unwrap_or, is_some, sym, ap, subst, arith}
use Rattle.std.specs.FinMap.{get-empty, empty}
use Rattle.obj_kinds.specs.declared.op.Pid.{Pid}
use Rattle.obj_kinds.specs.declared.op.Keep.{Keep}
use Rattle.obj_kinds.specs.declared.op.Keep.TheVariants.{Counted, ToEnd}
use Rattle.obj_kinds.specs.declared.op.Op.{Op}
use Rattle.obj_kinds.specs.declared.op.Op.TheVariants.{Lock, Unlock, UnlockAll, Commit, RollbackOne, RollbackAll, End}
use Rattle.global_tree.specs.Contents.{Globals}
use Rattle.lock_table.specs.declared.hold.Hold.{Hold}
use Rattle.lock_table.specs.declared.hold.Kept.{Kept}
use Rattle.lock_table.specs.Holds.{Holds, hold, hold_cmp, kept, unheld, is_counted, is_same, raised, one_back, is_of, all_back, tran_ended, granted}
use Rattle.lock_table.specs.Conflict.{asked, refusing}
use Rattle.lock_table.proofs.KeptLaws.{kept_granted, kept_given_back, kept_all_given_back, kept_tran_ended, kept_all_dropped}
use Rattle.store_core.specs.declared.entry.Entry.{Entry}
use Rattle.store_core.specs.Machine.{State, Sight, seen, turn, after, is_open, opening}
use Rattle.store_core.specs.History.{state_after}
use Rattle.store_core.specs.Volume.{op_room, reply_volume, entry_volume, volume}
use Rattle.store_core.specs.Live.{is_end, ends}

count_of : Holds → Hold → ℕ
count_of hs h = (kept hs h).counted

raised_few : (k : Keep) (c : Kept) → (raised k c).counted ≤ c.counted + 1
raised_few Counted c = omega arith
raised_few ToEnd c = omega arith

one_of : (b : Bool) (c d : Kept) (n : ℕ) → c.counted ≤ n → d.counted ≤ n → (cond b c d).counted ≤ n
one_of true c d n h k = h
one_of false c d n h k = k

less : (a b : Kept) (n : ℕ) → a ≡ b → b.counted ≤ n → a.counted ≤ n
less a b n e h = subst (λ (x : Kept). x.counted ≤ n) (sym e) h

few_asked : (hs : Holds) (h x : Hold) (k : Keep) → (kept (asked hs h k) x).counted ≤ (kept hs x).counted + 1
few_asked hs h x k = by (is_some (refusing hs h))
  where
    by : (b : Bool) → (kept (cond b hs (granted hs h k)) x).counted ≤ (kept hs x).counted + 1
    by true = omega arith
    by false = less _ _ _ (kept_granted hs h x k) (one_of (is_same x h) _ _ _ (raised_few k (kept hs x)) (omega arith))

few_back : (hs : Holds) (h x : Hold) (b : Bool) → (cond (is_same x h) (cond (is_counted (kept hs x)) (one_back b x (kept hs x)) (kept hs x)) (kept hs x)).counted ≤ (kept hs x).counted + 1
few_back hs h x b = one_of (is_same x h) _ _ _ (one_of (is_counted (kept hs x)) _ _ _ (omega arith) (omega arith)) (omega arith)

few_all_back : (p : Pid) (o : _) (b : Bool) (x : Hold) (c : Kept) → (all_back p o b x c).counted ≤ c.counted + 1
few_all_back p o b x c = one_of (is_of p o x && is_counted c) _ _ _ (omega arith) (omega arith)

few_left : (b : Bool) (hs : Holds) (p : Pid) (x : Hold) → (kept (cond b (tran_ended hs p) hs) x).counted ≤ (kept hs x).counted + 1
few_left true hs p x = less _ _ _ (kept_tran_ended hs p x) (by _)
  where
    by : (b : Bool) → (cond b (record { counted = (kept hs x).counted; to_end = false }) (kept hs x)).counted ≤ (kept hs x).counted + 1
    by true = omega arith
    by false = omega arith
few_left false hs p x = omega arith

few_turn : (s : Sight) (p : Pid) (op : Op) (x : Hold) → (kept (turn s p op).holds x).counted ≤ (kept s.holds x).counted + 1
unfolding turn
few_turn s p (Lock n m o k) x = few_asked s.holds (hold p n m o) x k
few_turn s p (Unlock n m o) x = less _ _ _ (kept_given_back s.holds (hold p n m o) x (is_open s.levels)) (few_back s.holds (hold p n m o) x (is_open s.levels))
few_turn s p (UnlockAll o) x = less _ _ _ (kept_all_given_back s.holds p o (is_open s.levels) x) (few_all_back p o (is_open s.levels) x (kept s.holds x))
few_turn s p Commit x = few_left _ s.holds p x
few_turn s p RollbackOne x = few_left _ s.holds p x
few_turn s p RollbackAll x = few_left _ s.holds p x
few_turn s p End x = less _ _ _ (kept_all_dropped s.holds p x) (one_of _ unheld (kept s.holds x) _ (omega arith) (omega arith))
few_turn s p _ x = omega arith

few_after : (s : State) (p : Pid) (op : Op) (x : Hold) → (kept (after s p op).holds x).counted ≤ (kept s.holds x).counted + 1
unfolding after
few_after s p op x = few_turn (seen s p) p op x

few_legal : (s : State) (es : List Entry) (x : Hold) → (kept (state_after s es).holds x).counted ≤ (kept s.holds x).counted + length es
few_legal s [] x = omega arith
few_legal s (e ∷ es) x =
    let h = few_legal (after s e.pid e.op) es x in
    let k = few_after s e.pid e.op x in
    omega arith

-- a lock counts at most as many as the history has entries
pub counts_few : (n : ℕ) (g : Globals) (es : List Entry) (x : Hold) → (kept (state_after (opening n g) es).holds x).counted ≤ length es
counts_few n g es x =
    let h = few_legal (opening n g) es x in
    let z : (kept empty x).counted ≡ 0 = ap (λ o. (unwrap_or o unheld).counted) (get-empty {X = Kept} hold_cmp x) in
    omega (arith, h, z)

room_of : (op : Op) (rest : ℕ) → 64 ≤ op_room op rest + 64 * cond (is_end op) 1 0
room_of End rest = omega arith
room_of _ rest = omega arith

entry_room : (e : Entry) → 64 ≤ entry_volume e + 64 * cond (is_end e.op) 1 0
unfolding entry_volume
entry_room e = room_of e.op (reply_volume e.reply)

-- each entry but an end takes 64 at least
pub length_few : (es : List Entry) → 64 * length es ≤ volume es + 64 * ends es
length_few [] = omega arith
length_few (e ∷ es) =
    let h = length_few es in
    let k = entry_room e in
    omega arith
