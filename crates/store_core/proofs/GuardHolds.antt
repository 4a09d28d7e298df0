-- Which operations take holds to the end away, and who may have them.
use Rattle.std.proofs.Common.{◌≡◌, ◌≢◌, ℕ, ◌-◌, Bool, true, false, cond, not, ◌==◌, ◌&&◌, ◌||◌, nat_lt, [], ◌∷◌, length, Option, Some, None, is_some, unwrap_or, refl, ap, ◌∙◌, arith}
use Rattle.std.proofs.lemmas.Bool.Decides.{nat_tests}
use Rattle.std.specs.FinMap.{get, contains_key, empty}
use Rattle.obj_kinds.specs.declared.node.Node.{Node}
use Rattle.obj_kinds.specs.declared.op.Pid.{Pid}
use Rattle.obj_kinds.specs.declared.op.Op.{Op}
use Rattle.obj_kinds.specs.declared.op.Op.TheVariants.{Set, Kill, Lock, Unlock, UnlockAll, Begin, Commit, RollbackOne, RollbackAll, End}
use Rattle.obj_kinds.specs.declared.op.Keep.{Keep}
use Rattle.obj_kinds.specs.declared.op.Keep.TheVariants.{Counted, ToEnd}
use Rattle.obj_kinds.specs.declared.op.Mode.TheVariants.{Exclusive}
use Rattle.obj_kinds.specs.declared.op.Owner.{Owner}
use Rattle.global_tree.proofs.StepLaws.{covers_itself}
use Rattle.lock_table.specs.declared.hold.Hold.{Hold}
use Rattle.lock_table.specs.declared.hold.Kept.{Kept}
use Rattle.lock_table.specs.Holds.{Holds, hold, is_same, kept, unheld, is_counted, raised, granted, lowered, stays, one_back, given_back, is_of, all_given_back, tran_ended, all_dropped}
use Rattle.lock_table.specs.Conflict.{conflicts, refusing, asked}
use Rattle.lock_table.specs.Calls.{IsFree}
use Rattle.lock_table.proofs.KeptLaws.{kept_granted, kept_given_back, kept_all_given_back, kept_tran_ended, kept_all_dropped}
use Rattle.tran_log.specs.Levels.{Olds, Levels, begun, note_top}
use Rattle.store_core.specs.Machine.{Sight, is_open, turn}
use Rattle.store_core.specs.Guard.{HoldsToEnd, ends}

abbrev pub IsToEnd : Holds → Hold → Type 0
IsToEnd hs h = (kept hs h).to_end ≡ true

-- ---- one change of the table

raised_stays : (k : Keep) (c : Kept) → c.to_end ≡ true → (raised k c).to_end ≡ true
raised_stays Counted c e = e
raised_stays ToEnd c e = refl

either_stays : (b : Bool) (c d : Kept) → c.to_end ≡ true → d.to_end ≡ true → (cond b c d).to_end ≡ true
either_stays true c d e f = e
either_stays false c d e f = f

lowered_stays : (stay : Bool) (n : ℕ) (c : Kept) → c.to_end ≡ true → (lowered stay n c).to_end ≡ true
lowered_stays stay n c e = ap (λ b. b || stay) e

granted_stays : (hs : Holds) (h x : Hold) (k : Keep) → IsToEnd hs x → IsToEnd (granted hs h k) x
granted_stays hs h x k e =
    ap (λ (c : Kept). c.to_end) (kept_granted hs h x k)
    ∙ either_stays (is_same x h) (raised k (kept hs x)) (kept hs x) (raised_stays k (kept hs x) e) e

asked_stays : (hs : Holds) (h x : Hold) (k : Keep) → IsToEnd hs x → IsToEnd (asked hs h k) x
asked_stays hs h x k e = by (is_some (refusing hs h))
  where
    by : (b : Bool) → IsToEnd (cond b hs (granted hs h k)) x
    by true = e
    by false = granted_stays hs h x k e

-- an unlock leaves what is kept to the end
given_back_stays : (hs : Holds) (h x : Hold) (in_tran : Bool) → IsToEnd hs x → IsToEnd (given_back hs h in_tran) x
given_back_stays hs h x in_tran e =
    let was = kept hs x in
    let less = one_back in_tran x was in
    let less_stays : less.to_end ≡ true = lowered_stays (stays in_tran x) (was.counted - 1) was e in
    ap (λ (c : Kept). c.to_end) (kept_given_back hs h x in_tran)
    ∙ either_stays (is_same x h) (cond (is_counted was) less was) was (either_stays (is_counted was) less was less_stays e) e

all_given_back_stays : (hs : Holds) (p : Pid) (o : Owner) (x : Hold) (in_tran : Bool) → IsToEnd hs x
    → IsToEnd (all_given_back hs p o in_tran) x
all_given_back_stays hs p o x in_tran e =
    let was = kept hs x in
    ap (λ (c : Kept). c.to_end) (kept_all_given_back hs p o in_tran x)
    ∙ either_stays (is_of p o x && is_counted was) (lowered (stays in_tran x) 0 was) was (lowered_stays (stays in_tran x) 0 was e) e

pub not_same : (p q : ℕ) → p ≢ q → (p == q) ≡ false
not_same p q ne = grind (arith, nat_tests)

-- those of the others stay where a transaction or a process ends
tran_ended_stays : (hs : Holds) (p : Pid) (x : Hold) → x.pid.0 ≢ p.0 → IsToEnd hs x → IsToEnd (tran_ended hs p) x
tran_ended_stays hs p x ne e =
    let was = kept hs x in
    ap (λ (c : Kept). c.to_end) (kept_tran_ended hs p x)
    ∙ ap (λ b. (cond b (record { counted = was.counted; to_end = false }) was).to_end) (not_same x.pid.0 p.0 ne) ∙ e

dropped_stays : (hs : Holds) (p : Pid) (x : Hold) → x.pid.0 ≢ p.0 → IsToEnd hs x → IsToEnd (all_dropped hs p) x
dropped_stays hs p x ne e =
    ap (λ (c : Kept). c.to_end) (kept_all_dropped hs p x)
    ∙ ap (λ b. (cond b unheld (kept hs x)).to_end) (not_same x.pid.0 p.0 ne) ∙ e

left_stays : (hs : Holds) (p : Pid) (x : Hold) (b : Bool) → (x.pid.0 ≡ p.0 → b ≡ false) → IsToEnd hs x
    → IsToEnd (cond b (tran_ended hs p) hs) x
left_stays hs p x true own e = tran_ended_stays hs p x (λ same. cc (own same)) e
left_stays hs p x false own e = e

-- ---- every operation

pub held_stays : (s : Sight) (p : Pid) (op : Op) (h : Hold) → IsToEnd s.holds h
    → (h.pid.0 ≡ p.0 → ends op s.levels (turn s p op).levels ≡ false) → IsToEnd (turn s p op).holds h
unfolding turn
held_stays s p (Lock n m o k) h e own = asked_stays s.holds (hold p n m o) h k e
held_stays s p (Unlock n m o) h e own = given_back_stays s.holds (hold p n m o) h (is_open s.levels) e
held_stays s p (UnlockAll o) h e own = all_given_back_stays s.holds p o h (is_open s.levels) e
held_stays s p Commit h e own = left_stays s.holds p h _ own e
held_stays s p RollbackOne h e own = left_stays s.holds p h _ own e
held_stays s p RollbackAll h e own = left_stays s.holds p h _ own e
held_stays s p End h e own = dropped_stays s.holds p h (λ same. cc (own same)) e
held_stays s p _ h e own = e

-- ---- where they go

same_is : (p q : ℕ) → p ≡ q → (p == q) ≡ true
same_is p q e = grind (arith, nat_tests)

tran_ended_goes : (hs : Holds) (p : Pid) (x : Hold) → x.pid.0 ≡ p.0 → (kept (tran_ended hs p) x).to_end ≡ false
tran_ended_goes hs p x same =
    let was = kept hs x in
    ap (λ (c : Kept). c.to_end) (kept_tran_ended hs p x)
    ∙ ap (λ b. (cond b (record { counted = was.counted; to_end = false }) was).to_end) (same_is x.pid.0 p.0 same)

dropped_goes : (hs : Holds) (p : Pid) (x : Hold) → x.pid.0 ≡ p.0 → (kept (all_dropped hs p) x).to_end ≡ false
dropped_goes hs p x same =
    ap (λ (c : Kept). c.to_end) (kept_all_dropped hs p x)
    ∙ ap (λ b. (cond b unheld (kept hs x)).to_end) (same_is x.pid.0 p.0 same)

left_goes : (hs : Holds) (p : Pid) (x : Hold) (b : Bool) → b ≡ true → x.pid.0 ≡ p.0
    → (kept (cond b (tran_ended hs p) hs) x).to_end ≡ false
left_goes hs p x true e same = tran_ended_goes hs p x same
left_goes hs p x false e same = cc

none_both : (b : Bool) → b && false ≡ true → ⊥
none_both true e = cc
none_both false e = cc

none_left : (b : Bool) → b && not b ≡ true → ⊥
none_left true e = cc
none_left false e = cc

noted_left : (ls : Levels) (es : Olds) → is_open ls && not (is_open (note_top ls es)) ≡ true → ⊥
noted_left [] es e = cc
noted_left (l ∷ ls) es e = cc

begun_left : (ls : Levels) → is_open ls && not (is_open (begun ls)) ≡ true → ⊥
begun_left ls = by (nat_lt (length ls) 255)
  where
    by : (b : Bool) → is_open ls && not (is_open (cond b (empty ∷ ls) ls)) ≡ true → ⊥
    by true e = none_both (is_open ls) e
    by false e = none_left (is_open ls) e

pub held_goes : (s : Sight) (p : Pid) (op : Op) (h : Hold) → h.pid.0 ≡ p.0
    → ends op s.levels (turn s p op).levels ≡ true
    → (kept (turn s p op).holds h).to_end ≡ false
unfolding turn
held_goes s p (Set n v) h same e = absurd (noted_left s.levels _ e)
held_goes s p (Kill n) h same e = absurd (noted_left s.levels _ e)
held_goes s p Begin h same e = absurd (begun_left s.levels e)
held_goes s p Commit h same e = left_goes s.holds p h _ e same
held_goes s p RollbackOne h same e = left_goes s.holds p h _ e same
held_goes s p RollbackAll h same e = left_goes s.holds p h _ e same
held_goes s p End h same e = dropped_goes s.holds p h same
held_goes s p _ h same e = absurd (none_left (is_open s.levels) e)

-- ---- one holder

there : (hs : Holds) (h : Hold) → IsToEnd hs h → contains_key hs h ≡ true
there hs h e = by (get hs h) e
  where
    by : (o : Option Kept) → (unwrap_or o unheld).to_end ≡ true → is_some o ≡ true
    by None e = cc
    by (Some c) e = refl

both : (t c : Bool) → c ≡ true → (not t && true) && (c || c) ≡ false → t ≡ true
both true c e f = refl
both false true e f = cc
both false false e f = cc

tested : (p q : ℕ) → (p == q) ≡ true → p ≡ q
tested p q e = grind (arith, nat_tests)

-- two processes don't both hold a node exclusively
pub one_holder : (hs : Holds) (p q : Pid) (n : Node) → IsFree hs → HoldsToEnd hs p n → HoldsToEnd hs q n → p.0 ≡ q.0
unfolding conflicts
one_holder hs p q n free h k =
    let apart = free (hold p n Exclusive h.0) (hold q n Exclusive k.0) (there hs _ h.1) (there hs _ k.1) in
    tested p.0 q.0 (both (p.0 == q.0) _ (covers_itself n) apart)
