-- Guards keep writers apart, and cleared values move at outermost commits alone.
use Rattle.std.proofs.Common.{◌≡◌, ◌≢◌, ◌<◌, ◌≤◌, ℕ, zero, suc, Bool, true, false, cond, ◌⊎◌, inl, inr, List, [], ◌∷◌, ◌++◌, Option, Some, None, is_some, unwrap_or, refl, sym, ap, subst, ◌∙◌, arith, nat_cmp}
use Rattle.std.proofs.lemmas.Bool.Decides.{nat_tests}
use Rattle.std.proofs.lemmas.Cmp.{nat_cmp_total, tied_itself}
use Rattle.std.specs.Ordering.{eq_by_cmp, is_eq}
use Rattle.std.specs.FinMap.{get, contains_key, get-empty, get-insert, nat_cmp-IsAntisymmetric}
use Rattle.obj_kinds.specs.declared.node.Node.{Node}
use Rattle.obj_kinds.specs.declared.value.Value.{Value}
use Rattle.obj_kinds.specs.declared.op.Pid.{Pid}
use Rattle.obj_kinds.specs.declared.op.Op.{Op}
use Rattle.obj_kinds.specs.declared.op.Op.TheVariants.{End}
use Rattle.global_tree.specs.Contents.{Globals}
use Rattle.global_tree.proofs.MapLaws.{get-placed, one_key}
use Rattle.lock_table.specs.declared.hold.Hold.{Hold}
use Rattle.lock_table.specs.declared.hold.Kept.{Kept}
use Rattle.lock_table.specs.Holds.{Holds, hold_cmp, kept}
use Rattle.tran_log.specs.Levels.{Levels}
use Rattle.store_core.specs.declared.entry.Entry.{Entry}
use Rattle.store_core.specs.Machine.{State, seen, is_open, is_live, levels_at, live_with, turn, after, all_live, opening}
use Rattle.store_core.specs.History.{state_after}
use Rattle.store_core.specs.Cleared.{outermost, cleared, cleared_upto}
use Rattle.store_core.specs.Guard.{Guarding, Unguarded, GuardedBy, Closed, Guard, guards, is_guarded, HoldsGuard, names, Respects, IsLegalUnder, IsGuarded, commits, MovesAtCommits, last_committed, ends}
use Rattle.store_core.proofs.FrameLaws.{others_stay, stays_free, no_levels, cleared_opening}
use Rattle.store_core.proofs.GuardHolds.{IsToEnd, held_stays, held_goes, one_holder}
use Rattle.store_core.proofs.GuardTurns.{IsTurned, Left, Wrote, Undid, Committed, turned}

same_or : (p q : ℕ) → (p ≡ q) ⊎ (p ≢ q)
same_or p q = grind (arith, nat_tests)

one_pid : (p q : Pid) → p.0 ≡ q.0 → p ≡ q
one_pid p q e = λ i. record { 0 = e i }

no_name : (o : Option (Option Value)) → (is_some o ≡ true → ⊥) → o ≡ None
no_name None h = refl
no_name (Some x) h = absurd (h refl)

none_is : (o : Option (Option Value)) → is_some o ≡ false → o ≡ None
none_is None e = refl
none_is (Some x) e = cc

-- ---- the levels of the process itself

itself : (p : ℕ) → eq_by_cmp nat_cmp p p ≡ true
itself p = ap is_eq (tied_itself nat_cmp_total p)

live_levels : (s : State) (p : Pid) (op : Op)
    → unwrap_or (live_with op (turn (seen s p) p op).levels) [] ≡ (turn (seen s p) p op).levels
unfolding turn
live_levels s p End = refl
live_levels s p _ = refl

ended_levels : (s : State) (p : Pid) → (turn (seen s p) p End).levels ≡ []
unfolding turn
ended_levels s p = refl

own_levels : (s : State) (p : Pid) (op : Op) → levels_at (after s p op) p.0 ≡ (turn (seen s p) p op).levels
unfolding after
own_levels s p op =
    ap (λ o. unwrap_or o []) (get-placed nat_cmp_total s.levels p.0 (live_with op (turn (seen s p) p op).levels) p.0
    ∙ ap (λ b. cond b (live_with op (turn (seen s p) p op).levels) (get s.levels p.0)) (itself p.0))
    ∙ live_levels s p op

same_pids : (s : State) (p : Pid) (op : Op) → (after s p op).pids ≡ s.pids
unfolding after
same_pids s p op = refl

turn_globals : (s : State) (p : Pid) (op : Op) → (after s p op).globals ≡ (turn (seen s p) p op).globals
unfolding after
turn_globals s p op = refl

open_of : (ls : Levels) (n : Node) → names ls n ≡ true → is_open ls ≡ true
open_of [] n e = e
open_of (l ∷ ls) n e = refl

live_of : (s : State) (p : Pid) (n : Node) → names (levels_at s p.0) n ≡ true → is_live s p ≡ true
live_of s p n e = by (get s.levels p.0) e
  where
    by : (o : Option Levels) → names (unwrap_or o []) n ≡ true → is_some o ≡ true
    by None e = e
    by (Some ls) e = refl

-- ---- holds to the end

pub end_stays : (s : State) (p : Pid) (op : Op) (h : Hold) → IsToEnd s.holds h
    → (h.pid.0 ≡ p.0 → ends op (levels_at s p.0) (levels_at (after s p op) p.0) ≡ false)
    → IsToEnd (after s p op).holds h
unfolding after
end_stays s p op h e own =
    held_stays (seen s p) p op h e (λ same. subst (λ ls. ends op (levels_at s p.0) ls ≡ false) (own_levels s p op) (own same))

pub end_goes : (s : State) (p : Pid) (op : Op) (h : Hold) → h.pid.0 ≡ p.0
    → ends op (levels_at s p.0) (levels_at (after s p op) p.0) ≡ true
    → (kept (after s p op).holds h).to_end ≡ false
unfolding after
end_goes s p op h same e =
    held_goes (seen s p) p op h same (subst (λ ls. ends op (levels_at s p.0) ls ≡ true) (own_levels s p op) e)

-- with a level left, not all are left
not_ended : (op : Op) (ls later : Levels) → is_open later ≡ true → op ≢ End → ends op ls later ≡ false
not_ended End ls later e ne = absurd (ne refl)
not_ended _ [] later e ne = refl
not_ended _ (l ∷ ls) [] e ne = cc
not_ended _ (l ∷ ls) (k ∷ later) e ne = refl

not_end : (s : State) (p : Pid) (op : Op) (n : Node) → names (levels_at (after s p op) p.0) n ≡ true → op ≢ End
not_end s p op n e is =
    let gone = ap (λ ls. names ls n) (own_levels s p End ∙ ended_levels s p) in
    cc (sym (ap (λ x. names (levels_at (after s p x) p.0) n) is) ∙ e, gone)

guard_stays : (s : State) (p : Pid) (op : Op) (q : Pid) (g : Guarding)
    → (q.0 ≡ p.0 → ends op (levels_at s p.0) (levels_at (after s p op) p.0) ≡ false) → HoldsGuard s.holds q g
    → HoldsGuard (after s p op).holds q g
guard_stays s p op q Unguarded own h = tt
guard_stays s p op q (GuardedBy row) own h = (h.0, end_stays s p op _ h.1 own)
guard_stays s p op q Closed own h = absurd h

no_guard : (hs : Holds) (p : Pid) (g : Guarding) → guards g ≡ false → HoldsGuard hs p g
no_guard hs p Unguarded e = tt
no_guard hs p (GuardedBy row) e = cc
no_guard hs p Closed e = cc

-- ---- one writer

pub one_writer : (guard : Guard) (s : State) (p q : Pid) (n : Node) → is_guarded guard n ≡ true → IsGuarded guard s
    → names (levels_at s p.0) n ≡ true → names (levels_at s q.0) n ≡ true → p.0 ≡ q.0
one_writer guard s p q n gd k e f = by (guard n) gd (k.held p n e) (k.held q n f)
  where
    by : (g : Guarding) → guards g ≡ true → HoldsGuard s.holds p g → HoldsGuard s.holds q g → p.0 ≡ q.0
    by Unguarded e h i = cc
    by (GuardedBy row) e h i = one_holder s.holds p q row k.free h i
    by Closed e h i = absurd h

others_none : (guard : Guard) (s : State) (p : Pid) (n : Node) → is_guarded guard n ≡ true → IsGuarded guard s
    → names (levels_at s p.0) n ≡ true → (q : ℕ) → q ≢ p.0 → outermost (levels_at s q) n ≡ None
others_none guard s p n gd k e q ne = no_name _ (λ f. ne (one_writer guard s (record { 0 = q }) p n gd k f e))

-- ---- nodes that no process may write

not_named : (b : Bool) → (b ≡ true → ⊥) → b ≡ false
not_named true h = absurd (h refl)
not_named false h = refl

closed_holds : (hs : Holds) (p : Pid) (g : Guarding) → g ≡ Closed → HoldsGuard hs p g → ⊥
closed_holds hs p g e h = subst (HoldsGuard hs p) e h

pub closed_unnamed : (guard : Guard) (s : State) (p : Pid) (n : Node) → guard n ≡ Closed → IsGuarded guard s
    → names (levels_at s p.0) n ≡ false
closed_unnamed guard s p n c k = not_named _ (λ e. closed_holds s.holds p (guard n) c (k.held p n e))

pub closed_unchanged : (guard : Guard) (s : State) (p : Pid) (op : Op) (n : Node) → guard n ≡ Closed
    → Respects guard s p op → IsGuarded guard s
    → get (after s p op).globals n ≡ get s.globals n
closed_unchanged guard s p op n c may k =
    ap (λ h. get h n) (turn_globals s p op) ∙ by (turned guard s p n (ap guards c) op may)
  where
    by : {b : Bool} {v : Option Value} {o : Option (Option Value)}
        → IsTurned (HoldsGuard s.holds p (guard n)) b (outermost (levels_at s p.0) n) (get s.globals n) o v
        → v ≡ get s.globals n
    by (Left other same value) = value
    by (Wrote other own there same) = absurd (closed_holds s.holds p (guard n) c own)
    by (Undid other there same) = absurd (closed_holds s.holds p (guard n) c (k.held p n there))
    by (Committed is there gone value) = value

-- ---- the store stays guarded

pub opening_guarded : (guard : Guard) (pids : ℕ) (g : Globals) → IsGuarded guard (opening pids g)
opening_guarded guard pids g = record {
  free = λ a b i j. cc (ap is_some (get-empty {X = Kept} hold_cmp a), i);
  held = λ p n e. absurd (cc (ap (λ ls. names ls n) (no_levels pids p.0), e));
  numbered = λ p e. within pids p.0 e;
}
  where
    within : (k q : ℕ) → contains_key (all_live k) q ≡ true → (0 < q) × (q ≤ k)
    within zero q e = cc (ap is_some (get-empty {X = Levels} nat_cmp q), e)
    within (suc k) q e =
        let f = sym (ap is_some (get-insert nat_cmp_total (all_live k) (suc k) [] q)) ∙ e in
        by (eq_by_cmp nat_cmp q (suc k)) refl f (within k q)
      where
        by : (b : Bool) → eq_by_cmp nat_cmp q (suc k) ≡ b → is_some (cond b (Some []) (get (all_live k) q)) ≡ true
            → (contains_key (all_live k) q ≡ true → (0 < q) × (q ≤ k)) → (0 < q) × (q ≤ suc k)
        by true t f rest =
            let same : q ≡ suc k = one_key nat_cmp-IsAntisymmetric q (suc k) t in
            (omega (arith, same), omega (arith, same))
        by false t f rest = let h = rest f in (h.0, omega (arith, h.1))

still_numbered : (s : State) (p : Pid) (op : Op) → is_live s p ≡ true
    → ((q : Pid) → is_live s q ≡ true → (0 < q.0) × (q.0 ≤ s.pids)) → (q : Pid) → is_live (after s p op) q ≡ true
    → (0 < q.0) × (q.0 ≤ s.pids)
unfolding after
still_numbered s p op live was q e =
    let is = get-placed nat_cmp_total s.levels p.0 (live_with op (turn (seen s p) p op).levels) q.0 in
    by (eq_by_cmp nat_cmp q.0 p.0) refl (sym (ap is_some is) ∙ e)
  where
    by : (b : Bool) → eq_by_cmp nat_cmp q.0 p.0 ≡ b
        → is_some (cond b (live_with op (turn (seen s p) p op).levels) (get s.levels q.0)) ≡ true
        → (0 < q.0) × (q.0 ≤ s.pids)
    by true t f = was q (ap (contains_key s.levels) (one_key nat_cmp-IsAntisymmetric q.0 p.0 t) ∙ live)
    by false t f = was q f

module _ (guard : Guard) (s : State) (p : Pid) (op : Op) (may : Respects guard s p op) (k : IsGuarded guard s) where
  -- who has the node after its turn held the guard before it
  held_before : (n : Node) → is_guarded guard n ≡ true → names (levels_at (after s p op) p.0) n ≡ true
      → HoldsGuard s.holds p (guard n)
  held_before n gd e = by (turned guard s p n gd op may) (ap (λ ls. names ls n) (sym (own_levels s p op)) ∙ e)
    where
      by : {b : Bool} {v v' : Option Value} {o : Option (Option Value)}
          → IsTurned (HoldsGuard s.holds p (guard n)) b (outermost (levels_at s p.0) n) v o v' → is_some o ≡ true
          → HoldsGuard s.holds p (guard n)
      by (Left other same value) f = k.held p n (ap is_some (sym same) ∙ f)
      by (Wrote other own there same) f = own
      by (Undid other there same) f = k.held p n there
      by (Committed is there gone value) f = k.held p n there

  held_after : (q : Pid) (n : Node) → is_guarded guard n ≡ true → names (levels_at (after s p op) q.0) n ≡ true
      → (q.0 ≡ p.0) ⊎ (q.0 ≢ p.0) → HoldsGuard (after s p op).holds q (guard n)
  held_after q n gd e (inl same) =
      let later = levels_at (after s p op) p.0 in
      let f : names later n ≡ true = ap (λ x. names (levels_at (after s p op) x) n) (sym same) ∙ e in
      guard_stays s p op q (guard n) (λ _. not_ended op (levels_at s p.0) later (open_of later n f) (not_end s p op n f))
      (subst (λ x. HoldsGuard s.holds x (guard n)) (sym (one_pid q p same)) (held_before n gd f))
  held_after q n gd e (inr ne) =
      let f : names (levels_at s q.0) n ≡ true = ap (λ ls. names ls n) (sym (others_stay s p op q.0 ne)) ∙ e in
      guard_stays s p op q (guard n) (λ same. absurd (ne same)) (k.held q n f)

  held_if : (q : Pid) (n : Node) → names (levels_at (after s p op) q.0) n ≡ true → (b : Bool) → is_guarded guard n ≡ b
      → HoldsGuard (after s p op).holds q (guard n)
  held_if q n e true gd = held_after q n gd e (same_or q.0 p.0)
  held_if q n e false gd = no_guard (after s p op).holds q (guard n) gd

  pub guarded_after : is_live s p ≡ true → IsGuarded guard (after s p op)
  guarded_after live = record {
    free = stays_free s p op k.free;
    held = λ q n e. held_if q n e (is_guarded guard n) refl;
    numbered = λ q e.
        subst (λ x. (0 < q.0) × (q.0 ≤ x)) (sym (same_pids s p op)) (still_numbered s p op live k.numbered q e);
  }

-- ---- cleared values

upto_none : (s : State) (n : Node) (k : ℕ) → ((q : ℕ) → q ≤ k → outermost (levels_at s q) n ≡ None)
    → cleared_upto s k n ≡ get s.globals n
upto_none s n zero none = refl
upto_none s n (suc k) none =
    ap (λ o. unwrap_or o (cleared_upto s k n)) (none (suc k) (omega arith))
    ∙ upto_none s n k (λ q le. none q (omega arith))

upto_one : (s : State) (p : ℕ) (n : Node) (k : ℕ) → ((q : ℕ) → q ≢ p → outermost (levels_at s q) n ≡ None) → 0 < p
    → p ≤ k → cleared_upto s k n ≡ unwrap_or (outermost (levels_at s p) n) (get s.globals n)
upto_one s p n zero none lo hi = absurd (omega arith)
upto_one s p n (suc k) none lo hi = by (same_or (suc k) p) (upto_one s p n k none lo)
  where
    by : (suc k ≡ p) ⊎ (suc k ≢ p)
        → (p ≤ k → cleared_upto s k n ≡ unwrap_or (outermost (levels_at s p) n) (get s.globals n))
        → unwrap_or (outermost (levels_at s (suc k)) n) (cleared_upto s k n) ≡ unwrap_or (outermost (levels_at s p) n) (get s.globals n)
    by (inl same) rest =
        ap (λ j. unwrap_or (outermost (levels_at s j) n) (cleared_upto s k n)) same
        ∙ ap (unwrap_or (outermost (levels_at s p) n)) (upto_none s n k (λ q le. none q (λ e. absurd (omega (arith, e, same, le)))))
    by (inr ne) rest = ap (λ o. unwrap_or o (cleared_upto s k n)) (none (suc k) ne) ∙ rest (omega (arith, ne, hi))

pub cleared_one : (s : State) (p : ℕ) (n : Node) → 0 < p → p ≤ s.pids
    → ((q : ℕ) → q ≢ p → names (levels_at s q) n ≡ false)
    → cleared s n ≡ unwrap_or (outermost (levels_at s p) n) (get s.globals n)
unfolding cleared
cleared_one s p n lo hi none = upto_one s p n s.pids (λ q ne. none_is _ (none q ne)) lo hi

pub cleared_guarded : (guard : Guard) (s : State) (p : Pid) (n : Node) → is_guarded guard n ≡ true → IsGuarded guard s
    → names (levels_at s p.0) n ≡ true → cleared s n ≡ unwrap_or (outermost (levels_at s p.0) n) (get s.globals n)
unfolding cleared
cleared_guarded guard s p n gd k e =
    let r = k.numbered p (live_of s p n e) in
    upto_one s p.0 n s.pids (others_none guard s p n gd k e) r.0 r.1

upto_left : (s t : State) (n : Node) → ((q : ℕ) → outermost (levels_at t q) n ≡ outermost (levels_at s q) n)
    → get t.globals n ≡ get s.globals n → (k : ℕ) → cleared_upto t k n ≡ cleared_upto s k n
upto_left s t n levels value zero = value
upto_left s t n levels value (suc k) = λ i. unwrap_or (levels (suc k) i) (upto_left s t n levels value k i)

cleared_left : (s t : State) (n : Node) → t.pids ≡ s.pids
    → ((q : ℕ) → outermost (levels_at t q) n ≡ outermost (levels_at s q) n) → get t.globals n ≡ get s.globals n
    → cleared t n ≡ cleared s n
unfolding cleared
cleared_left s t n pids levels value = ap (λ k. cleared_upto t k n) pids ∙ upto_left s t n levels value s.pids

-- a turn of the process to these levels and globals
abbrev Turned : Type 0 → Bool → State → Pid → Node → Levels → Globals → Type 0
Turned Own c s p n ls g = IsTurned Own c (outermost (levels_at s p.0) n) (get s.globals n) (outermost ls n) (get g n)

module _ (guard : Guard) (s t : State) (p : Pid) (n : Node) (gd : is_guarded guard n ≡ true) (live : is_live s p ≡ true)
    (k : IsGuarded guard s) (k' : IsGuarded guard t) (pids : t.pids ≡ s.pids)
    (others : (q : ℕ) → q ≢ p.0 → levels_at t q ≡ levels_at s q) where
  left_all : outermost (levels_at t p.0) n ≡ outermost (levels_at s p.0) n → (q : ℕ)
      → outermost (levels_at t q) n ≡ outermost (levels_at s q) n
  left_all same q = by (same_or q p.0)
    where
      by : (q ≡ p.0) ⊎ (q ≢ p.0) → outermost (levels_at t q) n ≡ outermost (levels_at s q) n
      by (inl e) = ap (λ x. outermost (levels_at t x) n) e ∙ same ∙ sym (ap (λ x. outermost (levels_at s x) n) e)
      by (inr ne) = ap (λ ls. outermost ls n) (others q ne)

  -- both by the levels of the process alone
  both_one : ((q : ℕ) → q ≢ p.0 → outermost (levels_at s q) n ≡ None)
      → unwrap_or (outermost (levels_at t p.0) n) (get t.globals n) ≡ unwrap_or (outermost (levels_at s p.0) n) (get s.globals n)
      → cleared t n ≡ cleared s n
  unfolding cleared
  both_one none same =
      let r = k.numbered p live in
      ap (λ j. cleared_upto t j n) pids
      ∙ upto_one t p.0 n s.pids (λ q ne. ap (λ ls. outermost ls n) (others q ne) ∙ none q ne) r.0 r.1
      ∙ same ∙ sym (upto_one s p.0 n s.pids none r.0 r.1)

  chosen : {b c : Bool} → c ≡ b → cond c (get s.globals n) (cleared s n) ≡ cond b (get s.globals n) (cleared s n)
  chosen e = ap (λ x. cond x (get s.globals n) (cleared s n)) e

  -- the levels of all have lost the node
  present : ((q : ℕ) → q ≢ p.0 → outermost (levels_at s q) n ≡ None) → outermost (levels_at t p.0) n ≡ None
      → cleared t n ≡ get t.globals n
  unfolding cleared
  present none gone =
      let r = k.numbered p live in
      ap (λ j. cleared_upto t j n) pids
      ∙ upto_one t p.0 n s.pids (λ q ne. ap (λ ls. outermost ls n) (others q ne) ∙ none q ne) r.0 r.1
      ∙ ap (λ o. unwrap_or o (get t.globals n)) gone

  moved : {Own : Type 0} {c : Bool} → Turned Own c s p n (levels_at t p.0) t.globals
      → cleared t n ≡ cond c (get s.globals n) (cleared s n)
  moved (Left other same value) = cleared_left s t n pids (left_all same) value ∙ sym (chosen other)
  moved (Wrote other own there same) =
      let none : (q : ℕ) → q ≢ p.0 → outermost (levels_at s q) n ≡ None = λ q ne.
      ap (λ ls. outermost ls n) (sym (others q ne)) ∙ others_none guard t p n gd k' there q ne in
      both_one none same ∙ sym (chosen other)
  moved (Undid other there same) = both_one (others_none guard s p n gd k there) same ∙ sym (chosen other)
  moved (Committed is there gone value) = present (others_none guard s p n gd k there) gone ∙ value ∙ sym (chosen is)

pub moves_at_commits : (guard : Guard) (s : State) (p : Pid) (op : Op) → is_live s p ≡ true → Respects guard s p op
    → IsGuarded guard s
    → MovesAtCommits guard s p op
moves_at_commits guard s p op live may k n gd =
    let c = commits (levels_at s p.0) op n in
    let own = HoldsGuard s.holds p (guard n) in
    moved guard s (after s p op) p n gd live k (guarded_after guard s p op may k live) (same_pids s p op)
    (others_stay s p op)
    (subst (λ ls. Turned own c s p n ls (after s p op).globals) (sym (own_levels s p op))
    (subst (λ g. Turned own c s p n (turn (seen s p) p op).levels g) (sym (turn_globals s p op))
    (turned guard s p n gd op may)))

-- ---- histories

front_guarded : (guard : Guard) (s : State) (es fs : List Entry) → IsGuarded guard s → IsLegalUnder guard s (es ++ fs)
    → IsGuarded guard (state_after s es)
front_guarded guard s [] fs k legal = k
front_guarded guard s (e ∷ es) fs k legal =
    front_guarded guard (after s e.pid e.op) es fs (guarded_after guard s e.pid e.op legal.1.0 k legal.0.0.0)
    (legal.0.1, legal.1.1)

front_moves : (guard : Guard) (s : State) (es fs : List Entry) (e : Entry) → IsGuarded guard s
    → IsLegalUnder guard s (es ++ e ∷ fs)
    → MovesAtCommits guard (state_after s es) e.pid e.op
front_moves guard s [] fs e k legal = moves_at_commits guard s e.pid e.op legal.0.0.0 legal.1.0 k
front_moves guard s (x ∷ es) fs e k legal =
    front_moves guard (after s x.pid x.op) es fs e (guarded_after guard s x.pid x.op legal.1.0 k legal.0.0.0)
    (legal.0.1, legal.1.1)

cleared_from : (guard : Guard) (s : State) (es : List Entry) (n : Node) → is_guarded guard n ≡ true
    → IsGuarded guard s → IsLegalUnder guard s es
    → cleared (state_after s es) n ≡ last_committed s es n (cleared s n)
cleared_from guard s [] n gd k legal = refl
cleared_from guard s (e ∷ es) n gd k legal =
    cleared_from guard (after s e.pid e.op) es n gd (guarded_after guard s e.pid e.op legal.1.0 k legal.0.0.0)
    (legal.0.1, legal.1.1)
    ∙ ap (last_committed (after s e.pid e.op) es n) (moves_at_commits guard s e.pid e.op legal.0.0.0 legal.1.0 k n gd)

pub history_guarded : (guard : Guard) (pids : ℕ) (g : Globals) (es fs : List Entry)
    → IsLegalUnder guard (opening pids g) (es ++ fs)
    → IsGuarded guard (state_after (opening pids g) es)
history_guarded guard pids g es fs = front_guarded guard (opening pids g) es fs (opening_guarded guard pids g)

pub history_moves : (guard : Guard) (pids : ℕ) (g : Globals) (es fs : List Entry) (e : Entry)
    → IsLegalUnder guard (opening pids g) (es ++ e ∷ fs)
    → MovesAtCommits guard (state_after (opening pids g) es) e.pid e.op
history_moves guard pids g es fs e = front_moves guard (opening pids g) es fs e (opening_guarded guard pids g)

pub history_committed : (guard : Guard) (pids : ℕ) (g : Globals) (es : List Entry) (n : Node)
    → is_guarded guard n ≡ true
    → IsLegalUnder guard (opening pids g) es
    → cleared (state_after (opening pids g) es) n ≡ last_committed (opening pids g) es n (get g n)
history_committed guard pids g es n gd legal =
    cleared_from guard (opening pids g) es n gd (opening_guarded guard pids g) legal
    ∙ ap (last_committed (opening pids g) es n) (cleared_opening pids g n)

closed_from : (guard : Guard) (s : State) (es : List Entry) (n : Node) → guard n ≡ Closed → IsGuarded guard s
    → IsLegalUnder guard s es
    → get (state_after s es).globals n ≡ get s.globals n
closed_from guard s [] n c k legal = refl
closed_from guard s (e ∷ es) n c k legal =
    closed_from guard (after s e.pid e.op) es n c (guarded_after guard s e.pid e.op legal.1.0 k legal.0.0.0)
    (legal.0.1, legal.1.1)
    ∙ closed_unchanged guard s e.pid e.op n c legal.1.0 k

pub history_closed : (guard : Guard) (pids : ℕ) (g : Globals) (es : List Entry) (n : Node) → guard n ≡ Closed
    → IsLegalUnder guard (opening pids g) es → get (state_after (opening pids g) es).globals n ≡ get g n
history_closed guard pids g es n c legal = closed_from guard (opening pids g) es n c (opening_guarded guard pids g) legal
