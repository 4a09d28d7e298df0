-- How many processes are live after a legal history.
use Rattle.std.proofs.Common.{◌≡◌, ◌≢◌, ◌≤◌, ◌<◌, ℕ, zero, suc, ◌+◌, Bool, true, false, cond, not, List, [], ◌∷◌, is_some, Some, refl, sym, ap, ◌∙◌, arith, nat_cmp}
use Rattle.std.proofs.lemmas.Cmp.{nat_cmp_total, tied_itself}
use Rattle.std.specs.Ordering.{eq_by_cmp, is_eq}
use Rattle.std.specs.FinMap.{get, contains_key, get-empty, get-insert, nat_cmp-IsAntisymmetric}
use Rattle.obj_kinds.specs.declared.op.Pid.{Pid}
use Rattle.obj_kinds.specs.declared.op.Op.{Op}
use Rattle.obj_kinds.specs.declared.op.Op.TheVariants.{End}
use Rattle.global_tree.specs.Contents.{Globals}
use Rattle.global_tree.proofs.MapLaws.{get-placed, one_key}
use Rattle.tran_log.specs.Levels.{Levels}
use Rattle.store_core.specs.declared.entry.Entry.{Entry}
use Rattle.store_core.specs.Machine.{State, seen, turn, after, live_with, is_live, all_live, opening}
use Rattle.store_core.specs.History.{IsLegal, state_after}
use Rattle.store_core.specs.Live.{is_end, ends, count_upto, live_count, AreLiveWithin}

-- COUNTS

same_count : (f g : ℕ → Bool) → ((q : ℕ) → f q ≡ g q) → (n : ℕ) → count_upto f n ≡ count_upto g n
same_count f g same zero = refl
same_count f g same (suc n) =
    let h = same_count f g same n in
    let e = ap (λ b. cond {A = ℕ} b 1 0) (same (suc n)) in
    omega arith

same_below : (f g : ℕ → Bool) (p : ℕ) → ((q : ℕ) → q ≢ p → f q ≡ g q) → (n : ℕ) → n < p → count_upto f n ≡ count_upto g n
same_below f g p same zero lt = refl
same_below f g p same (suc n) lt =
    let ne : suc n ≢ p = omega arith in
    let h = same_below f g p same n (omega arith) in
    let e = ap (λ b. cond {A = ℕ} b 1 0) (same (suc n) ne) in
    omega arith

one_less : (f g : ℕ → Bool) (p : ℕ) → f p ≡ true → g p ≡ false → ((q : ℕ) → q ≢ p → f q ≡ g q) → (n : ℕ) → 1 ≤ p → p ≤ n → count_upto g n + 1 ≡ count_upto f n
one_less f g p was is same zero low high = absurd (omega arith)
one_less f g p was is same (suc n) low high = by (eq_by_cmp nat_cmp p (suc n)) refl (one_less f g p was is same n low)
  where
    by : (b : Bool) → eq_by_cmp nat_cmp p (suc n) ≡ b → (p ≤ n → count_upto g n + 1 ≡ count_upto f n) → cond (g (suc n)) 1 0 + count_upto g n + 1 ≡ cond (f (suc n)) 1 0 + count_upto f n
    by true e rest =
        let here : p ≡ suc n = one_key nat_cmp-IsAntisymmetric p (suc n) e in
        let h = same_below f g p same n (omega (arith, here)) in
        let a = ap (λ b. cond {A = ℕ} b 1 0) (ap f (sym here) ∙ was) in
        let c = ap (λ b. cond {A = ℕ} b 1 0) (ap g (sym here) ∙ is) in
        omega arith
    by false e rest =
        let ne : suc n ≢ p = λ k. let t : eq_by_cmp nat_cmp p (suc n) ≡ true = ap (λ x. eq_by_cmp nat_cmp p x) k ∙ ap is_eq (tied_itself nat_cmp_total p) in cc in
        let h = rest (omega (arith, ne)) in
        let c = ap (λ b. cond {A = ℕ} b 1 0) (same (suc n) ne) in
        omega arith

full_count : (f : ℕ → Bool) (n : ℕ) → ((q : ℕ) → 1 ≤ q → q ≤ n → f q ≡ true) → count_upto f n ≡ n
full_count f zero all = refl
full_count f (suc n) all =
    let h = full_count f n (λ q low high. all q low (omega arith)) in
    let e = ap (λ b. cond {A = ℕ} b 1 0) (all (suc n) (omega arith) (omega arith)) in
    omega arith

none_left : (n : ℕ) → count_upto (λ _. false) n ≡ 0
none_left zero = refl
none_left (suc n) = let h = none_left n in omega arith

some_count : (f : ℕ → Bool) (p : ℕ) → f p ≡ true → (n : ℕ) → 1 ≤ p → p ≤ n → 1 ≤ count_upto f n
some_count f p was zero low high = absurd (omega arith)
some_count f p was (suc n) low high = by (eq_by_cmp nat_cmp p (suc n)) refl (some_count f p was n low)
  where
    by : (b : Bool) → eq_by_cmp nat_cmp p (suc n) ≡ b → (p ≤ n → 1 ≤ count_upto f n) → 1 ≤ cond (f (suc n)) 1 0 + count_upto f n
    by true e rest =
        let here : p ≡ suc n = one_key nat_cmp-IsAntisymmetric p (suc n) e in
        let a = ap (λ b. cond {A = ℕ} b 1 0) (ap f (sym here) ∙ was) in
        omega arith
    by false e rest =
        let ne : suc n ≢ p = λ k. let t : eq_by_cmp nat_cmp p (suc n) ≡ true = ap (λ x. eq_by_cmp nat_cmp p x) k ∙ ap is_eq (tied_itself nat_cmp_total p) in cc in
        let h = rest (omega (arith, ne)) in
        omega arith

-- WHO IS LIVE

live_is : (op : Op) (ls : Levels) → is_some (live_with op ls) ≡ not (is_end op)
live_is End ls = refl
live_is _ ls = refl

key_after : (s : State) (p : Pid) (op : Op) (q : ℕ) → contains_key (after s p op).levels q ≡ cond (eq_by_cmp nat_cmp q p.0) (not (is_end op)) (contains_key s.levels q)
unfolding after
key_after s p op q = ap is_some (get-placed nat_cmp_total s.levels p.0 (live_with op (turn (seen s p) p op).levels) q) ∙ by (eq_by_cmp nat_cmp q p.0)
  where
    by : (b : Bool) → is_some (cond b (live_with op (turn (seen s p) p op).levels) (get s.levels q)) ≡ cond b (not (is_end op)) (contains_key s.levels q)
    by true = live_is op _
    by false = refl

pub own_after : (s : State) (p : Pid) (op : Op) → is_live (after s p op) p ≡ not (is_end op)
own_after s p op = key_after s p op p.0 ∙ ap (λ r. cond (is_eq r) (not (is_end op)) (contains_key s.levels p.0)) (tied_itself nat_cmp_total p.0)

pub other_after : (s : State) (p : Pid) (op : Op) (q : ℕ) → q ≢ p.0 → contains_key (after s p op).levels q ≡ contains_key s.levels q
other_after s p op q ne = key_after s p op q ∙ by (eq_by_cmp nat_cmp q p.0) refl
  where
    by : (b : Bool) → eq_by_cmp nat_cmp q p.0 ≡ b → cond b (not (is_end op)) (contains_key s.levels q) ≡ contains_key s.levels q
    by true e = absurd (ne (one_key nat_cmp-IsAntisymmetric q p.0 e))
    by false e = refl

-- an operation other than the end leaves all live that are
pub stays_live : (s : State) (p : Pid) (op : Op) → is_live s p ≡ true → is_end op ≡ false → (q : ℕ) → contains_key (after s p op).levels q ≡ contains_key s.levels q
stays_live s p op live stays q = key_after s p op q ∙ by (eq_by_cmp nat_cmp q p.0) refl
  where
    by : (b : Bool) → eq_by_cmp nat_cmp q p.0 ≡ b → cond b (not (is_end op)) (contains_key s.levels q) ≡ contains_key s.levels q
    by true e = ap not stays ∙ sym (ap (contains_key s.levels) (one_key nat_cmp-IsAntisymmetric q p.0 e) ∙ live)
    by false e = refl

pids_same : (s : State) (p : Pid) (op : Op) → (after s p op).pids ≡ s.pids
unfolding after
pids_same s p op = refl

within_after : (s : State) (p : Pid) (op : Op) → is_live s p ≡ true → AreLiveWithin s → AreLiveWithin (after s p op)
unfolding AreLiveWithin
within_after s p op live within q there =
    let here : contains_key s.levels q ≡ true = by (eq_by_cmp nat_cmp q p.0) refl (sym (key_after s p op q) ∙ there) in
    let h = within q here in
    let e = pids_same s p op in
    (h.0, omega (arith, h.1, e))
  where
    by : (b : Bool) → eq_by_cmp nat_cmp q p.0 ≡ b → cond b (not (is_end op)) (contains_key s.levels q) ≡ true → contains_key s.levels q ≡ true
    by true e h = ap (contains_key s.levels) (one_key nat_cmp-IsAntisymmetric q p.0 e) ∙ live
    by false e h = h

count_after : (s : State) (p : Pid) (op : Op) → is_live s p ≡ true → AreLiveWithin s → cond (is_end op) 1 0 + live_count (after s p op) ≡ live_count s
unfolding live_count AreLiveWithin
count_after s p op live within =
    let e : count_upto (contains_key (after s p op).levels) (after s p op).pids ≡ count_upto (contains_key (after s p op).levels) s.pids = ap (count_upto (contains_key (after s p op).levels)) (pids_same s p op) in
    let h = by (is_end op) refl in
    omega (arith, e, h)
  where
    by : (b : Bool) → is_end op ≡ b → cond b 1 0 + count_upto (contains_key (after s p op).levels) s.pids ≡ count_upto (contains_key s.levels) s.pids
    by true e =
        let w = within p.0 live in
        let h = one_less (contains_key s.levels) (contains_key (after s p op).levels) p.0 live (own_after s p op ∙ ap not e) (λ q ne. sym (other_after s p op q ne)) s.pids w.0 w.1 in
        omega arith
    by false e =
        let h = same_count (contains_key (after s p op).levels) (contains_key s.levels) (stays_live s p op live e) s.pids in
        omega arith

-- each end makes one process fewer live
pub ends_counted : (s : State) (es : List Entry) → AreLiveWithin s → IsLegal s es → ends es + live_count (state_after s es) ≡ live_count s
ends_counted s [] within legal = omega arith
ends_counted s (e ∷ es) within legal =
    let h = ends_counted (after s e.pid e.op) es (within_after s e.pid e.op legal.0.0 within) legal.1 in
    let k = count_after s e.pid e.op legal.0.0 within in
    omega arith

pub within_legal : (s : State) (es : List Entry) → AreLiveWithin s → IsLegal s es → AreLiveWithin (state_after s es)
within_legal s [] within legal = within
within_legal s (e ∷ es) within legal = within_legal (after s e.pid e.op) es (within_after s e.pid e.op legal.0.0 within) legal.1

pub pids_legal : (s : State) (es : List Entry) → (state_after s es).pids ≡ s.pids
pids_legal s [] = refl
pids_legal s (e ∷ es) = pids_legal (after s e.pid e.op) es ∙ pids_same s e.pid e.op

-- AT THE OPENING

all_live_within : (n q : ℕ) → contains_key (all_live n) q ≡ true → (1 ≤ q) × (q ≤ n)
all_live_within zero q there = absurd (let e = ap is_some (get-empty {X = Levels} nat_cmp q) in cc)
all_live_within (suc n) q there = by (eq_by_cmp nat_cmp q (suc n)) refl (sym (ap is_some (get-insert nat_cmp_total (all_live n) (suc n) [] q)) ∙ there) (all_live_within n q)
  where
    by : (b : Bool) → eq_by_cmp nat_cmp q (suc n) ≡ b → is_some (cond b (Some []) (get (all_live n) q)) ≡ true
        → (contains_key (all_live n) q ≡ true → (1 ≤ q) × (q ≤ n)) → (1 ≤ q) × (q ≤ suc n)
    by true e h rest = let k : q ≡ suc n = one_key nat_cmp-IsAntisymmetric q (suc n) e in (omega (arith, k), omega (arith, k))
    by false e h rest = let r = rest h in (r.0, omega (arith, r.1))

all_live_there : (n q : ℕ) → 1 ≤ q → q ≤ n → contains_key (all_live n) q ≡ true
all_live_there zero q low high = absurd (omega arith)
all_live_there (suc n) q low high = ap is_some (get-insert nat_cmp_total (all_live n) (suc n) [] q) ∙ by (eq_by_cmp nat_cmp q (suc n)) refl (all_live_there n q low)
  where
    by : (b : Bool) → eq_by_cmp nat_cmp q (suc n) ≡ b → (q ≤ n → contains_key (all_live n) q ≡ true) → is_some (cond b (Some []) (get (all_live n) q)) ≡ true
    by true e rest = refl
    by false e rest =
        let ne : q ≢ suc n = λ k. let t : eq_by_cmp nat_cmp q (suc n) ≡ true = ap (λ x. eq_by_cmp nat_cmp q x) (sym k) ∙ ap is_eq (tied_itself nat_cmp_total q) in cc in
        rest (omega (arith, ne))

pub opening_within : (n : ℕ) (g : Globals) → AreLiveWithin (opening n g)
unfolding AreLiveWithin
opening_within n g q there = all_live_within n q there

pub opening_count : (n : ℕ) (g : Globals) → live_count (opening n g) ≡ n
unfolding live_count
opening_count n g = full_count (contains_key (all_live n)) n (all_live_there n)

pub opening_live : (n : ℕ) (g : Globals) (p : Pid) → 1 ≤ p.0 → p.0 ≤ n → is_live (opening n g) p ≡ true
opening_live n g p low high = all_live_there n p.0 low high

-- a live process has its place, and its end is still to come
pub live_has_place : (n : ℕ) (g : Globals) (es : List Entry) (p : Pid) → IsLegal (opening n g) es → is_live (state_after (opening n g) es) p ≡ true → (1 ≤ p.0) × ((p.0 ≤ n) × (ends es < n))
unfolding AreLiveWithin live_count
live_has_place n g es p legal live =
    let s = state_after (opening n g) es in
    let w = within_legal (opening n g) es (opening_within n g) legal p.0 live in
    let same : s.pids ≡ n = pids_legal (opening n g) es in
    let one = some_count (contains_key s.levels) p.0 live s.pids w.0 w.1 in
    let all : ends es + live_count s ≡ live_count (opening n g) = ends_counted (opening n g) es (opening_within n g) legal in
    let k : live_count (opening n g) ≡ n = opening_count n g in
    (w.0, (omega (arith, w.1, same), omega (arith, all, k, one)))

pub ends_few : (n : ℕ) (g : Globals) (es : List Entry) → IsLegal (opening n g) es → ends es ≤ n
ends_few n g es legal =
    let all : ends es + live_count (state_after (opening n g) es) ≡ live_count (opening n g) = ends_counted (opening n g) es (opening_within n g) legal in
    let k : live_count (opening n g) ≡ n = opening_count n g in
    omega (arith, all, k)
