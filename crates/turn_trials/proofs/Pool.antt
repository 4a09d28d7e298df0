-- Processes that ran side by side.
use Rattle.std.proofs.Common.{◌≡◌, ◌≢◌, ℕ, zero, suc, ◌+◌, ◌<◌, ◌≤◌, ◌==◌, ◌||◌, Bool, true, false, cond, not, nat_lt, List, [], ◌∷◌, ◌++◌, filter, length, take, drop, refl, sym, ap, ◌∙◌, subst, arith, All}
use Rattle.std.proofs.lemmas.Bool.Decides.{nat_tests}
use Rattle.std.proofs.lemmas.List.Elements.{All-head, All-tail}
use Rattle.store_core.specs.declared.entry.Entry.{Entry}
use Rattle.store_core.specs.History.{part_of}
use Rattle.store_core.specs.Ledger.{Ledger}
use Rattle.turn_queue.specs.declared.view.Part.{Part}
use Rattle.turn_queue.specs.Seated.{Seated, seat_with}
use Rattle.turn_queue.specs.Parts.{Fits, has, fresh, fresh_from, below, from}
use Rattle.turn_trials.specs.declared.plan.Plan.{Plan}
use Rattle.turn_trials.specs.Runs.{HasRun, HaveRun, AreRun}

is_same : (m n : ℕ) → m ≡ n → m == n ≡ true
is_same m n e = grind (arith, nat_tests)

is_below : (p m : ℕ) → p < m → nat_lt p m ≡ true
is_below p m lt = grind (arith, nat_tests)

isnt_below : (p m : ℕ) → m ≤ p → nat_lt p m ≡ false
isnt_below p m le = grind (arith, nat_tests)

pub below_none : (m p n : ℕ) → m ≤ p → below m (fresh_from p n) ≡ []
below_none m p zero le = refl
below_none m p (suc n) le = ap (λ b. cond b (fresh p ∷ below m (fresh_from (suc p) n)) (below m (fresh_from (suc p) n))) (isnt_below p m le) ∙ below_none m (suc p) n (omega arith)

-- the first k of the processes from p on are those below p + k
pub below_fresh : (m p k n : ℕ) → p + k ≡ m → k ≤ n → below m (fresh_from p n) ≡ fresh_from p k
below_fresh m p zero n e le = below_none m p n (omega arith)
below_fresh m p (suc k) zero e le = absurd (omega arith)
below_fresh m p (suc k) (suc n) e le =
    ap (λ b. cond b (fresh p ∷ below m (fresh_from (suc p) n)) (below m (fresh_from (suc p) n))) (is_below p m (omega arith)) ∙ ap (λ ps. fresh p ∷ ps) (below_fresh m (suc p) k n (omega arith) (omega arith))

pub from_all : (m p n : ℕ) → m ≤ p → from m (fresh_from p n) ≡ fresh_from p n
from_all m p zero le = refl
from_all m p (suc n) le =
    ap (λ b. cond (not b) (fresh p ∷ from m (fresh_from (suc p) n)) (from m (fresh_from (suc p) n))) (isnt_below p m le) ∙ ap (λ ps. fresh p ∷ ps) (from_all m (suc p) n (omega arith))

pub from_fresh : (m p k l n : ℕ) → p + k ≡ m → k + l ≡ n → from m (fresh_from p n) ≡ fresh_from m l
from_fresh m p zero l n e le = let same : p ≡ m = omega arith in let all : n ≡ l = omega arith in from_all m p n (omega arith) ∙ ap (λ q. fresh_from q n) same ∙ ap (fresh_from m) all
from_fresh m p (suc k) l zero e le = absurd (omega arith)
from_fresh m p (suc k) l (suc n) e le =
    ap (λ b. cond (not b) (fresh p ∷ from m (fresh_from (suc p) n)) (from m (fresh_from (suc p) n))) (is_below p m (omega arith)) ∙ from_fresh m (suc p) k l n (omega arith) (omega arith)

fresh_some : (p n : ℕ) → 1 ≤ n → fresh_from p n ≢ []
fresh_some p zero le = absurd (omega arith)
fresh_some p (suc n) le = λ h. absurd cc

pub below_some : (m p k n : ℕ) → p + k ≡ m → k ≤ n → 1 ≤ k → below m (fresh_from p n) ≢ []
below_some m p k n e le one h = fresh_some p k one (sym (below_fresh m p k n e le) ∙ h)

pub from_some : (m p k l n : ℕ) → p + k ≡ m → k + l ≡ n → 1 ≤ l → from m (fresh_from p n) ≢ []
from_some m p k l n e le one h = fresh_some m l one (sym (from_fresh m p k l n e le) ∙ h)

pub ran_beside : (p m : ℕ) (xs ys : List Plan) (ps qs : List Part) → p + length xs ≡ m → HaveRun p xs ps → HaveRun m ys qs → HaveRun p (xs ++ ys) (ps ++ qs)
ran_beside p m [] ys [] qs e a b = subst (λ k. HaveRun k ys qs) (sym (omega arith)) b
ran_beside p m [] ys (o ∷ os) qs e a b = absurd a
ran_beside p m (x ∷ xs) ys [] qs e a b = absurd a
ran_beside p m (x ∷ xs) ys (o ∷ os) qs e a b = (a.0, a.1, ran_beside (suc p) m xs ys os qs (omega arith) a.2 b)

pub run_in : (l : Ledger) (p : ℕ) (plans : List Plan) (parts : List Part) → HaveRun p plans parts → All (Fits l) parts → AreRun p plans l.history
run_in l p [] parts a fits = tt
run_in l p (q ∷ qs) [] a fits = absurd a
run_in l p (q ∷ qs) (o ∷ os) a fits =
    let f = All-head (Fits l) o os fits in
    (subst (HasRun q.ops.items) (f.entries ∙ ap (λ k. part_of k l.history) a.0) a.1, run_in l (suc p) qs os a.2 (All-tail (Fits l) o os fits))

pub halves_low : (s : Seated) (ps : List Part) (m p k n : ℕ) → s.parts ≡ fresh_from p n → p + k ≡ m → k ≤ n → ps ≡ below m s.parts → seat_with s ps ≡ seat_with s (fresh_from p k)
halves_low s ps m p k n fresh' e le is = ap (λ q. seat_with s q) (is ∙ ap (below m) fresh' ∙ below_fresh m p k n e le)

pub halves_high : (s : Seated) (ps : List Part) (m p k l n : ℕ) → s.parts ≡ fresh_from p n → p + k ≡ m → k + l ≡ n → ps ≡ from m s.parts → seat_with s ps ≡ seat_with s (fresh_from m l)
halves_high s ps m p k l n fresh' e le is = ap (λ q. seat_with s q) (is ∙ ap (from m) fresh' ∙ from_fresh m p k l n e le)

pub beside : (seat low high s t r : Seated) (ls hs ps qs : List Part) → low ≡ seat_with seat ls → high ≡ seat_with seat hs → s ≡ seat_with low ps → t ≡ seat_with high qs → r ≡ seat_with s (s.parts ++ t.parts) → r ≡ seat_with seat (ps ++ qs)
beside seat low high s t r ls hs ps qs a b c d e =
    e ∙ ap (λ k. seat_with k (k.parts ++ t.parts)) (c ∙ ap (λ k. seat_with k ps) a) ∙ ap (λ (k : Seated). seat_with seat (ps ++ k.parts)) d

pub ran_has : (p q : ℕ) (plans : List Plan) (parts : List Part) → HaveRun p plans parts → p ≤ q → q < p + length plans → has q parts ≡ true
ran_has p q [] parts a low high = absurd (omega arith)
ran_has p q (x ∷ xs) [] a low high = absurd a
ran_has p q (x ∷ xs) (o ∷ os) a low high = by (q == o.pid.0) refl (ran_has (suc p) q xs os a.2)
  where
    by : (b : Bool) → q == o.pid.0 ≡ b → (suc p ≤ q → q < suc p + length xs → has q os ≡ true) → (b || has q os) ≡ true
    by true is rest = refl
    by false is rest = let ne : q ≢ p = λ e. let k : q == o.pid.0 ≡ true = is_same q o.pid.0 (e ∙ sym a.0) in cc in rest (omega (arith, ne, low)) (omega (arith, high))
