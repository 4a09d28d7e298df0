-- Within the units of a process the bound of the walks doesn't show.
use Rattle.std.proofs.Common.{◌≡◌, ℕ, zero, suc, ◌<◌, ◌≤◌, List, [], ◌∷◌, length, refl, sym, ap, ◌∙◌, arith}
use Rattle.obj_kinds.specs.declared.op.Reply.{Reply}
use Rattle.store_calls.specs.Calls.{Call, Give, Ask, Tell, Cut, bind, Tried, Got, Lost, then, then_on, Round, Again, Ends, round, turns, run, within}

pub within_bind : {A B : Type 0} (u : ℕ) (c : Call A) (f g : A → Call B) → ((a : A) (v : ℕ) → v ≤ u → within v (f a) ≡ within v (g a)) → within u (bind c f) ≡ within u (bind c g)
within_bind u (Give a) f g h = h a u (omega arith)
within_bind u (Tell x c) f g h = ap (λ d. Tell x d) (within_bind u c f g h)
within_bind u Cut f g h = refl
within_bind zero (Ask op tag k) f g h = refl
within_bind (suc u) (Ask op tag k) f g h = λ i. Ask op tag (λ r. within_bind u (k r) f g (λ a v le. h a v (omega arith)) i)

abbrev pub IsAsk : {A : Type 0} → Call A → Type 0
IsAsk (Ask op tag k) = Unit {0}
IsAsk _ = ⊥

none_left : {A B : Type 0} (c : Call A) (f : A → Call B) → IsAsk c → within zero (bind c f) ≡ Cut
none_left (Give a) f h = absurd h
none_left (Tell x c) f h = absurd h
none_left Cut f h = absurd h
none_left (Ask op tag k) f h = refl

-- any two bounds from the number of the units are the same
pub within_turns : {S A : Type 0} (body : S → Call (Tried (Round S A))) → ((s : S) → IsAsk (body s)) → (u m n : ℕ) (s : S) → u ≤ m → u ≤ n → within u (turns m body s) ≡ within u (turns n body s)
within_turns body asks zero zero zero s h k = refl
within_turns body asks zero zero (suc n) s h k = sym (none_left (body s) (then_on (round (turns n body))) (asks s))
within_turns body asks zero (suc m) zero s h k = none_left (body s) (then_on (round (turns m body))) (asks s)
within_turns body asks zero (suc m) (suc n) s h k = none_left (body s) (then_on (round (turns m body))) (asks s) ∙ sym (none_left (body s) (then_on (round (turns n body))) (asks s))
within_turns body asks (suc u) zero n s h k = absurd (omega arith)
within_turns body asks (suc u) (suc m) zero s h k = absurd (omega arith)
within_turns {S} {A} body asks (suc u) (suc m) (suc n) s h k = by (body s) (asks s) (λ v s' le. within_turns body asks v m n s' (omega arith) (omega arith))
  where
    on : (v : ℕ) (a : Tried (Round S A)) → ((s : S) → within v (turns m body s) ≡ within v (turns n body s)) → within v (then_on (round (turns m body)) a) ≡ within v (then_on (round (turns n body)) a)
    on v (Got (Again s')) more = more s'
    on v (Got (Ends a)) more = refl
    on v (Lost x) more = refl

    by : (c : Call (Tried (Round S A))) → IsAsk c → ((v : ℕ) (s' : S) → v ≤ u → within v (turns m body s') ≡ within v (turns n body s')) → within (suc u) (then c (round (turns m body))) ≡ within (suc u) (then c (round (turns n body)))
    by (Give a) g more = absurd g
    by (Tell x c) g more = absurd g
    by Cut g more = absurd g
    by (Ask op tag j) g more = λ i. Ask op tag (λ r. within_bind u (j r) (then_on (round (turns m body))) (then_on (round (turns n body))) (λ a v le. on v a (λ s'. more v s' le)) i)

-- with fewer replies than units nothing is cut
pub run_within : {A : Type 0} (u : ℕ) (c : Call A) (rs : List Reply) → length rs < u → run (within u c) rs ≡ run c rs
run_within u (Give a) rs h = refl
run_within u (Tell x c) rs h = run_within u c rs h
run_within u Cut rs h = refl
run_within zero (Ask op tag k) rs h = absurd (omega arith)
run_within (suc u) (Ask op tag k) [] h = refl
run_within (suc u) (Ask op tag k) (r ∷ rs) h = run_within u (k r) rs (omega arith)
