-- Calls by their replies, and walks.
use Rattle.std.proofs.Common.{◌≡◌, ℕ, zero, suc, ◌<◌, ◌≤◌, List, [], ◌∷◌, ◌++◌, length, refl, sym, ap, ◌∙◌, arith}
use Rattle.obj_kinds.specs.declared.op.Op.{Op}
use Rattle.obj_kinds.specs.declared.op.Reply.{Reply}
use Rattle.store_calls.specs.Calls.{Call, Give, Ask, Tell, Cut, bind, Tried, Got, Lost, then_on, Round, Again, Ends, round, turns, Turn, Awaits, Gives, Breaks, run, go_on}
use Rattle.store_calls.specs.Plans.{Bounded, IsAfter, IsAfterAll, AsksFor, SaysNext, Same, TakesReplies}

-- one call and then another: the second has the replies that the first left
pub run_bind : {A B : Type 0} (c : Call A) (f : A → Call B) (rs : List Reply) → run (bind c f) rs ≡ go_on f (run c rs)
run_bind (Give a) f rs = refl
run_bind (Tell x c) f rs = run_bind c f rs
run_bind Cut f rs = refl
run_bind (Ask op tag k) f [] = refl
run_bind (Ask op tag k) f (r ∷ rs) = run_bind (k r) f rs

-- no call makes replies
pub run_leaves : {A : Type 0} (c : Call A) (rs rest : List Reply) (a : A) → run c rs ≡ Gives a rest → length rest ≤ length rs
run_leaves (Give b) rs rest a e = let same : rs ≡ rest = cc in let long = ap length same in omega arith
run_leaves (Tell x c) rs rest a e = run_leaves c rs rest a e
run_leaves Cut rs rest a e = absurd (cc e)
run_leaves (Ask op tag k) [] rest a e = absurd (cc e)
run_leaves (Ask op tag k) (r ∷ rs) rest a e = let less = run_leaves (k r) rs rest a e in omega arith

-- ---- plans

-- a plan within a plan
pub after_bind : {A B : Type 0} (r : Reply) (before now : Bounded A) (f : ℕ → A → Call B) → IsAfter r before now → IsAfter r (λ most. bind (before most) (f most)) (λ most. bind (now most) (f most))
after_bind r before now f h most rs le = run_bind (now most) (f most) rs ∙ ap (go_on (f most)) (h most rs le) ∙ sym (run_bind (before most) (f most) (r ∷ rs))

pub same_bind : {A B : Type 0} (c d : Bounded A) (f : ℕ → A → Call B) → Same c d → Same (λ most. bind (c most) (f most)) (λ most. bind (d most) (f most))
same_bind c d f h most rs le = run_bind (c most) (f most) rs ∙ ap (go_on (f most)) (h most rs le) ∙ sym (run_bind (d most) (f most) rs)

-- what an inner plan asks the outer one asks
pub asks_bind : {A B : Type 0} (op : Op) (c : Bounded A) (f : ℕ → A → Call B) → SaysNext (AsksFor op) c → SaysNext (AsksFor op) (λ most. bind (c most) (f most))
asks_bind op c f h most = ((h most).0, run_bind (c (suc most)) (f (suc most)) [] ∙ ap (go_on (f (suc most))) (h most).1)

-- reply after reply
append_one : (qs : List Reply) (r : Reply) (rs : List Reply) → (qs ++ r ∷ []) ++ rs ≡ qs ++ (r ∷ rs)
append_one [] r rs = refl
append_one (q ∷ qs) r rs = ap (λ x. q ∷ x) (append_one qs r rs)

shorter : (qs rs : List Reply) → length rs ≤ length (qs ++ rs)
shorter [] rs = omega arith
shorter (q ∷ qs) rs = let h = shorter qs rs in omega arith

pub after_more : {A : Type 0} (qs : List Reply) (r : Reply) (first before now : Bounded A) → IsAfterAll qs first before → IsAfter r before now → IsAfterAll (qs ++ r ∷ []) first now
after_more qs r first before now h k most rs le =
    let long : length ((qs ++ r ∷ []) ++ rs) ≡ length (qs ++ (r ∷ rs)) = ap length (append_one qs r rs) in
    let less = shorter qs (r ∷ rs) in
    k most rs (omega arith) ∙ h most (r ∷ rs) (omega arith) ∙ ap (run (first most)) (sym (append_one qs r rs))

-- ---- walks

-- any bound from the number of replies is the same, but for the operation that comes when all are taken
pub turns_enough : {S A : Type 0} (body : S → Call (Tried (Round S A))) → TakesReplies body → (m n : ℕ) (s : S) (rs : List Reply) → length rs < m → length rs < n → run (turns m body s) rs ≡ run (turns n body s) rs
turns_enough body takes zero n s rs h k = absurd (omega arith)
turns_enough body takes (suc m) zero s rs h k = absurd (omega arith)
turns_enough {S} {A} body takes (suc m) (suc n) s rs h k =
    run_bind (body s) (then_on (round (turns m body))) rs
    ∙ by (run (body s) rs) refl (λ t rest less. turns_enough body takes m n t rest (omega arith) (omega arith))
    ∙ sym (run_bind (body s) (then_on (round (turns n body))) rs)
  where
    by : (x : Turn (Tried (Round S A))) → run (body s) rs ≡ x → ((t : S) (rest : List Reply) → length rest < length rs → run (turns m body t) rest ≡ run (turns n body t) rest)
        → go_on (then_on (round (turns m body))) (run (body s) rs) ≡ go_on (then_on (round (turns n body))) (run (body s) rs)
    by (Awaits op tag) e more = rw e refl
    by Breaks e more = rw e refl
    by (Gives (Got (Again t)) rest) e more = rw e (more t rest (takes s t rs rest e))
    by (Gives (Got (Ends a)) rest) e more = rw e refl
    by (Gives (Lost x) rest) e more = rw e refl
