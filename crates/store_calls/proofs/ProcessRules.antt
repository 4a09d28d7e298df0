-- A plan within a process: the promise of the plan, taken at the process's units, says what the process asks.
use Rattle.std.proofs.Common.{◌≡◌, ℕ, zero, suc, ◌<◌, ◌≤◌, ◌-◌, List, [], ◌++◌, length, append-nil, sym, ap, ◌∙◌, arith}
use Rattle.std.proofs.lemmas.List.{length-append}
use Rattle.obj_kinds.specs.declared.op.Op.{Op}
use Rattle.obj_kinds.specs.declared.op.Reply.{Reply}
use Rattle.store_calls.specs.Calls.{Call, Give, Ask, Tell, Cut, Tag, bind, Awaits, Gives, run, go_on, within}
use Rattle.store_calls.specs.Plans.{Bounded, IsAfterAll, AsksFor, Tells, SaysNext}
use Rattle.store_calls.proofs.TurnRules.{run_bind}
use Rattle.store_calls.proofs.UnitRules.{run_within}

-- what has answered needs no reply
run_gives : {A : Type 0} (c : Call A) (a : A) → run c [] ≡ Gives a [] → (rs : List Reply) → run c rs ≡ Gives a rs
run_gives (Give b) a e rs = cc
run_gives (Tell x c) a e rs = run_gives c a e rs
run_gives Cut a e rs = absurd (cc e)
run_gives (Ask op tag k) a e rs = absurd (cc e)

-- what the plan says next the process asks, as long as it has a unit for it
pub asks_within : {A B : Type 0} (qs : List Reply) (c now : Bounded A) (f : A → Call B) (op : Op) (u n : ℕ)
    → IsAfterAll qs c now → SaysNext (AsksFor op) now → length qs < u → u ≤ n
    → (tag : Tag) × (run (within u (bind (c n) f)) qs ≡ Awaits op tag)
asks_within qs c now f op u zero after says lt le = absurd (omega arith)
asks_within qs c now f op u (suc m) after says lt le =
    let said = says m in
    let none : length (qs ++ []) ≤ suc m = let l = length-append qs [] in omega arith in
    let same : run (c (suc m)) qs ≡ Awaits op said.0 = ap (run (c (suc m))) (sym (append-nil qs)) ∙ sym (after (suc m) [] none) ∙ said.1 in
    (said.0, run_within u (bind (c (suc m)) f) qs lt ∙ run_bind (c (suc m)) f qs ∙ ap (go_on f) same)

-- and where the plan has answered, the process goes on with the answer and the units that are left
pub goes_on_within : {A B : Type 0} (qs : List Reply) (c now : Bounded A) (f : A → Call B) (a : A) (u n : ℕ)
    → IsAfterAll qs c now → SaysNext (Tells a) now → u ≤ n
    → (rs : List Reply) → length (qs ++ rs) < u → run (within u (bind (c n) f)) (qs ++ rs) ≡ run (within (u - length qs) (f a)) rs
goes_on_within qs c now f a u zero after says le rs lt = absurd (omega arith)
goes_on_within qs c now f a u (suc m) after says le rs lt =
    let l = length-append qs rs in
    let same : run (c (suc m)) (qs ++ rs) ≡ Gives a rs = sym (after (suc m) rs (omega arith)) ∙ run_gives (now (suc m)) a (says m) rs in
    run_within u (bind (c (suc m)) f) (qs ++ rs) lt ∙ run_bind (c (suc m)) f (qs ++ rs) ∙ ap (go_on f) same
    ∙ sym (run_within (u - length qs) (f a) rs (omega arith))
