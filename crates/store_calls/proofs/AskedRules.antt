-- What is asked goes on with each reply, and nothing of it is taken back.
use Rattle.std.proofs.Common.{◌≡◌, List, [], ◌∷◌, ◌++◌, refl, ap, ◌∙◌}
use Rattle.obj_kinds.specs.declared.op.Op.{Op}
use Rattle.obj_kinds.specs.declared.op.Reply.{Reply}
use Rattle.store_calls.specs.Calls.{Call, Step, Asks, Answers, Stops, step, answered, asked_by, asked}
use Rattle.store_calls.specs.Plans.{AsksGoOn}

-- what comes behind what is asked first
behind : {A : Type 0} (s : Step A) (xs ys more : List Op) → ys ≡ xs ++ more → (rest : List Op) × (asked_by s ys ≡ asked_by s xs ++ rest)
behind (Asks op tag) xs ys more e = (more, ap (λ l. op ∷ l) e)
behind (Answers a) xs ys more e = ([], refl)
behind Stops xs ys more e = ([], refl)

pub goes_on : {A : Type 0} (c : Call A) → AsksGoOn c
goes_on c [] [] = behind (step c) [] [] [] refl
goes_on c [] (q ∷ qs) = behind (step c) [] (asked (answered c q) qs) (asked (answered c q) qs) refl
goes_on c (r ∷ rs) qs = let more = goes_on (answered c r) rs qs in behind (step c) (asked (answered c r) rs) (asked (answered c r) (rs ++ qs)) more.0 more.1
