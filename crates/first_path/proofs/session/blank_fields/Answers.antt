use Rattle.std.proofs.Common.{◌≡◌, ℕ, suc, ◌+◌, ◌-◌, ◌<◌, List, [], ◌∷◌, ◌++◌, replicate, sym, ap, ◌∙◌, arith, append_assoc}
use Rattle.first_path.proofs.session.blank_fields.Goals as goal

one_more : (fields more : List (List ℕ)) (n k : ℕ) → k < n → more ≡ fields ++ [] ∷ [] → more ++ replicate (n - (k + 1)) [] ≡ fields ++ replicate (n - k) []
one_more fields more n k less pushed =
    let e : n - k ≡ suc (n - (k + 1)) = omega arith in
    ap (λ (f : List (List ℕ)). f ++ replicate (n - (k + 1)) []) pushed ∙ append_assoc fields ([] ∷ []) (replicate (n - (k + 1)) []) ∙ ap (λ m. fields ++ replicate m []) (sym e)

pub loop-preserved : goal.loop-preserved
loop-preserved c = one_more c.loop.fields c.push.new.self c.args.properties c.loop.counter c.loop-test.true (grind arith) ∙ c.loop.invariant
