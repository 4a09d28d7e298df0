-- One step along the first superclasses.
use Rattle.std.proofs.Common.{◌≡◌, ℕ, zero, suc, ◌-◌, ◌<◌, List, ◌++◌, filter_map, get_or, Option, Some, None, option_to_list, refl, ap, ◌∙◌, arith}
use Rattle.schema_kinds.specs.Hierarchy.{chain}
use Rattle.class_facts.proofs.SpotLists.{push-option}

pub chain-on : {A : Type 0} (g : ℕ → Option A) (out : List A) (m : ℕ) (firsts : List (Option ℕ)) (i j : ℕ) → 0 < m → get_or firsts i None ≡ Some j
    → (out ++ option_to_list (g i)) ++ filter_map g (chain (m - 1) firsts j) ≡ out ++ filter_map g (chain m firsts i)
chain-on g out zero firsts i j small found = absurd (omega arith)
chain-on g out (suc m) firsts i j small found =
    let e : suc m - 1 ≡ m = omega arith in
    ap (λ k. (out ++ option_to_list (g i)) ++ filter_map g (chain k firsts j)) e
    ∙ push-option out (g i) (filter_map g (chain m firsts j)) ∙ rw found refl
