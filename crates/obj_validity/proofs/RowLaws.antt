-- The lists of a row, from the class up to its root.
use Rattle.std.proofs.Common.{◌≡◌, ℕ, zero, suc, ◌-◌, ◌&&◌, List, [], ◌∷◌, map, get_or, slice_get, Option, None, Some, refl, ap, ◌∙◌, arith}
use Rattle.schema_kinds.specs.declared.class.Class.{Class}
use Rattle.schema_kinds.specs.Hierarchy.{first_place, firsts_of, chain}
use Rattle.schema_kinds.specs.Classes.{header_of, headers_of, class_names}
use Rattle.oref_table.specs.declared.obj.Obj.{Obj}
use Rattle.oref_table.specs.Memory.{Memory}
use Rattle.obj_validity.specs.Faults.{lists_fit, list_fits, root_fits}

pub fit_alone : (classes : List Class) (m : Memory) (o : Obj) (firsts : List (Option ℕ)) (n i : ℕ) → get_or firsts i None ≡ None
    → lists_fit classes m o (chain n firsts i) ≡ root_fits classes m o i
fit_alone classes m o firsts zero i h = refl
fit_alone classes m o firsts (suc n) i h = rw h refl

pub fit_last : (classes : List Class) (m : Memory) (o : Obj) (firsts : List (Option ℕ)) (i : ℕ)
    → lists_fit classes m o (chain 0 firsts i) ≡ root_fits classes m o i
fit_last classes m o firsts i = refl

over : (classes : List Class) (m : Memory) (o : Obj) (firsts : List (Option ℕ)) (n i j : ℕ)
    → lists_fit classes m o (i ∷ chain n firsts j) ≡ (list_fits classes m o j i && lists_fit classes m o (chain n firsts j))
over classes m o firsts zero i j = refl
over classes m o firsts (suc n) i j = refl

pub fit_under : (classes : List Class) (m : Memory) (o : Obj) (firsts : List (Option ℕ)) (n i j : ℕ) → (n ≡ 0 → ⊥) → get_or firsts i None ≡ Some j
    → lists_fit classes m o (chain n firsts i) ≡ (list_fits classes m o j i && lists_fit classes m o (chain (n - 1) firsts j))
fit_under classes m o firsts zero i j h e = absurd (h refl)
fit_under classes m o firsts (suc n) i j h e =
    rw e (over classes m o firsts n i j ∙ ap (λ k. list_fits classes m o j i && lists_fit classes m o (chain k firsts j)) (let less : n ≡ suc n - 1 = omega arith in less))
