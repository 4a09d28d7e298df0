-- The classes from a root down to a class, and how many of their properties stand in rows.
use Rattle.std.proofs.Common.{◌≡◌, ℕ, zero, suc, ◌-◌, List, [], ◌∷◌, ◌++◌, map, reverse, filter, get_or, slice_get, Option, None, Some, refl, sym, ap, ◌∙◌, arith}
use Rattle.std.proofs.lemmas.List.{reverse-append, append_assoc}
use Rattle.std.proofs.lemmas.List.Elements.{filter_map-append}
use Rattle.std.specs.List.{filter_map}
use Rattle.std.specs.Prelude.{Result, Ok, Err, OnOk}
use Rattle.schema_kinds.specs.declared.class.Class.{Class}
use Rattle.schema_kinds.specs.Hierarchy.{first_place, firsts_of, chain, chain_on}
use Rattle.schema_kinds.specs.Classes.{header_of, headers_of, class_names}

abbrev pub first_at : List (List ℕ) → Option Class → Option ℕ
first_at names None = None
first_at names (Some c) = first_place names c.supers

first_in : (names : List (List ℕ)) (cs : List Class) (i : ℕ) → get_or (map (λ h. first_place names h.supers) (map header_of cs)) i None ≡ first_at names (slice_get cs i)
first_in names [] i = refl
first_in names (c ∷ cs) zero = refl
first_in names (c ∷ cs) (suc i) = first_in names cs i

pub first_above : (cs : List Class) (i : ℕ) → get_or (firsts_of (headers_of cs)) i None ≡ first_at (class_names cs) (slice_get cs i)
first_above cs i = first_in (class_names cs) cs i

pub line_alone : (firsts : List (Option ℕ)) (n i : ℕ) → get_or firsts i None ≡ None → reverse (chain n firsts i) ≡ i ∷ []
line_alone firsts zero i h = refl
line_alone firsts (suc n) i h = rw h refl

pub line_under : (cs : List Class) (firsts : List (Option ℕ)) (n i j : ℕ) → (n ≡ 0 → ⊥) → get_or firsts i None ≡ Some j
    → filter_map (slice_get cs) (reverse (chain n firsts i)) ≡ filter_map (slice_get cs) (reverse (chain (n - 1) firsts j)) ++ filter_map (slice_get cs) (i ∷ [])
line_under cs firsts zero i j not_none h = absurd (not_none refl)
line_under cs firsts (suc n) i j not_none h =
    let less : n ≡ suc n - 1 = omega arith in
    let chained : chain (suc n) firsts i ≡ i ∷ chain n firsts j = ap (λ o. i ∷ chain_on (λ k. chain n firsts k) o) h in
    ap (λ (l : List ℕ). filter_map (slice_get cs) (reverse l)) chained
    ∙ ap (filter_map (slice_get cs)) (reverse-append (i ∷ []) (chain n firsts j))
    ∙ filter_map-append (slice_get cs) (reverse (chain n firsts j)) (i ∷ [])
    ∙ ap (λ m. filter_map (slice_get cs) (reverse (chain m firsts j)) ++ filter_map (slice_get cs) (i ∷ [])) less

-- what is so after an `Ok`, from something else that is
pub on_ok : {A E P Q : Type 0} (r : Result A E) → OnOk r P → (P → Q) → OnOk r Q
on_ok (Ok a) p f = f p
on_ok (Err e) p f = p

pub joined : {A : Type 0} {new mid whole : List A} (old a b : List A) → mid ≡ old ++ a → new ≡ mid ++ b → whole ≡ a ++ b → new ≡ old ++ whole
joined old a b first second all = second ∙ ap (λ l. l ++ b) first ∙ append_assoc old a b ∙ ap (λ l. old ++ l) (sym all)
