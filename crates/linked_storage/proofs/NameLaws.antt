-- Names that don't repeat, the other way round too.
use Rattle.std.proofs.Common.{◌≡◌, ℕ, Bool, true, false, ◌||◌, List, [], ◌∷◌, ◌++◌, reverse, refl, sym, ap, subst, ◌∙◌}
use Rattle.std.specs.List.{list_any}
use Rattle.std.proofs.lemmas.List.{append_assoc, reverse-append}
use Rattle.obj_kinds.specs.Texts.{same_text}
use Rattle.obj_kinds.proofs.TextLaws.{is-same_text}
use Rattle.class_extents.specs.Extents.{repeats}
use Rattle.record_layout.specs.Schemas.{IsNoneOf, AreAllDifferent}
use Rattle.linked_storage.proofs.KindLaws.{or_first, or_second}

Names : Type 0
Names = List (List ℕ)

seen_more : (x w : List ℕ) (seen : List (List ℕ)) → list_any (same_text x) seen ≡ true → list_any (same_text x) (seen ++ w ∷ []) ≡ true
seen_more x w [] h = cc
seen_more x w (s ∷ ss) h = by (same_text x s) h (seen_more x w ss)
  where
    by : (b : Bool) → (b || list_any (same_text x) ss) ≡ true → (list_any (same_text x) ss ≡ true → list_any (same_text x) (ss ++ w ∷ []) ≡ true) → (b || list_any (same_text x) (ss ++ w ∷ [])) ≡ true
    by true k more = refl
    by false k more = more k

seen_last : (w : List ℕ) (seen : List (List ℕ)) → list_any (same_text w) (seen ++ w ∷ []) ≡ true
seen_last w [] = ap (λ b. b || false) (is-same_text w w refl)
seen_last w (s ∷ ss) = by (same_text w s) (seen_last w ss)
  where
    by : (b : Bool) → list_any (same_text w) (ss ++ w ∷ []) ≡ true → (b || list_any (same_text w) (ss ++ w ∷ [])) ≡ true
    by true more = refl
    by false more = more

none_seen : (ws seen : List (List ℕ)) (x : List ℕ) → repeats seen ws ≡ false → list_any (same_text x) seen ≡ true → IsNoneOf x ws
none_seen [] seen x h there = tt
none_seen (w ∷ ws) seen x h there = (
  λ same. let no : list_any (same_text x) seen ≡ false = ap (λ (t : List ℕ). list_any (same_text t) seen) same ∙ or_first (list_any (same_text w) seen) (repeats (seen ++ w ∷ []) ws) h in cc,
  none_seen ws (seen ++ w ∷ []) x (or_second (list_any (same_text w) seen) (repeats (seen ++ w ∷ []) ws) h) (seen_more x w seen there),
)

pub all_differ : (ws seen : List (List ℕ)) → repeats seen ws ≡ false → AreAllDifferent ws
all_differ [] seen h = tt
all_differ (w ∷ ws) seen h =
    let rest = or_second (list_any (same_text w) seen) (repeats (seen ++ w ∷ []) ws) h in
    (none_seen ws (seen ++ w ∷ []) w rest (seen_last w seen), all_differ ws (seen ++ w ∷ []) rest)

none_middle : (z x : List ℕ) (xs ys : List (List ℕ)) → (z ≡ x → ⊥) → IsNoneOf z (xs ++ ys) → IsNoneOf z (xs ++ x ∷ ys)
none_middle z x [] ys apart none = (apart, none)
none_middle z x (y ∷ xs) ys apart none = (none.0, none_middle z x xs ys apart none.1)

middle : (x : List ℕ) (xs ys : List (List ℕ)) → IsNoneOf x (xs ++ ys) → AreAllDifferent (xs ++ ys) → AreAllDifferent (xs ++ x ∷ ys)
middle x [] ys none all = (none, all)
middle x (z ∷ zs) ys none all = (none_middle z x zs ys (λ same. none.0 (sym same)) all.0, middle x zs ys none.1 all.1)

pub turned_differ : (xs ys : List (List ℕ)) → AreAllDifferent (xs ++ ys) → AreAllDifferent (reverse xs ++ ys)
turned_differ [] ys all = all
turned_differ (x ∷ xs) ys all =
    subst AreAllDifferent (sym (ap (λ l. l ++ ys) (reverse-append (x ∷ []) xs) ∙ append_assoc (reverse xs) (x ∷ []) ys)) (turned_differ xs (x ∷ ys) (middle x xs ys all.0 all.1))
