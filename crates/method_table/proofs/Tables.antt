-- Tables of names, the loops that fill them, and rounds that change nothing.
use Rattle.std.proofs.Common.{◌≡◌, ℕ, zero, suc, ◌+◌, ◌-◌, ◌≤◌, ◌<◌, Bool, true, false, cond, List, [], ◌∷◌, ◌++◌, take, length, fold, slice_get, Option, Some, None, is_some, option_to_list, refl, sym, ap, ◌∙◌, arith}
use Rattle.indexmap.specs.IndexMap.{insert_entry}
use Rattle.obj_kinds.specs.Texts.{same_text}
use Rattle.schema_kinds.specs.declared.class.Class.{Class}
use Rattle.method_table.specs.declared.table.MethodPlace.{MethodPlace}
use Rattle.method_table.specs.Places.{Names, place_in, put_last, round, rounds}

-- a name that isn't there goes last
goes_last : (names : Names) (name : List ℕ) (x : MethodPlace) → None ≡ place_in name names → insert_entry same_text names name x ≡ names ++ (name, x) ∷ []
goes_last [] name x h = refl
goes_last (e ∷ es) name x h = by (same_text name e.0) refl h (goes_last es name x)
  where
    by : (b : Bool) → same_text name e.0 ≡ b → None ≡ cond b (Some e.1) (place_in name es) → (None ≡ place_in name es → insert_entry same_text es name x ≡ es ++ (name, x) ∷ [])
        → insert_entry same_text (e ∷ es) name x ≡ (e ∷ es) ++ (name, x) ∷ []
    by true at h rest = cc
    by false at h rest = ap (λ b. cond b ((e.0, x) ∷ es) (e ∷ insert_entry same_text es name x)) at ∙ ap (λ l. e ∷ l) (rest h)

pub put_new : (names : Names) (name : List ℕ) (x : MethodPlace) → None ≡ place_in name names → insert_entry same_text names name x ≡ put_last names (name, x)
put_new names name x h = goes_last names name x h ∙ ap (λ o. cond (is_some o) names (names ++ (name, x) ∷ [])) h

-- one more turn of a loop over a list
fold_more : {A B : Type 0} (f : B → A → B) (b : B) (xs : List A) (i : ℕ) → fold f (fold f b (take i xs)) (option_to_list (slice_get xs i)) ≡ fold f b (take (suc i) xs)
fold_more f b [] zero = refl
fold_more f b [] (suc i) = refl
fold_more f b (y ∷ xs) zero = refl
fold_more f b (y ∷ xs) (suc i) = fold_more f (f b y) xs i

pub fold_turn : {A B : Type 0} (f : B → A → B) (b : B) (xs : List A) (i : ℕ) → fold f (fold f b (take i xs)) (option_to_list (slice_get xs i)) ≡ fold f b (take (i + 1) xs)
fold_turn f b xs i = let e : suc i ≡ i + 1 = omega arith in fold_more f b xs i ∙ ap (λ n. fold f b (take n xs)) e

take_more : {A : Type 0} (xs : List A) (i : ℕ) → take i xs ++ option_to_list (slice_get xs i) ≡ take (suc i) xs
take_more [] zero = refl
take_more [] (suc i) = refl
take_more (x ∷ xs) zero = refl
take_more (x ∷ xs) (suc i) = ap (λ l. x ∷ l) (take_more xs i)

-- two lists that agree up to a place, and at it
pub same_turn : {A : Type 0} (xs ys : List A) (i : ℕ) → take i xs ≡ take i ys → slice_get xs i ≡ slice_get ys i → take (i + 1) xs ≡ take (i + 1) ys
same_turn xs ys i h at =
    let e : i + 1 ≡ suc i = omega arith in
    ap (λ n. take n xs) e ∙ sym (take_more xs i) ∙ (λ j. h j ++ option_to_list (at j)) ∙ take_more ys i ∙ sym (ap (λ n. take n ys) e)

take_all : {A : Type 0} (xs : List A) → take (length xs) xs ≡ xs
take_all [] = refl
take_all (x ∷ xs) = ap (λ l. x ∷ l) (take_all xs)

pub same_whole : {A : Type 0} (xs ys : List A) (i : ℕ) → take i xs ≡ take i ys → i ≡ length xs → length xs ≡ length ys → xs ≡ ys
same_whole xs ys i h all as_long =
    sym (take_all xs) ∙ ap (λ n. take n xs) (sym all) ∙ h ∙ ap (λ n. take n ys) (all ∙ as_long) ∙ take_all ys

-- after a round that changes nothing no round changes anything
stays_by : (classes : List Class) (n : ℕ) → rounds classes (suc n) ≡ rounds classes n → (d m : ℕ) → m ≡ d + n → rounds classes m ≡ rounds classes n
stays_by classes n h zero m e = let is : m ≡ n = omega (arith, e) in ap (rounds classes) is
stays_by classes n h (suc d) zero e = absurd (omega (arith, e))
stays_by classes n h (suc d) (suc m) e = ap (round classes) (stays_by classes n h d m (omega (arith, e))) ∙ h

pub settled : (classes : List Class) (n : ℕ) (next tables : List Names) → tables ≡ rounds classes n → next ≡ round classes tables → next ≡ tables → n ≤ length classes → next ≡ rounds classes (suc (length classes))
settled classes n next tables made is same le =
    let h : rounds classes (suc n) ≡ rounds classes n = ap (round classes) (sym made) ∙ sym is ∙ same ∙ made in
    same ∙ made ∙ sym (stays_by classes n h (suc (length classes) - n) (suc (length classes)) (omega (arith, le)))
