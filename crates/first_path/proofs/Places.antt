-- Places in lists: sets, appends, and the first item that passes.
use Rattle.std.proofs.Common.{◌≡◌, ◌≢◌, ℕ, zero, suc, ◌+◌, ◌<◌, ◌≤◌, ◌==◌, Bool, true, false, cond, List, [], ◌∷◌, ◌++◌, length, map, get_or, set, Option, Some, None, refl, sym, ap, subst, ◌∙◌, arith, length-append}
use Rattle.std.specs.Prelude.{slice_get, slice_set}
use Rattle.std.specs.Option.{option_map, is_some}
use Rattle.std.proofs.lemmas.List.{get_or-set_same, get_or-set_other, length-set, get_or_append_left}
use Rattle.std.proofs.Math.Seq.{get_or-append_seam}
use Rattle.std.proofs.lemmas.Option.{slice_get-get_or, get_or_from_slice_get}
use Rattle.std.proofs.lemmas.Bool.Decides.{Decides-eqb}
use Rattle.first_path.specs.Meaning.{place_of}
use Rattle.first_path.specs.World.{place_among}

module _ {A : Type 0} where
  pub slice_get-set_same : (xs : List A) (i : ℕ) (v : A) → i < length xs → slice_get (slice_set xs i v) i ≡ Some v
  slice_get-set_same xs i v h = slice_get-get_or (set xs i v) i v (omega (arith, length-set xs i v)) ∙ ap Some (get_or-set_same xs i v v h)

  pub slice_get-set_other : (xs : List A) (i j : ℕ) (v x : A) → j ≢ i → j < length xs → slice_get xs j ≡ Some x → slice_get (slice_set xs i v) j ≡ Some x
  slice_get-set_other xs i j v x apart h is = slice_get-get_or (set xs i v) j v (omega (arith, length-set xs i v)) ∙ ap Some (get_or-set_other xs i j v v apart ∙ get_or_from_slice_get xs j x v is)

  pub slice_get-append_old : (xs : List A) (j : ℕ) (v x : A) → j < length xs → slice_get xs j ≡ Some x → slice_get (xs ++ v ∷ []) j ≡ Some x
  slice_get-append_old xs j v x h is = slice_get-get_or (xs ++ v ∷ []) j v (omega (arith, length-append xs (v ∷ []))) ∙ ap Some (get_or_append_left xs (v ∷ []) v j h ∙ get_or_from_slice_get xs j x v is)

  pub slice_get-append_new : (xs : List A) (v : A) → slice_get (xs ++ v ∷ []) (length xs) ≡ Some v
  slice_get-append_new xs v = slice_get-get_or (xs ++ v ∷ []) (length xs) v (omega (arith, length-append xs (v ∷ []))) ∙ ap Some (get_or-append_seam xs v [] v)

pub same_number : (a b : ℕ) → (a == b) ≡ true → a ≡ b
same_number a b h = (Decides-eqb a b).0 h

pub number_itself : (a : ℕ) → (a == a) ≡ true
number_itself a = (Decides-eqb a a).1 refl

pub other_number : (a b : ℕ) → a ≢ b → (a == b) ≡ false
other_number a b apart = by (a == b) refl
  where
    by : (t : Bool) → (a == b) ≡ t → t ≡ false
    by true e = absurd (apart (same_number a b e))
    by false e = refl

-- PLACES AMONG NUMBERS

-- no number stands twice
abbrev pub IsDistinct : List ℕ → Type 0
IsDistinct [] = Unit {0}
IsDistinct (x ∷ xs) = (place_among xs x ≡ None) × IsDistinct xs

abbrev pub AllBelow : ℕ → List ℕ → Type 0
AllBelow n [] = Unit {0}
AllBelow n (x ∷ xs) = (x < n) × AllBelow n xs

pub all_below-more : (n m : ℕ) (xs : List ℕ) → n ≤ m → AllBelow n xs → AllBelow m xs
all_below-more n m [] le h = tt
all_below-more n m (x ∷ xs) le h = (let e = h.0 in omega arith, all_below-more n m xs le h.1)

pub all_below-append : (n : ℕ) (xs : List ℕ) (x : ℕ) → AllBelow n xs → x < n → AllBelow n (xs ++ x ∷ [])
all_below-append n [] x h less = (less, tt)
all_below-append n (y ∷ xs) x h less = (h.0, all_below-append n xs x h.1 less)

pub place-above : (n : ℕ) (xs : List ℕ) (x : ℕ) → AllBelow n xs → n ≤ x → place_among xs x ≡ None
place-above n [] x h le = refl
place-above n (y ∷ xs) x h le =
    let apart : y ≢ x = let e = h.0 in omega arith in
    rw (other_number y x apart, place-above n xs x h.1 le) refl

none_not_some : (b : Bool) (o : Option ℕ) → cond b (Some 0) (option_map (λ n. suc n) o) ≡ None → (b ≡ false) × (o ≡ None)
none_not_some true o h = cc
none_not_some false None h = (refl, refl)
none_not_some false (Some n) h = cc

-- behind numbers without it stands the new one
pub place-append_new : (xs : List ℕ) (x : ℕ) → place_among xs x ≡ None → place_among (xs ++ x ∷ []) x ≡ Some (length xs)
place-append_new [] x h = rw (number_itself x) refl
place-append_new (y ∷ xs) x h =
    let parts = none_not_some (y == x) (place_among xs x) h in
    rw (parts.0, place-append_new xs x parts.1) refl

pub place-append_other : (xs : List ℕ) (x z : ℕ) → x ≢ z → place_among (xs ++ x ∷ []) z ≡ place_among xs z
place-append_other [] x z apart = rw (other_number x z apart) refl
place-append_other (y ∷ xs) x z apart = ap (λ o. cond (y == z) (Some 0) (option_map (λ n. suc n) o)) (place-append_other xs x z apart)

pub distinct-append : (xs : List ℕ) (x : ℕ) → IsDistinct xs → place_among xs x ≡ None → IsDistinct (xs ++ x ∷ [])
distinct-append [] x h none = (refl, tt)
distinct-append (y ∷ xs) x h none =
    let parts = none_not_some (y == x) (place_among xs x) none in
    let apart : x ≢ y = λ same. let e = number_itself y in let f : (y == x) ≡ true = ap (λ n. y == n) same ∙ e in cc in
    (place-append_other xs x y apart ∙ h.0, distinct-append xs x h.1 parts.1)

pub place-within : (xs : List ℕ) (x place : ℕ) → place_among xs x ≡ Some place → place < length xs
place-within [] x place h = cc
place-within (y ∷ xs) x place h = by (λ n e. place-within xs x n e) (y == x) (place_among xs x) refl h
  where
    by : ((n : ℕ) → place_among xs x ≡ Some n → n < length xs) → (b : Bool) (o : Option ℕ) → place_among xs x ≡ o → cond b (Some 0) (option_map (λ n. suc n) o) ≡ Some place → place < length (y ∷ xs)
    by again true o e h = let zero_is : 0 ≡ place = cc in omega arith
    by again false None e h = cc
    by again false (Some n) e h = let suc_is : suc n ≡ place = cc in let less = again n e in omega arith

-- VALUES THAT ONE NUMBER CHANGES

module _ {A : Type 0} (f : ℕ → A) where
  pub map-absent : (xs : List ℕ) (x : ℕ) (v : A) → place_among xs x ≡ None → map (λ i. cond (x == i) v (f i)) xs ≡ map f xs
  map-absent [] x v h = refl
  map-absent (y ∷ xs) x v h =
      let parts = none_not_some (y == x) (place_among xs x) h in
      let apart : x ≢ y = λ same. let e : (y == x) ≡ true = ap (λ n. y == n) same ∙ number_itself y in cc in
      rw (other_number x y apart) (ap (λ ys. f y ∷ ys) (map-absent xs x v parts.1))

  pub map-present : (xs : List ℕ) (x place : ℕ) (v : A) → IsDistinct xs → place_among xs x ≡ Some place → map (λ i. cond (x == i) v (f i)) xs ≡ slice_set (map f xs) place v
  map-present [] x place v distinct h = cc
  map-present (y ∷ xs) x place v distinct h = by (λ n e. map-present xs x n v distinct.1 e) (y == x) refl (place_among xs x) refl h
    where
      by : ((n : ℕ) → place_among xs x ≡ Some n → map (λ i. cond (x == i) v (f i)) xs ≡ slice_set (map f xs) n v) → (b : Bool) → (y == x) ≡ b → (o : Option ℕ) → place_among xs x ≡ o → cond b (Some 0) (option_map (λ n. suc n) o) ≡ Some place
          → map (λ i. cond (x == i) v (f i)) (y ∷ xs) ≡ slice_set (map f (y ∷ xs)) place v
      by again true e o is h =
          let same : x ≡ y = sym (same_number y x e) in
          let first : 0 ≡ place = cc in
          let absent : place_among xs x ≡ None = subst (λ n. place_among xs n ≡ None) (sym same) distinct.0 in
          subst (λ p. map (λ i. cond (x == i) v (f i)) (y ∷ xs) ≡ slice_set (map f (y ∷ xs)) p v) first
          (rw ((Decides-eqb x y).1 same) (ap (λ ys. v ∷ ys) (map-absent xs x v absent)))
      by again false e None is h = cc
      by again false e (Some n) is h =
          let next : suc n ≡ place = cc in
          let apart : x ≢ y = λ same. let t : (y == x) ≡ true = ap (λ m. y == m) same ∙ number_itself y in cc in
          subst (λ p. map (λ i. cond (x == i) v (f i)) (y ∷ xs) ≡ slice_set (map f (y ∷ xs)) p v) next
          (rw (other_number x y apart) (ap (λ ys. f y ∷ ys) (again n is)))
