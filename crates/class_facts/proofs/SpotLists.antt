-- Tables of spots, and the loops that fill them.
use Rattle.std.proofs.Common.{drop, filter_map, get_or, Option, ◌≡◌, ◌≢◌, ℕ, zero, suc, ◌+◌, ◌<◌, Bool, true, false, cond, not, ◌||◌, List, [], ◌∷◌, ◌++◌, take, fold, length, slice_get, slice_set, Some, None, is_some, option_to_list, append-nil, refl, sym, ap, ◌∙◌, arith}
use Rattle.std.specs.List.{cons_option}
use Rattle.std.proofs.lemmas.List.{append_assoc, at_drop_more}
use Rattle.indexmap.specs.IndexMap.{insert_entry}
use Rattle.schema_kinds.specs.Hierarchy.{same_text}
use Rattle.obj_kinds.proofs.TextLaws.{same_text-is}
use Rattle.class_facts.specs.declared.spots.Spot.{Spot}
use Rattle.class_facts.specs.Trees.{spots_in}
use Rattle.class_facts.specs.Spots.{spot_of, add_spot, add_spots, put_spot, has_spot_of, fresh_spots, gather_spots, HaveSameNames}

-- a name that isn't there goes last
goes_last : (spots : List (List ℕ × Spot)) (name : List ℕ) (spot : Spot) → None ≡ spot_of name spots → insert_entry same_text spots name spot ≡ spots ++ (name, spot) ∷ []
goes_last [] name spot h = refl
goes_last (e ∷ es) name spot h = by (same_text name e.0) refl h (goes_last es name spot)
  where
    by : (b : Bool) → same_text name e.0 ≡ b → None ≡ cond b (Some e.1) (spot_of name es) → (None ≡ spot_of name es → insert_entry same_text es name spot ≡ es ++ (name, spot) ∷ [])
        → insert_entry same_text (e ∷ es) name spot ≡ (e ∷ es) ++ (name, spot) ∷ []
    by true at h rest = cc
    by false at h rest = ap (λ b. cond b ((e.0, spot) ∷ es) (e ∷ insert_entry same_text es name spot)) at ∙ ap (λ l. e ∷ l) (rest h)

pub put-new : (spots : List (List ℕ × Spot)) (name : List ℕ) (spot : Spot) → None ≡ spot_of name spots → put_spot spots (name, spot) ≡ add_spot spots (name, spot)
put-new spots name spot h = goes_last spots name spot h ∙ ap (λ o. cond (is_some o) spots (spots ++ (name, spot) ∷ [])) h

-- one more turn of a loop over a list
fold-more : {A B : Type 0} (f : B → A → B) (b : B) (xs : List A) (i : ℕ) → fold f (fold f b (take i xs)) (option_to_list (slice_get xs i)) ≡ fold f b (take (suc i) xs)
fold-more f b [] zero = refl
fold-more f b [] (suc i) = refl
fold-more f b (y ∷ xs) zero = refl
fold-more f b (y ∷ xs) (suc i) = fold-more f (f b y) xs i

pub fold-turn : {A B : Type 0} (f : B → A → B) (b : B) (xs : List A) (i : ℕ) → fold f (fold f b (take i xs)) (option_to_list (slice_get xs i)) ≡ fold f b (take (i + 1) xs)
fold-turn f b xs i = let e : suc i ≡ i + 1 = omega arith in fold-more f b xs i ∙ ap (λ n. fold f b (take n xs)) e

-- one more turn of a loop that takes what is there of each
fold-option : {A B : Type 0} (f : B → A → B) (b : B) (o : Option A) (ys : List A) → fold f b (cons_option o ys) ≡ fold f (fold f b (option_to_list o)) ys
fold-option f b None ys = refl
fold-option f b (Some x) ys = refl

pub fold-found : {A B X : Type 0} (f : B → A → B) (g : X → Option A) (b : B) (xs : List X) (i : ℕ) (d : X) → i < length xs
    → fold f (fold f b (option_to_list (g (get_or xs i d)))) (filter_map g (drop (i + 1) xs)) ≡ fold f b (filter_map g (drop i xs))
fold-found f g b xs i d small =
    sym (fold-option f b (g (get_or xs i d)) (filter_map g (drop (i + 1) xs))) ∙ sym (at_drop_more (λ l. fold f b (filter_map g l)) xs i d small)

pub push-option : {A : Type 0} (xs : List A) (o : Option A) (ys : List A) → (xs ++ option_to_list o) ++ ys ≡ xs ++ cons_option o ys
push-option xs None ys = ap (λ l. l ++ ys) (append-nil xs)
push-option xs (Some x) ys = append_assoc xs (x ∷ []) ys

pub push-found : {A X : Type 0} (g : X → Option A) (out : List A) (xs : List X) (i : ℕ) (d : X) → i < length xs
    → (out ++ option_to_list (g (get_or xs i d))) ++ filter_map g (drop (i + 1) xs) ≡ out ++ filter_map g (drop i xs)
push-found g out xs i d small =
    push-option out (g (get_or xs i d)) (filter_map g (drop (i + 1) xs)) ∙ sym (at_drop_more (λ l. out ++ filter_map g l) xs i d small)

take-more : {A : Type 0} (xs : List A) (i : ℕ) → take i xs ++ option_to_list (slice_get xs i) ≡ take (suc i) xs
take-more [] zero = refl
take-more [] (suc i) = refl
take-more (y ∷ xs) zero = refl
take-more (y ∷ xs) (suc i) = ap (λ l. y ∷ l) (take-more xs i)

pub take-turn : {A : Type 0} (xs : List A) (i : ℕ) → take i xs ++ option_to_list (slice_get xs i) ≡ take (i + 1) xs
take-turn xs i = let e : suc i ≡ i + 1 = omega arith in take-more xs i ∙ ap (λ n. take n xs) e

pub get-set : {A : Type 0} (xs : List A) (i : ℕ) (v : A) → i < length xs → slice_get (slice_set xs i v) i ≡ Some v
get-set [] i v h = absurd (omega arith)
get-set (x ∷ xs) zero v h = refl
get-set (x ∷ xs) (suc i) v h = get-set xs i v (omega arith)

pub get-set_other : {A : Type 0} (xs : List A) (i j : ℕ) (v : A) → i ≢ j → slice_get (slice_set xs i v) j ≡ slice_get xs j
get-set_other [] i j v h = refl
get-set_other (x ∷ xs) zero zero v h = absurd (h refl)
get-set_other (x ∷ xs) zero (suc j) v h = refl
get-set_other (x ∷ xs) (suc i) zero v h = refl
get-set_other (x ∷ xs) (suc i) (suc j) v h = get-set_other xs i j v (λ e. h (ap suc e))

pub length-set : {A : Type 0} (xs : List A) (i : ℕ) (v : A) → length (slice_set xs i v) ≡ length xs
length-set [] i v = refl
length-set (x ∷ xs) zero v = refl
length-set (x ∷ xs) (suc i) v = ap suc (length-set xs i v)

-- past the end there is no spot
no-spot-at : (es : List (List ℕ × Spot)) (i : ℕ) → None ≡ slice_get es i → None ≡ slice_get (spots_in es) i
no-spot-at [] i h = refl
no-spot-at (e ∷ es) zero h = cc
no-spot-at (e ∷ es) (suc i) h = no-spot-at es i h

pub no-spot : (es : List (List ℕ × Spot)) (i : ℕ) (xs : List Spot) → None ≡ slice_get es i → xs ≡ xs ++ option_to_list (slice_get (spots_in es) i)
no-spot es i xs h = sym (append-nil xs) ∙ ap (λ o. xs ++ option_to_list o) (no-spot-at es i h)

-- the names in a table and in a list beside it
has-append : (n : List ℕ) (xs ys : List (List ℕ × Spot)) → has_spot_of n (xs ++ ys) ≡ has_spot_of n xs || has_spot_of n ys
has-append n [] ys = refl
has-append n (x ∷ xs) ys = by (same_text n x.0) (has-append n xs ys)
  where
    by : (b : Bool) → has_spot_of n (xs ++ ys) ≡ has_spot_of n xs || has_spot_of n ys
        → is_some (cond b (Some x.1) (spot_of n (xs ++ ys))) ≡ is_some (cond b (Some x.1) (spot_of n xs)) || has_spot_of n ys
    by true rest = refl
    by false rest = rest

or-false : (a : Bool) → a ≡ a || false
or-false true = refl
or-false false = refl

or-swap : (a b c : Bool) → (a || b) || c ≡ a || (b || c)
or-swap true b c = refl
or-swap false b c = refl

has-add : (n : List ℕ) (spots : List (List ℕ × Spot)) (e : List ℕ × Spot) → has_spot_of n (add_spot spots e) ≡ has_spot_of n spots || has_spot_of n (e ∷ [])
has-add n spots e = by (has_spot_of e.0 spots) refl
  where
    there : has_spot_of e.0 spots ≡ true → (b : Bool) → same_text n e.0 ≡ b → has_spot_of n spots ≡ has_spot_of n spots || is_some (cond b (Some e.1) None)
    there is true at = let same = same_text-is n e.0 at in let h : has_spot_of n spots ≡ true = ap (λ m. has_spot_of m spots) same ∙ is in rw h refl
    there is false at = or-false (has_spot_of n spots)

    by : (b : Bool) → has_spot_of e.0 spots ≡ b → has_spot_of n (cond b spots (spots ++ e ∷ [])) ≡ has_spot_of n spots || has_spot_of n (e ∷ [])
    by true is = there is (same_text n e.0) refl
    by false is = has-append n spots (e ∷ [])

has-adds : (n : List ℕ) (spots more : List (List ℕ × Spot)) → has_spot_of n (add_spots spots more) ≡ has_spot_of n spots || has_spot_of n more
has-adds n spots [] = or-false (has_spot_of n spots)
has-adds n spots (e ∷ es) =
    has-adds n (add_spot spots e) es ∙ ap (λ b. b || has_spot_of n es) (has-add n spots e)
    ∙ or-swap (has_spot_of n spots) (has_spot_of n (e ∷ [])) (has_spot_of n es)
    ∙ ap (λ b. has_spot_of n spots || b) (sym (has-append n (e ∷ []) es))

has-fresh : (n : List ℕ) (spots more : List (List ℕ × Spot)) → has_spot_of n spots ≡ false → has_spot_of n (fresh_spots spots more) ≡ has_spot_of n more
has-fresh n spots [] off = refl
has-fresh n spots (e ∷ es) off = by (has-fresh n spots es off) (has_spot_of e.0 spots) refl (same_text n e.0) refl
  where
    by : has_spot_of n (fresh_spots spots es) ≡ has_spot_of n es → (b : Bool) → has_spot_of e.0 spots ≡ b → (t : Bool) → same_text n e.0 ≡ t
        → has_spot_of n (cond (not b) (e ∷ fresh_spots spots es) (fresh_spots spots es)) ≡ is_some (cond t (Some e.1) (spot_of n es))
    by rest true is true at = let same = same_text-is n e.0 at in let h : has_spot_of n spots ≡ true = ap (λ m. has_spot_of m spots) same ∙ is in cc
    by rest true is false at = rest
    by rest false is true at = ap (λ t. is_some (cond t (Some e.1) (spot_of n (fresh_spots spots es)))) at
    by rest false is false at = ap (λ t. is_some (cond t (Some e.1) (spot_of n (fresh_spots spots es)))) at ∙ rest

pub fresh-same : (spots others more : List (List ℕ × Spot)) → HaveSameNames spots others → fresh_spots spots more ≡ fresh_spots others more
fresh-same spots others [] same = refl
fresh-same spots others (e ∷ es) same =
    ap (λ b. cond (not b) (e ∷ fresh_spots spots es) (fresh_spots spots es)) (same e.0)
    ∙ ap (λ l. cond (not (has_spot_of e.0 others)) (e ∷ l) l) (fresh-same spots others es same)

pub names-more : (spots others more : List (List ℕ × Spot)) → HaveSameNames spots others → HaveSameNames (add_spots spots more) (gather_spots others more)
names-more spots others more same n =
    has-adds n spots more ∙ ap (λ b. b || has_spot_of n more) (same n) ∙ by (has_spot_of n others) refl ∙ sym (has-append n others (fresh_spots others more))
  where
    by : (b : Bool) → has_spot_of n others ≡ b → b || has_spot_of n more ≡ b || has_spot_of n (fresh_spots others more)
    by true is = refl
    by false is = sym (has-fresh n others more is)
