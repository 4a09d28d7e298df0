-- The tables hold what the trees say.
use Rattle.std.proofs.Common.{◌≡◌, ℕ, zero, suc, ◌+◌, ◌<◌, List, [], ◌∷◌, ◌++◌, map, length, slice_get, get_or, Option, Some, None, refl, ap, subst, ◌∙◌, arith}
use Rattle.std.proofs.lemmas.List.Quantifiers.{position-Some}
use Rattle.obj_kinds.specs.declared.name.ClassName.{ClassName}
use Rattle.schema_kinds.specs.declared.tree.ClassTree.{ClassTree}
use Rattle.schema_kinds.specs.declared.hierarchy.Header.{Header}
use Rattle.schema_kinds.specs.declared.hierarchy.Hierarchy.{Hierarchy}
use Rattle.schema_kinds.specs.Hierarchy.{IsHierarchyOf, same_text, names_of, firsts_of, first_place, top, top_on}
use Rattle.schema_kinds.proofs.Hierarchies.{length-map}
use Rattle.class_facts.specs.declared.tables.Tables.{Tables}
use Rattle.class_facts.specs.Trees.{header_of, headers_of, top_of, sort_above, supers_of, sort_of, members_of}
use Rattle.class_facts.specs.Gathered.{AreGathered}
use Rattle.class_facts.specs.Facts.{count_from, places_of, facts_of, seen}

pub get-count : {B : Type 0} (g : ℕ → B) (s n k : ℕ) → k < n → slice_get (map g (count_from s n)) k ≡ Some (g (s + k))
get-count g s zero k h = absurd (omega arith)
get-count g s (suc n) zero h = let e : s ≡ s + 0 = omega arith in ap (λ m. Some (g m)) e
get-count g s (suc n) (suc k) h = let e : s + 1 + k ≡ s + suc k = omega arith in get-count g (s + 1) n k (omega arith) ∙ ap (λ m. Some (g m)) e

count-more : {B : Type 0} (g : ℕ → B) (s n : ℕ) → map g (count_from s n) ++ g (s + n) ∷ [] ≡ map g (count_from s (suc n))
count-more g s zero = let e : s + 0 ≡ s = omega arith in ap (λ m. g m ∷ []) e
count-more g s (suc n) =
    let e : s + suc n ≡ s + 1 + n = omega arith in
    ap (λ m. g s ∷ map g (count_from (s + 1) n) ++ g m ∷ []) e ∙ ap (λ l. g s ∷ l) (count-more g (s + 1) n)

-- one place more
pub count-turn : {B : Type 0} (g : ℕ → B) (n : ℕ) → map g (count_from 0 n) ++ g n ∷ [] ≡ map g (count_from 0 (n + 1))
count-turn g n =
    let e : n ≡ 0 + n = omega arith in
    let f : suc n ≡ n + 1 = omega arith in
    ap (λ m. map g (count_from 0 n) ++ g m ∷ []) e ∙ count-more g 0 n ∙ ap (λ k. map g (count_from 0 k)) f

count-after : (s n : ℕ) → count_from s n ++ (s + n) ∷ [] ≡ count_from s (suc n)
count-after s zero = let e : s + 0 ≡ s = omega arith in ap (λ m. m ∷ []) e
count-after s (suc n) =
    let e : s + suc n ≡ s + 1 + n = omega arith in
    ap (λ m. s ∷ count_from (s + 1) n ++ m ∷ []) e ∙ ap (λ l. s ∷ l) (count-after (s + 1) n)

pub count-last : (n : ℕ) → count_from 0 n ++ n ∷ [] ≡ count_from 0 (n + 1)
count-last n =
    let e : n ≡ 0 + n = omega arith in
    let f : suc n ≡ n + 1 = omega arith in
    ap (λ m. count_from 0 n ++ m ∷ []) e ∙ count-after 0 n ∙ ap (count_from 0) f

list-by-get : {B : Type 0} (xs : List B) (g : ℕ → B) (s n : ℕ) → length xs ≡ n → ((k : ℕ) → k < n → slice_get xs k ≡ Some (g (s + k))) → xs ≡ map g (count_from s n)
list-by-get [] g s zero long h = refl
list-by-get [] g s (suc n) long h = absurd (omega (arith, long))
list-by-get (x ∷ xs) g s zero long h = absurd (omega (arith, long))
list-by-get (x ∷ xs) g s (suc n) long h =
    let e : s + 0 ≡ s = omega arith in
    let head : Some x ≡ Some (g s) = h 0 (omega arith) ∙ ap (λ m. Some (g m)) e in
    let same : x ≡ g s = cc in
    let rest = list-by-get xs g (s + 1) n (omega (arith, long))
    (λ k small. let f : s + suc k ≡ s + 1 + k = omega arith in h (suc k) (omega arith) ∙ ap (λ m. Some (g m)) f) in
    λ i. same i ∷ rest i

map-map : {A B C : Type 0} (f : B → C) (g : A → B) (xs : List A) → map f (map g xs) ≡ map (λ x. f (g x)) xs
map-map f g [] = refl
map-map f g (x ∷ xs) = ap (λ l. f (g x) ∷ l) (map-map f g xs)

pub length-firsts : (trees : List ClassTree) → length (firsts_of (headers_of trees)) ≡ length trees
length-firsts trees = length-map (λ h. first_place (names_of (headers_of trees)) h.supers) (headers_of trees) ∙ length-map header_of trees

pub length-names : (trees : List ClassTree) → length (names_of (headers_of trees)) ≡ length trees
length-names trees = length-map (λ h. h.name.0) (headers_of trees) ∙ length-map header_of trees

pub seen-facts : (trees : List ClassTree) (h : Hierarchy) (t : Tables) → IsHierarchyOf (headers_of trees) h
    → t.tops ≡ map (λ i. top (length h.firsts) h.firsts i) (count_from 0 (length trees))
    → t.sorts ≡ map (λ i. sort_above (supers_of (slice_get trees i))) t.tops
    → AreGathered trees t.members → seen h t ≡ facts_of trees
seen-facts trees h t is tops sorts members = λ i. record {
  names = is.names i;
  links = is.links i;
  firsts = is.firsts i;
  sorts = sorts_are i;
  tops = tops_are i;
  members = members_are i;
}
  where
    tops_are : t.tops ≡ map (λ i. top_of trees i) (places_of trees)
    tops_are = tops ∙ ap (λ f. map (λ i. top (length f) f i) (count_from 0 (length trees))) is.firsts
        ∙ ap (λ n. map (λ i. top n (firsts_of (headers_of trees)) i) (count_from 0 (length trees))) (length-firsts trees)

    sorts_are : t.sorts ≡ map (λ i. sort_of trees i) (places_of trees)
    sorts_are = sorts ∙ ap (map (λ i. sort_above (supers_of (slice_get trees i)))) tops_are ∙ map-map (λ i. sort_above (supers_of (slice_get trees i))) (λ i. top_of trees i) (places_of trees)

    members_are : t.members ≡ map (λ i. members_of trees i) (places_of trees)
    members_are = list-by-get t.members (λ i. members_of trees i) 0 (length trees) members.as_many
        (λ k small. let e : k ≡ 0 + k = omega arith in members.each k small ∙ ap (λ m. Some (members_of trees m)) e)

pub length-count : (s n : ℕ) → length (count_from s n) ≡ n
length-count s zero = refl
length-count s (suc n) = ap suc (length-count (s + 1) n)

-- the root above a class is a class
first-small : (names : List (List ℕ)) (headers : List Header) (i j : ℕ) → get_or (map (λ h. first_place names h.supers) headers) i None ≡ Some j → j < length names
first-small names [] i j h = cc
first-small names (x ∷ xs) (suc i) j h = first-small names xs i j h
first-small names (x ∷ xs) zero j h = by x.supers h
  where
    by : (supers : List ClassName) → first_place names supers ≡ Some j → j < length names
    by [] h = cc
    by (s ∷ ss) h = (position-Some (same_text s.0) names j [] h).0

pub top-small : (m : ℕ) (firsts : List (Option ℕ)) (n : ℕ) → ((i j : ℕ) → get_or firsts i None ≡ Some j → j < n) → (i : ℕ) → i < n → top m firsts i < n
top-small zero firsts n h i small = small
top-small (suc m) firsts n h i small = by (λ j inside. top-small m firsts n h j inside) (get_or firsts i None) refl
  where
    by : ((j : ℕ) → j < n → top m firsts j < n) → (o : Option ℕ) → get_or firsts i None ≡ o → top_on (λ j. top m firsts j) i o < n
    by more None e = small
    by more (Some j) e = more j (h i j e)

pub top_of-small : (trees : List ClassTree) (i : ℕ) → i < length trees → top_of trees i < length trees
top_of-small trees i small =
    top-small (length trees) (firsts_of (headers_of trees)) (length trees)
    (λ k j h. subst (λ n. j < n) (length-names trees) (first-small (names_of (headers_of trees)) (headers_of trees) k j h)) i small
