-- A book has of each name the entries of that name.
use Rattle.std.proofs.Common.{◌≡◌, ℕ, Bool, true, false, cond, not, ◌&&◌, ◌||◌, List, [], ◌∷◌, ◌++◌, filter, fold, nat_eq, Option, Some, None, option_map, refl, sym, ap, subst, ◌∙◌, append-nil}
use Rattle.std.specs.List.{list_any}
use lib.Dec.{T, eqb→eq}
use lib.Pointwise.{bytes_decides}
use Rattle.std.specs.Map.{lookup}
use Rattle.std.proofs.lemmas.List.{append_assoc}
use Rattle.indexmap.specs.IndexMap.{insert_entry}
use Rattle.schema_kinds.specs.declared.tree.ClassTree.{ClassTree}
use Rattle.schema_kinds.specs.Hierarchy.{same_text}
use Rattle.class_facts.specs.Facts.{option_any}
use Rattle.class_facts.specs.Words.{same_word}
use Rattle.class_facts.specs.Trees.{prop_at, index_at}
use Rattle.class_facts.specs.declared.spots.Spot.{Spot}
use Rattle.class_extents.specs.declared.entry.Entry.{Entry}
use Rattle.class_extents.specs.declared.extent.Extent.{Extent}
use Rattle.class_extents.specs.Extents.{entry_name, clashes, same_entry, same_mark, same_spot, same_on, is_same_index, is_on_side}
use Rattle.class_extents.specs.Books.{or_nothing, group_of, note_by, note, book_of, is_named, extent_with}

number-is : (a b : ℕ) → nat_eq a b ≡ true → a ≡ b
number-is a b h = eqb→eq a b (subst T (sym h) tt)

text-is : (a b : List ℕ) → same_text a b ≡ true → a ≡ b
text-is a b h = (bytes_decides a b).0 h

pub text-self : (a : List ℕ) → same_text a a ≡ true
text-self a = (bytes_decides a a).1 refl

-- what stands under a name after an insertion
group-insert : (book : List (List ℕ × List Entry)) (n m : List ℕ) (v : List Entry) → group_of n (insert_entry same_text book m v) ≡ cond (same_text n m) v (group_of n book)
group-insert [] n m v = by (same_text n m)
  where
    by : (b : Bool) → or_nothing (cond b (Some v) None) ≡ cond b v []
    by true = refl
    by false = refl
group-insert (e ∷ es) n m v = by (group-insert es n m v) (same_text m e.0) refl (same_text n e.0) refl (same_text n m) refl
  where
    by : group_of n (insert_entry same_text es m v) ≡ cond (same_text n m) v (group_of n es) → (a : Bool) → same_text m e.0 ≡ a → (b : Bool) → same_text n e.0 ≡ b → (c : Bool) → same_text n m ≡ c
        → group_of n (cond a ((e.0, v) ∷ es) (e ∷ insert_entry same_text es m v)) ≡ cond c v (or_nothing (cond b (Some e.1) (lookup (same_text n) es)))
    by rest true p true q true r = rw q refl
    by rest true p true q false r = let same = text-is m e.0 p in let t : same_text n m ≡ true = ap (same_text n) same ∙ q in cc
    by rest true p false q true r = let same = text-is m e.0 p in let t : same_text n m ≡ false = ap (same_text n) same ∙ q in cc
    by rest true p false q false r = rw q refl
    by rest false p true q true r = let same = text-is n m r in let t : same_text m e.0 ≡ true = ap (λ k. same_text k e.0) (sym same) ∙ q in cc
    by rest false p true q false r = rw q refl
    by rest false p false q true r = rw q (rest ∙ ap (λ c. cond c v (group_of n es)) r)
    by rest false p false q false r = rw q (rest ∙ ap (λ c. cond c v (group_of n es)) r)

module _ (trees : List ClassTree) (n : List ℕ) where
  -- one more entry goes last under its name
  group-note : (book : List (List ℕ × List Entry)) (e : Entry) → group_of n (note trees book e) ≡ group_of n book ++ filter (is_named trees n) (e ∷ [])
  group-note book e = by (entry_name trees e)
    where
      here : (m : List ℕ) (b : Bool) → same_text n m ≡ b → cond b (group_of m book ++ e ∷ []) (group_of n book) ≡ group_of n book ++ cond b (e ∷ []) []
      here m true h = ap (λ k. group_of k book ++ e ∷ []) (sym (text-is n m h))
      here m false h = sym (append-nil (group_of n book))

      by : (o : Option (List ℕ)) → group_of n (note_by book e o) ≡ group_of n book ++ cond (option_any (same_text n) o) (e ∷ []) []
      by None = sym (append-nil (group_of n book))
      by (Some m) = group-insert book n m (group_of m book ++ e ∷ []) ∙ here m (same_text n m) refl

  filter-more : (e : Entry) (es : List Entry) → filter (is_named trees n) (e ∷ []) ++ filter (is_named trees n) es ≡ filter (is_named trees n) (e ∷ es)
  filter-more e es = by (is_named trees n e)
    where
      by : (b : Bool) → cond b (e ∷ []) [] ++ filter (is_named trees n) es ≡ cond b (e ∷ filter (is_named trees n) es) (filter (is_named trees n) es)
      by true = refl
      by false = refl

  group-all : (es : List Entry) (book : List (List ℕ × List Entry)) → group_of n (fold (note trees) book es) ≡ group_of n book ++ filter (is_named trees n) es
  group-all [] book = sym (append-nil (group_of n book))
  group-all (e ∷ es) book =
      group-all es (note trees book e) ∙ ap (λ g. g ++ filter (is_named trees n) es) (group-note book e)
      ∙ append_assoc (group_of n book) (filter (is_named trees n) (e ∷ [])) (filter (is_named trees n) es)
      ∙ ap (λ l. group_of n book ++ l) (filter-more e es)

  pub group-book : (es : List Entry) → group_of n (book_of trees es) ≡ filter (is_named trees n) es
  group-book es = group-all es []

-- a test that only entries with a mark pass
any-filter : (test mark : Entry → Bool) → ((f : Entry) → test f ≡ true → mark f ≡ true) → (es : List Entry) → list_any test (filter mark es) ≡ list_any test es
any-filter test mark h [] = refl
any-filter test mark h (e ∷ es) = by (any-filter test mark h es) (mark e) refl (test e) refl
  where
    by : list_any test (filter mark es) ≡ list_any test es → (m : Bool) → mark e ≡ m → (t : Bool) → test e ≡ t → list_any test (cond m (e ∷ filter mark es) (filter mark es)) ≡ test e || list_any test es
    by rest true p t q = ap (λ l. test e || l) rest
    by rest false p true q = let on = h e q in cc
    by rest false p false q = rest ∙ ap (λ b. b || list_any test es) (sym q)

first-true : (a b : Bool) → a && b ≡ true → a ≡ true
first-true true b h = refl
first-true false b h = cc

second-true : (a b : Bool) → a && b ≡ true → b ≡ true
second-true true b h = h
second-true false b h = cc

-- entries that clash have one name
named-word : (n : List ℕ) (o other : Option (List ℕ)) → o ≡ Some n → same_word o other ≡ true → option_any (same_text n) other ≡ true
named-word n None other e h = cc
named-word n (Some m) None e h = cc
named-word n (Some m) (Some k) e h = let is : m ≡ n = cc in subst (λ t. same_text t k ≡ true) is h

pub clash-in-group : (trees : List ClassTree) (e : Entry) (n : List ℕ) (es : List Entry) → entry_name trees e ≡ Some n
    → list_any (clashes trees e) (group_of n (book_of trees es)) ≡ list_any (clashes trees e) es
clash-in-group trees e n es named =
    ap (list_any (clashes trees e)) (group-book trees n es)
    ∙ any-filter (clashes trees e) (is_named trees n)
    (λ f h. named-word n (entry_name trees e) (entry_name trees f) named
    (first-true (same_word (entry_name trees e) (entry_name trees f)) (not (is_same_index e f))
    (first-true (same_word (entry_name trees e) (entry_name trees f) && not (is_same_index e f)) (not (is_on_side e f))
    (first-true (same_word (entry_name trees e) (entry_name trees f) && not (is_same_index e f) && not (is_on_side e f)) (not (is_on_side f e)) h)))) es

-- entries that are the same have one name
mark-is : (a b : Bool) → same_mark a b ≡ true → a ≡ b
mark-is true b h = sym h
mark-is false true h = cc
mark-is false false h = refl

spot-is : (a b : Spot) → same_spot a b ≡ true → a ≡ b
spot-is a b h =
    let class = number-is a.class b.class (first-true (nat_eq a.class b.class) (nat_eq a.place b.place) h) in
    let place = number-is a.place b.place (second-true (nat_eq a.class b.class) (nat_eq a.place b.place) h) in
    λ i. record { class = class i; place = place i }

abbrev name-by : List ClassTree → Bool → Spot → Option (List ℕ)
name-by trees side s = cond side (option_map (λ p. p.name) (prop_at trees s)) (option_map (λ x. x.name) (index_at trees s))

self-named : (n : List ℕ) (o : Option (List ℕ)) → o ≡ Some n → option_any (same_text n) o ≡ true
self-named n None e = cc
self-named n (Some m) e = let is : n ≡ m = cc in subst (λ k. same_text n k ≡ true) is (text-self n)

same-named : (trees : List ClassTree) (e f : Entry) → same_entry e f ≡ true → entry_name trees f ≡ entry_name trees e
same-named trees e f h =
    let both = first-true (same_mark e.is_side f.is_side && same_spot e.spot f.spot) (same_on e.on f.on) h in
    let mark = mark-is e.is_side f.is_side (first-true (same_mark e.is_side f.is_side) (same_spot e.spot f.spot) both) in
    let spot = spot-is e.spot f.spot (second-true (same_mark e.is_side f.is_side) (same_spot e.spot f.spot) both) in
    λ i. name-by trees (sym mark i) (sym spot i)

pub same-in-group : (trees : List ClassTree) (e : Entry) (n : List ℕ) (es : List Entry) → entry_name trees e ≡ Some n
    → list_any (same_entry e) (group_of n (book_of trees es)) ≡ list_any (same_entry e) es
same-in-group trees e n es named =
    ap (list_any (same_entry e)) (group-book trees n es)
    ∙ any-filter (same_entry e) (is_named trees n) (λ f h. self-named n (entry_name trees f) (same-named trees e f h ∙ named)) es

-- one more entry
pub fold-last : {A B : Type 0} (f : B → A → B) (xs : List A) (b : B) (x : A) → fold f b (xs ++ x ∷ []) ≡ f (fold f b xs) x
fold-last f [] b x = refl
fold-last f (y ∷ xs) b x = fold-last f xs (f b y) x

pub with-more : (trees : List ClassTree) (es : List Entry) (e : Entry) (x : Extent) → x.entries ≡ es ++ e ∷ [] → x.book ≡ note trees (book_of trees es) e → x ≡ extent_with trees (es ++ e ∷ [])
with-more trees es e x entries book = λ i. record { entries = entries i; book = (book ∙ sym (fold-last (note trees) es [] e)) i }

pub booked : (trees : List ClassTree) (es : List Entry) (x : Extent) → x ≡ extent_with trees es → x ≡ extent_with trees x.entries
booked trees es x e = e ∙ ap (extent_with trees) (sym (ap (λ (y : Extent). y.entries) e))
