-- The members of a class begin with those of its first superclass.
use Rattle.std.proofs.Common.{◌≡◌, ℕ, zero, suc, ◌+◌, Bool, true, false, cond, not, List, [], ◌∷◌, ◌++◌, map, filter_map, take, fold, length, slice_get, Option, None, Some, is_some, refl, sym, ap, subst, ◌∙◌, arith, append-nil}
use Rattle.std.specs.List.{cons_option}
use Rattle.std.specs.Option.{option_and_then}
use Rattle.std.proofs.lemmas.List.{append_assoc}
use Rattle.indexmap.specs.IndexMap.{insert_entry}
use Rattle.obj_kinds.specs.Texts.{same_text}
use Rattle.obj_kinds.proofs.TextLaws.{same_text-is, is-same_text}
use Rattle.schema_kinds.specs.declared.kind.Kind.{Kind}
use Rattle.schema_kinds.specs.declared.tree.ClassTree.{ClassTree}
use Rattle.schema_kinds.specs.declared.tree.PropTree.{PropTree}
use Rattle.schema_kinds.specs.Links.{row}
use Rattle.class_facts.specs.declared.spots.Spot.{Spot}
use Rattle.class_facts.specs.declared.members.Members.{Members}
use Rattle.class_facts.specs.Spots.{spot_of, add_spot, add_spots, put_spot, put_spots}
use Rattle.class_facts.specs.Trees.{super_links, own_props, prop_spots, inherited_props, members_with, members_up, members_of, prop_at, spots_in}

abbrev pub Pairs : Type 0
Pairs = List (List ℕ × Spot)

-- NAMES

-- a test of texts that fails one way fails the other way
pub turned_apart : (a b : List ℕ) → same_text a b ≡ false → same_text b a ≡ false
turned_apart a b h = by (same_text b a) refl
  where
    by : (t : Bool) → same_text b a ≡ t → t ≡ false
    by true e = let same : same_text a b ≡ true = is-same_text a b (sym (same_text-is b a e)) in cc
    by false e = refl

-- no two pairs have one name
abbrev pub AreDistinct : Pairs → Type 0
AreDistinct [] = Unit {0}
AreDistinct (x ∷ xs) = (spot_of x.0 xs ≡ None) × AreDistinct xs

-- the names of some pairs aren't among others
abbrev AreNew : Pairs → Pairs → Type 0
AreNew acc [] = Unit {0}
AreNew acc (x ∷ xs) = (spot_of x.0 acc ≡ None) × AreNew acc xs

absent_first : (name : List ℕ) (x : List ℕ × Spot) (xs : Pairs) → spot_of name (x ∷ xs) ≡ None → (same_text name x.0 ≡ false) × (spot_of name xs ≡ None)
absent_first name x xs h = by (same_text name x.0) refl h
  where
    by : (b : Bool) → same_text name x.0 ≡ b → cond b (Some x.1) (spot_of name xs) ≡ None → (same_text name x.0 ≡ false) × (spot_of name xs ≡ None)
    by true e k = cc
    by false e k = (e, k)

absent_more : (name : List ℕ) (x : List ℕ × Spot) (xs : Pairs) → same_text name x.0 ≡ false → spot_of name xs ≡ None → spot_of name (x ∷ xs) ≡ None
absent_more name x xs apart h = ap (λ b. cond b (Some x.1) (spot_of name xs)) apart ∙ h

absent_append : (name : List ℕ) (xs : Pairs) (p : List ℕ × Spot) → spot_of name xs ≡ None → same_text name p.0 ≡ false → spot_of name (xs ++ p ∷ []) ≡ None
absent_append name [] p h apart = absent_more name p [] apart refl
absent_append name (x ∷ xs) p h apart = let q = absent_first name x xs h in absent_more name x (xs ++ p ∷ []) q.0 (absent_append name xs p q.1 apart)

distinct_append : (xs : Pairs) (p : List ℕ × Spot) → AreDistinct xs → spot_of p.0 xs ≡ None → AreDistinct (xs ++ p ∷ [])
distinct_append [] p d h = (refl, tt)
distinct_append (x ∷ xs) p d h =
    let q = absent_first p.0 x xs h in
    (absent_append x.0 xs p d.0 (turned_apart p.0 x.0 q.0), distinct_append xs p d.1 q.1)

-- pairs whose names are new go behind the others
new_append : (acc xs : Pairs) (p : List ℕ × Spot) → AreNew acc xs → spot_of p.0 xs ≡ None → AreNew (acc ++ p ∷ []) xs
new_append acc [] p new h = tt
new_append acc (x ∷ xs) p new h =
    let q = absent_first p.0 x xs h in
    (absent_append x.0 acc p new.0 (turned_apart p.0 x.0 q.0), new_append acc xs p new.1 q.1)

adds_new : (acc xs : Pairs) → AreDistinct xs → AreNew acc xs → add_spots acc xs ≡ acc ++ xs
adds_new acc [] d new = sym (append-nil acc)
adds_new acc (x ∷ xs) d new =
    ap (λ o. add_spots (cond (is_some o) acc (acc ++ x ∷ [])) xs) new.0
    ∙ adds_new (acc ++ x ∷ []) xs d.1 (new_append acc xs x new.1 d.0) ∙ append_assoc acc (x ∷ []) xs

none_first : (xs : Pairs) → AreNew [] xs
none_first [] = tt
none_first (x ∷ xs) = (refl, none_first xs)

pub added_to_none : (xs : Pairs) → AreDistinct xs → add_spots [] xs ≡ xs
added_to_none xs d = adds_new [] xs d (none_first xs)

-- what is added goes behind what is there
pub record IsLonger (xs ys : Pairs) : Type 0 where
  pub more : Pairs
  pub is : ys ≡ xs ++ more

longer_on : (xs ys zs : Pairs) → IsLonger xs ys → IsLonger ys zs → IsLonger xs zs
longer_on xs ys zs a b = record { more = a.more ++ b.more; is = b.is ∙ ap (λ l. l ++ b.more) a.is ∙ append_assoc xs a.more b.more }

adds_longer : (acc xs : Pairs) → IsLonger acc (add_spots acc xs)
adds_longer acc [] = record { more = []; is = sym (append-nil acc) }
adds_longer acc (x ∷ xs) = by (is_some (spot_of x.0 acc)) (adds_longer acc xs) (adds_longer (acc ++ x ∷ []) xs)
  where
    by : (b : Bool) → IsLonger acc (add_spots acc xs) → IsLonger (acc ++ x ∷ []) (add_spots (acc ++ x ∷ []) xs) → IsLonger acc (add_spots (cond b acc (acc ++ x ∷ [])) xs)
    by true left added = left
    by false left added = longer_on acc (acc ++ x ∷ []) (add_spots (acc ++ x ∷ []) xs) (record { more = x ∷ []; is = refl }) added

all_longer : (acc : Pairs) (ms : List Members) → IsLonger acc (fold (λ spots m. add_spots spots m.props) acc ms)
all_longer acc [] = record { more = []; is = sym (append-nil acc) }
all_longer acc (m ∷ ms) = longer_on acc (add_spots acc m.props) (fold (λ spots n. add_spots spots n.props) (add_spots acc m.props) ms) (adds_longer acc m.props) (all_longer (add_spots acc m.props) ms)

-- the inherited members begin with those of the first superclass
pub first_inherited : (m : Members) (ms : List Members) → AreDistinct m.props → IsLonger m.props (inherited_props (m ∷ ms))
first_inherited m ms d = subst (λ acc. IsLonger acc (fold (λ spots n. add_spots spots n.props) (add_spots [] m.props) ms)) (added_to_none m.props d) (all_longer (add_spots [] m.props) ms)

-- SPOTS AT WHICH SOMETHING IS DECLARED

module _ (trees : List ClassTree) where
  abbrev pub AreDeclared : Pairs → Type 0
  AreDeclared [] = Unit {0}
  AreDeclared (x ∷ xs) = (is_some (prop_at trees x.1) ≡ true) × AreDeclared xs

  pub declared_at : (xs : Pairs) (name : List ℕ) (s : Spot) → AreDeclared xs → spot_of name xs ≡ Some s → is_some (prop_at trees s) ≡ true
  declared_at [] name s d h = cc
  declared_at (x ∷ xs) name s d h = by (same_text name x.0) h (declared_at xs name s d.1)
    where
      by : (b : Bool) → cond b (Some x.1) (spot_of name xs) ≡ Some s → (spot_of name xs ≡ Some s → is_some (prop_at trees s) ≡ true) → is_some (prop_at trees s) ≡ true
      by true k more = let same : x.1 ≡ s = cc in ap (λ t. is_some (prop_at trees t)) (sym same) ∙ d.0
      by false k more = more k

  declared_append : (xs ys : Pairs) → AreDeclared xs → AreDeclared ys → AreDeclared (xs ++ ys)
  declared_append [] ys a b = b
  declared_append (x ∷ xs) ys a b = (a.0, declared_append xs ys a.1 b)

  -- distinct pairs, each declared
  pub record AreMembers (xs : Pairs) : Type 0 where
    pub distinct : AreDistinct xs
    pub declared : AreDeclared xs

  added : (xs : Pairs) (p : List ℕ × Spot) → AreMembers xs → is_some (prop_at trees p.1) ≡ true → AreMembers (add_spot xs p)
  added xs p m there = by (spot_of p.0 xs) refl
    where
      by : (o : Option Spot) → spot_of p.0 xs ≡ o → AreMembers (cond (is_some o) xs (xs ++ p ∷ []))
      by (Some s) e = m
      by None e = record { distinct = distinct_append xs p m.distinct e; declared = declared_append xs (p ∷ []) m.declared (there, tt) }

  all_added : (acc xs : Pairs) → AreMembers acc → AreDeclared xs → AreMembers (add_spots acc xs)
  all_added acc [] m d = m
  all_added acc (x ∷ xs) m d = all_added (add_spot acc x) xs (added acc x m d.0) d.1

  absent_put : (n : List ℕ) (ys : Pairs) (name : List ℕ) (own : Spot) → spot_of n ys ≡ None → same_text n name ≡ false → spot_of n (insert_entry same_text ys name own) ≡ None
  absent_put n [] name own h apart = absent_more n (name, own) [] apart refl
  absent_put n (y ∷ ys) name own h apart = let q = absent_first n y ys h in by (same_text name y.0) q (absent_put n ys name own q.1 apart)
    where
      by : (b : Bool) → (same_text n y.0 ≡ false) × (spot_of n ys ≡ None) → spot_of n (insert_entry same_text ys name own) ≡ None → spot_of n (cond b ((y.0, own) ∷ ys) (y ∷ insert_entry same_text ys name own)) ≡ None
      by true q rest = absent_more n (y.0, own) ys q.0 q.1
      by false q rest = absent_more n y (insert_entry same_text ys name own) q.0 rest

  put : (ys : Pairs) (name : List ℕ) (own : Spot) → AreMembers ys → is_some (prop_at trees own) ≡ true → AreMembers (insert_entry same_text ys name own)
  put [] name own m there = record { distinct = (refl, tt); declared = (there, tt) }
  put (y ∷ ys) name own m there = by (same_text name y.0) refl (put ys name own (record { distinct = m.distinct.1; declared = m.declared.1 }) there)
    where
      by : (b : Bool) → same_text name y.0 ≡ b → AreMembers (insert_entry same_text ys name own) → AreMembers (cond b ((y.0, own) ∷ ys) (y ∷ insert_entry same_text ys name own))
      by true e rest = record { distinct = m.distinct; declared = (there, m.declared.1) }
      by false e rest = record { distinct = (absent_put y.0 ys name own m.distinct.0 (turned_apart name y.0 e), rest.distinct); declared = (m.declared.0, rest.declared) }

  all_put : (acc xs : Pairs) → AreMembers acc → AreDeclared xs → AreMembers (put_spots acc xs)
  all_put acc [] m d = m
  all_put acc (x ∷ xs) m d = all_put (put_spot acc x) xs (put acc x.0 x.1 m d.0) d.1

  -- what a class declares stands at its own spots
  slice_at : (done : List PropTree) (p : PropTree) (ps : List PropTree) → slice_get (done ++ p ∷ ps) (length done) ≡ Some p
  slice_at [] p ps = refl
  slice_at (d ∷ ds) p ps = slice_at ds p ps

  pub own_at : (i : ℕ) (tree : ClassTree) → slice_get trees i ≡ Some tree → (done : List PropTree) (p : PropTree) (ps : List PropTree) (k : ℕ) → tree.props ≡ done ++ p ∷ ps → k ≡ length done → prop_at trees (record { class = i; place = k }) ≡ Some p
  own_at i tree there done p ps k is at =
      ap (option_and_then (λ (t : ClassTree). slice_get t.props k)) there ∙ ap (λ l. slice_get l k) is ∙ ap (slice_get (done ++ p ∷ ps)) at ∙ slice_at done p ps

  pub next_place : (done : List PropTree) (p : PropTree) (k : ℕ) → k ≡ length done → k + 1 ≡ length (done ++ p ∷ [])
  next_place [] p k at = ap (λ n. n + 1) at
  next_place (d ∷ ds) p zero at = cc
  next_place (d ∷ ds) p (suc k) at = let less : k ≡ length ds = cc in let e : suc k + 1 ≡ suc (k + 1) = omega arith in e ∙ ap suc (next_place ds p k less)

  own_declared : (i : ℕ) (tree : ClassTree) → slice_get trees i ≡ Some tree → (done ps : List PropTree) (k : ℕ) → tree.props ≡ done ++ ps → k ≡ length done → AreDeclared (prop_spots i k ps)
  own_declared i tree there done [] k is at = tt
  own_declared i tree there done (p ∷ ps) k is at =
      (ap is_some (own_at i tree there done p ps k is at), own_declared i tree there (done ++ p ∷ []) ps (k + 1) (is ∙ sym (append_assoc done (p ∷ []) ps)) (next_place done p k at))

  spots_declared : (i : ℕ) (o : Option ClassTree) → slice_get trees i ≡ o → AreDeclared (prop_spots i 0 (own_props o))
  spots_declared i None e = tt
  spots_declared i (Some tree) e = own_declared i tree e [] tree.props 0 refl refl

  AllMembers : List Members → Type 0
  AllMembers [] = Unit {0}
  AllMembers (m ∷ ms) = AreMembers m.props × AllMembers ms

  all_inherited : (acc : Pairs) (ms : List Members) → AreMembers acc → AllMembers ms → AreMembers (fold (λ spots m. add_spots spots m.props) acc ms)
  unfolding AllMembers
  all_inherited acc [] m all = m
  all_inherited acc (n ∷ ns) m all = all_inherited (add_spots acc n.props) ns (all_added acc n.props m all.0.declared) all.1

  with_supers : (i : ℕ) (ms : List Members) → AllMembers ms → AreMembers (members_with trees i ms).props
  with_supers i ms all = all_put (inherited_props ms) (prop_spots i 0 (own_props (slice_get trees i))) (all_inherited [] ms (record { distinct = tt; declared = tt }) all) (spots_declared i (slice_get trees i) refl)

  pub up_members : (n i : ℕ) → AreMembers (members_up n trees i).props
  unfolding AllMembers
  up_members zero i = with_supers i [] tt
  up_members (suc n) i = with_supers i (map (λ s. members_up n trees s) (row (super_links trees) i)) (each (row (super_links trees) i) (up_members n))
    where
      each : (ss : List ℕ) → ((s : ℕ) → AreMembers (members_up n trees s).props) → AllMembers (map (λ s. members_up n trees s) ss)
      each [] up = tt
      each (s ∷ ss) up = (up s, each ss up)

  pub members_fit : (i : ℕ) → AreMembers (members_of trees i).props
  members_fit i = up_members (length trees) i

-- ONE BEGINNING

module _ (k : Spot → Option Kind) where
  -- the second pairs begin with the names of the first, each with a spot of the same kind
  abbrev pub Begins : Pairs → Pairs → Type 0
  Begins [] ys = Unit {0}
  Begins (x ∷ xs) [] = ⊥
  Begins (x ∷ xs) (y ∷ ys) = (x.0 ≡ y.0) × (k x.1 ≡ k y.1) × Begins xs ys

  pub begins_longer : (xs more : Pairs) → Begins xs (xs ++ more)
  begins_longer [] more = tt
  begins_longer (x ∷ xs) more = (refl, refl, begins_longer xs more)

  begins_put : (xs ys : Pairs) (name : List ℕ) (own : Spot) → Begins xs ys → ((s : Spot) → spot_of name xs ≡ Some s → k own ≡ k s) → Begins xs (insert_entry same_text ys name own)
  begins_put [] ys name own b same = tt
  begins_put (x ∷ xs) [] name own b same = absurd b
  begins_put (x ∷ xs) (y ∷ ys) name own b same = by (same_text name y.0) refl (begins_put xs ys name own b.2)
    where
      by : (t : Bool) → same_text name y.0 ≡ t → (((s : Spot) → spot_of name xs ≡ Some s → k own ≡ k s) → Begins xs (insert_entry same_text ys name own)) → Begins (x ∷ xs) (cond t ((y.0, own) ∷ ys) (y ∷ insert_entry same_text ys name own))
      by true e rest =
          let here : same_text name x.0 ≡ true = ap (same_text name) b.0 ∙ e in
          (b.0, sym (same x.1 (ap (λ u. cond u (Some x.1) (spot_of name xs)) here)), b.2)
      by false e rest =
          let there : same_text name x.0 ≡ false = ap (same_text name) b.0 ∙ e in
          (b.0, b.1, rest (λ s h. same s (ap (λ u. cond u (Some x.1) (spot_of name xs)) there ∙ h)))

  -- each of these has the kind of what it takes the place of
  abbrev pub Keeps : Pairs → Pairs → Type 0
  Keeps xs [] = Unit {0}
  Keeps xs (o ∷ os) = ((s : Spot) → spot_of o.0 xs ≡ Some s → k o.1 ≡ k s) × Keeps xs os

  pub begins_puts : (xs ys own : Pairs) → Begins xs ys → Keeps xs own → Begins xs (put_spots ys own)
  begins_puts xs ys [] b same = b
  begins_puts xs ys (o ∷ os) b same = begins_puts xs (put_spot ys o) os (begins_put xs ys o.0 o.1 b same.0) same.1

  pub kinds_first : (xs ys : Pairs) → Begins xs ys → take (length (filter_map k (spots_in xs))) (filter_map k (spots_in ys)) ≡ filter_map k (spots_in xs)
  kinds_first [] ys b = refl
  kinds_first (x ∷ xs) [] b = absurd b
  kinds_first (x ∷ xs) (y ∷ ys) b =
      ap (λ o. take (length (filter_map k (spots_in (x ∷ xs)))) (cons_option o (filter_map k (spots_in ys)))) (sym b.1) ∙ by (k x.1) (kinds_first xs ys b.2)
    where
      by : (o : Option Kind) → take (length (filter_map k (spots_in xs))) (filter_map k (spots_in ys)) ≡ filter_map k (spots_in xs)
          → take (length (cons_option o (filter_map k (spots_in xs)))) (cons_option o (filter_map k (spots_in ys))) ≡ cons_option o (filter_map k (spots_in xs))
      by None h = h
      by (Some c) h = ap (λ l. c ∷ l) h
