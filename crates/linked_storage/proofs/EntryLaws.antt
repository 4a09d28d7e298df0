-- In a linked schema the entries of one name in a class have as many values.
use Rattle.std.proofs.Common.{◌≡◌, ◌<◌, ◌+◌, ◌&&◌, ◌||◌, ℕ, zero, suc, Bool, true, false, cond, not, nat_eq, List, [], ◌∷◌, ◌++◌, filter_map, fold, length, slice_get, codes, Option, None, Some, option_map, is_some, refl, sym, ap, subst, ◌∙◌, arith, ◌⊎◌, inl, inr}
use Rattle.std.specs.List.{list_any, cons_option}
use Rattle.std.specs.Option.{option_and_then}
use Rattle.std.proofs.lemmas.Bool.{eqb-true, eq-eqb}
use Rattle.obj_kinds.specs.Texts.{same_text}
use Rattle.obj_kinds.proofs.TextLaws.{same_text-is, is-same_text}
use Rattle.schema_kinds.specs.declared.class.Class.{Class}
use Rattle.schema_kinds.specs.declared.class.Index.{Index}
use Rattle.schema_kinds.specs.declared.kind.Item.{Item}
use Rattle.schema_kinds.specs.declared.kind.Item.TheVariants as it
use Rattle.schema_kinds.specs.declared.kind.Kind.{Kind}
use Rattle.schema_kinds.specs.declared.kind.Kind.TheVariants as k
use Rattle.schema_kinds.specs.declared.prop.Prop.{Prop}
use Rattle.schema_kinds.specs.declared.tree.ClassTree.{ClassTree}
use Rattle.schema_kinds.specs.declared.tree.PropTree.{PropTree}
use Rattle.schema_kinds.specs.declared.tree.Form.{Form}
use Rattle.schema_kinds.specs.declared.tree.Form.TheVariants.{Single, List as ListForm, Array, Relation}
use Rattle.class_facts.specs.declared.spots.Spot.{Spot}
use Rattle.class_facts.specs.declared.members.Members.{Members}
use Rattle.class_facts.specs.Words.{same_word}
use Rattle.class_facts.specs.Trees.{prop_at, index_at, spots_in}
use Rattle.class_facts.specs.Facts.{Facts, count_from, option_any, prop_pairs, props_in, indexes_in}
use Rattle.class_extents.specs.declared.entry.Entry.{Entry}
use Rattle.class_extents.specs.Extents.{is_in_extent, is_one_side, side_by, side_entry, only_on, alone_on, index_entry, entries_with, entries_in, same_spot, same_on, same_mark, same_entry, add_entry, add_entries_if, extent_entries, entry_name, is_on_side, is_same_index, clashes, clash_in}
use Rattle.class_meaning.specs.Meaning.{single_kind, item_of, side_with, side_kind, kind_by, prop_with, prop_of, class_with}
use Rattle.storage_map.specs.Worlds.{is_side_named, has_entries}
use Rattle.linked_storage.proofs.KindLaws.{and_first, and_second, or_first, or_second}

pub one_spot : (a b : Spot) → same_spot a b ≡ true → a ≡ b
one_spot a b h =
    let c : a.class ≡ b.class = eqb-true a.class b.class (and_first (nat_eq a.class b.class) (nat_eq a.place b.place) h) in
    let p : a.place ≡ b.place = eqb-true a.place b.place (and_second (nat_eq a.class b.class) (nat_eq a.place b.place) h) in
    λ i. record { class = c i; place = p i }

pub one_mark : (a b : Bool) → same_mark a b ≡ true → a ≡ b
one_mark true true h = refl
one_mark true false h = cc
one_mark false true h = cc
one_mark false false h = refl

one_on : (a b : Option Spot) → same_on a b ≡ true → a ≡ b
one_on None None h = refl
one_on None (Some b) h = cc
one_on (Some a) None h = cc
one_on (Some a) (Some b) h = ap Some (one_spot a b h)

-- three tests, however they are bracketed
pub three : (p q r : Bool) → (p && q && r) ≡ true → (p ≡ true) × (q ≡ true) × (r ≡ true)
three true true true h = (refl, refl, refl)
three true true false h = cc
three true false r h = cc
three false q r h = cc

one_entry : (a b : Entry) → same_entry a b ≡ true → a ≡ b
one_entry a b h =
    let p = three (same_mark a.is_side b.is_side) (same_spot a.spot b.spot) (same_on a.on b.on) h in
    let m = one_mark a.is_side b.is_side p.0 in
    let s = one_spot a.spot b.spot p.1 in
    let o = one_on a.on b.on p.2 in
    λ i. record { is_side = m i; spot = s i; on = o i }

-- ENTRIES OF A CLASS ARE AMONG THOSE OF ITS EXTENT

abbrev pub IsHeld : Entry → List Entry → Type 0
IsHeld e [] = ⊥
IsHeld e (x ∷ xs) = (e ≡ x) ⊎ IsHeld e xs

pub held_first : (e : Entry) (xs ys : List Entry) → IsHeld e xs → IsHeld e (xs ++ ys)
held_first e [] ys h = absurd h
held_first e (x ∷ xs) ys (inl same) = inl same
held_first e (x ∷ xs) ys (inr h) = inr (held_first e xs ys h)

pub held_last : (e : Entry) (xs ys : List Entry) → IsHeld e ys → IsHeld e (xs ++ ys)
held_last e [] ys h = h
held_last e (x ∷ xs) ys h = inr (held_last e xs ys h)

any_held : (e : Entry) (xs : List Entry) → list_any (same_entry e) xs ≡ true → IsHeld e xs
any_held e [] h = cc
any_held e (x ∷ xs) h = by (same_entry e x) refl h (any_held e xs)
  where
    by : (b : Bool) → same_entry e x ≡ b → (b || list_any (same_entry e) xs) ≡ true → (list_any (same_entry e) xs ≡ true → IsHeld e xs) → IsHeld e (x ∷ xs)
    by true s r more = inl (one_entry e x s)
    by false s r more = inr (more r)

kept_held : (e x : Entry) (xs : List Entry) → IsHeld e xs → IsHeld e (add_entry xs x)
kept_held e x xs h = by (list_any (same_entry x) xs)
  where
    by : (b : Bool) → IsHeld e (cond b xs (xs ++ x ∷ []))
    by true = h
    by false = held_first e xs (x ∷ []) h

all_kept : (e : Entry) (more xs : List Entry) → IsHeld e xs → IsHeld e (fold add_entry xs more)
all_kept e [] xs h = h
all_kept e (x ∷ more) xs h = all_kept e more (add_entry xs x) (kept_held e x xs h)

now_held : (e : Entry) (xs : List Entry) → IsHeld e (add_entry xs e)
now_held e xs = by (list_any (same_entry e) xs) refl
  where
    by : (b : Bool) → list_any (same_entry e) xs ≡ b → IsHeld e (cond b xs (xs ++ e ∷ []))
    by true h = any_held e xs h
    by false h = held_last e xs (e ∷ []) (inl refl)

all_held : (e : Entry) (more xs : List Entry) → IsHeld e more → IsHeld e (fold add_entry xs more)
all_held e [] xs h = absurd h
all_held e (x ∷ more) xs (inl same) = all_kept e more (add_entry xs x) (subst (λ (y : Entry). IsHeld e (add_entry xs y)) same (now_held e xs))
all_held e (x ∷ more) xs (inr h) = all_held e more (add_entry xs x) h

module _ (trees : List ClassTree) (f : Facts) (root : ℕ) where
  abbrev gathered : List Entry → List ℕ → List Entry
  gathered xs places = fold (λ entries i. add_entries_if (is_in_extent f root i) entries (entries_in trees f i)) xs places

  places_kept : (e : Entry) (places : List ℕ) (xs : List Entry) → IsHeld e xs → IsHeld e (gathered xs places)
  places_kept e [] xs h = h
  places_kept e (i ∷ is) xs h = places_kept e is (add_entries_if (is_in_extent f root i) xs (entries_in trees f i)) (by (is_in_extent f root i))
    where
      by : (b : Bool) → IsHeld e (add_entries_if b xs (entries_in trees f i))
      by true = all_kept e (entries_in trees f i) xs h
      by false = h

  place_held : (e : Entry) (i : ℕ) → is_in_extent f root i ≡ true → IsHeld e (entries_in trees f i) → (from n : ℕ) (xs : List Entry) → from + n ≡ from + n → (d : ℕ) → i ≡ from + d → d < n → IsHeld e (gathered xs (count_from from n))
  place_held e i in' held from zero xs r d is lt = absurd (omega (arith, lt))
  place_held e i in' held from (suc n) xs r zero is lt =
      let here : i ≡ from = is ∙ (let z : from + 0 ≡ from = omega arith in z) in
      places_kept e (count_from (from + 1) n) (add_entries_if (is_in_extent f root from) xs (entries_in trees f from))
      (subst (λ p. IsHeld e (add_entries_if (is_in_extent f root p) xs (entries_in trees f p))) here
      (subst (λ b. IsHeld e (add_entries_if b xs (entries_in trees f i))) (sym in') (all_held e (entries_in trees f i) xs held)))
  place_held e i in' held from (suc n) xs r (suc d) is lt =
      place_held e i in' held (from + 1) n (add_entries_if (is_in_extent f root from) xs (entries_in trees f from)) refl d (is ∙ (let z : from + suc d ≡ from + 1 + d = omega arith in z)) (omega (arith, lt))

  pub extent_held : (e : Entry) (i : ℕ) → i < length trees → is_in_extent f root i ≡ true → IsHeld e (entries_in trees f i) → IsHeld e (extent_entries trees f root)
  extent_held e i small in' held = place_held e i in' held 0 (length trees) [] refl i (let z : i ≡ 0 + i = omega arith in z) small

-- WHAT A CLASS HAS ENTRIES OF

-- how many values an entry has
abbrev pub count_of : List ClassTree → Entry → Option ℕ
count_of trees e = cond e.is_side (Some 1) (option_map (λ (x : Index). length x.props) (index_at trees e.spot))

pub record IsEntryOf (trees : List ClassTree) (entries : List Entry) (name : List ℕ) (n : ℕ) : Type 0 where
  pub entry : Entry
  pub held : IsHeld entry entries
  pub named : entry_name trees entry ≡ Some name
  pub counted : count_of trees entry ≡ Some n
  pub lone : (s : Spot) → entry.on ≡ Some s → n ≡ 1

pub lone_index : (props : List (List ℕ × Spot)) (x : Index) (s : Spot) → alone_on props x ≡ Some s → length x.props ≡ 1
lone_index props x s h = by x.unique x.props h
  where
    by : (u : Bool) (names : List (List ℕ)) → cond u None (only_on props names) ≡ Some s → length names ≡ 1
    by true names k = cc
    by false [] k = cc
    by false (a ∷ []) k = refl
    by false (a ∷ b ∷ more) k = cc

module _ (trees : List ClassTree) where
  with_first : (es ds : List Entry) (name : List ℕ) (n : ℕ) → IsEntryOf trees es name n → IsEntryOf trees (es ++ ds) name n
  with_first es ds name n p = record { entry = p.entry; held = held_first p.entry es ds p.held; named = p.named; counted = p.counted; lone = p.lone }

  with_last : (es ds : List Entry) (name : List ℕ) (n : ℕ) → IsEntryOf trees ds name n → IsEntryOf trees (es ++ ds) name n
  with_last es ds name n p = record { entry = p.entry; held = held_last p.entry es ds p.held; named = p.named; counted = p.counted; lone = p.lone }

  one_behind : (o : Option Entry) (es : List Entry) (name : List ℕ) (n : ℕ) → IsEntryOf trees es name n → IsEntryOf trees (cons_option o es) name n
  one_behind None es name n p = p
  one_behind (Some e) es name n p = record { entry = p.entry; held = inr p.held; named = p.named; counted = p.counted; lone = p.lone }

  index_there : (all : List Members) (name : List ℕ) (n : ℕ) (spots : List Spot) → list_any (λ (x : Index). same_text x.name name && nat_eq (length x.props) n) (filter_map (index_at trees) spots) ≡ true
      → IsEntryOf trees (filter_map (index_entry trees all) spots) name n
  index_there all name n [] h = cc
  index_there all name n (s ∷ ss) h = by (index_at trees s) refl h (index_there all name n ss)
    where
      test : Index → Bool
      test x = same_text x.name name && nat_eq (length x.props) n

      here : (x : Index) → index_at trees s ≡ Some x → (b : Bool) → (same_text x.name name && nat_eq (length x.props) n) ≡ b → (b || list_any (λ (y : Index). same_text y.name name && nat_eq (length y.props) n) (filter_map (index_at trees) ss)) ≡ true
          → (list_any (λ (y : Index). same_text y.name name && nat_eq (length y.props) n) (filter_map (index_at trees) ss) ≡ true → IsEntryOf trees (filter_map (index_entry trees all) ss) name n)
          → IsEntryOf trees (cons_option (option_map (λ y. record { is_side = false; spot = s; on = alone_on (prop_pairs (slice_get all s.class)) y }) (Some x)) (filter_map (index_entry trees all) ss)) name n
      here x at true e r more = record {
        entry = record { is_side = false; spot = s; on = alone_on (prop_pairs (slice_get all s.class)) x };
        held = inl refl;
        named = ap (option_map (λ (y : Index). y.name)) at ∙ ap Some (same_text-is x.name name (and_first (same_text x.name name) (nat_eq (length x.props) n) e));
        counted = ap (option_map (λ (y : Index). length y.props)) at ∙ ap Some (eqb-true (length x.props) n (and_second (same_text x.name name) (nat_eq (length x.props) n) e));
        lone = λ t h. sym (eqb-true (length x.props) n (and_second (same_text x.name name) (nat_eq (length x.props) n) e)) ∙ lone_index (prop_pairs (slice_get all s.class)) x t h;
      }
      here x at false e r more = one_behind (Some (record { is_side = false; spot = s; on = alone_on (prop_pairs (slice_get all s.class)) x })) (filter_map (index_entry trees all) ss) name n (more r)

      by : (o : Option Index) → index_at trees s ≡ o → list_any (λ (x : Index). same_text x.name name && nat_eq (length x.props) n) (cons_option o (filter_map (index_at trees) ss)) ≡ true
          → (list_any (λ (y : Index). same_text y.name name && nat_eq (length y.props) n) (filter_map (index_at trees) ss) ≡ true → IsEntryOf trees (filter_map (index_entry trees all) ss) name n)
          → IsEntryOf trees (cons_option (option_map (λ y. record { is_side = false; spot = s; on = alone_on (prop_pairs (slice_get all s.class)) y }) o) (filter_map (index_entry trees all) ss)) name n
      by None at r more = more r
      by (Some x) at r more = here x at (same_text x.name name && nat_eq (length x.props) n) refl r more

  module _ (f : Facts) where
    no_item : (name : List ℕ) (p : Prop) (i : Item) → is_side_named name p (single_kind i) ≡ false
    no_item name p it.Text = refl
    no_item name p it.Whole = refl
    no_item name p it.Truth = refl
    no_item name p (it.Ref c) = refl
    no_item name p (it.Serial c) = refl

    pub one_side : (name : List ℕ) (p : PropTree) (form : Form) (kind : Kind) → kind_by f p.of form ≡ Some kind → is_side_named name (prop_with p kind) kind ≡ true → (is_one_side form ≡ true) × (same_text p.name name ≡ true)
    one_side name p Single kind h side = by (item_of f p.of) h
      where
        by : (o : Option Item) → option_map single_kind o ≡ Some kind → (is_one_side Single ≡ true) × (same_text p.name name ≡ true)
        by None e = cc
        by (Some i) e =
            let same : single_kind i ≡ kind = cc in
            let no : is_side_named name (prop_with p kind) kind ≡ false = ap (is_side_named name (prop_with p kind)) (sym same) ∙ no_item name (prop_with p kind) i in
            cc
    one_side name p ListForm kind h side = by (item_of f p.of) h
      where
        by : (o : Option Item) → option_map k.ListOf o ≡ Some kind → (is_one_side ListForm ≡ true) × (same_text p.name name ≡ true)
        by None e = cc
        by (Some i) e = let same : k.ListOf i ≡ kind = cc in let no : is_side_named name (prop_with p kind) kind ≡ false = ap (is_side_named name (prop_with p kind)) (sym same) in cc
    one_side name p Array kind h side = by (item_of f p.of) h
      where
        by : (o : Option Item) → option_map k.ArrayOf o ≡ Some kind → (is_one_side Array ≡ true) × (same_text p.name name ≡ true)
        by None e = cc
        by (Some i) e = let same : k.ArrayOf i ≡ kind = cc in let no : is_side_named name (prop_with p kind) kind ≡ false = ap (is_side_named name (prop_with p kind)) (sym same) in cc
    one_side name p (Relation c i) kind h side = by c i h
      where
        words : (w v : List ℕ) (many : Bool) (one : Bool) → same_text w (codes "one") ≡ one → cond many (Some (k.Many p.of v)) (cond one (Some (k.One p.of v)) None) ≡ Some kind → (same_text w (codes "one") ≡ true) × (same_text p.name name ≡ true)
        words w v true one is e = let same : k.Many p.of v ≡ kind = cc in let no : is_side_named name (prop_with p kind) kind ≡ false = ap (is_side_named name (prop_with p kind)) (sym same) in cc
        words w v false true is e = let same : k.One p.of v ≡ kind = cc in (is, ap (is_side_named name (prop_with p kind)) same ∙ side)
        words w v false false is e = cc

        by : (a b : Option (List ℕ)) → side_kind p.of a b ≡ Some kind → (is_one_side (Relation a b) ≡ true) × (same_text p.name name ≡ true)
        by None b e = cc
        by (Some w) None e = cc
        by (Some w) (Some v) e = words w v (same_text w (codes "many")) (same_text w (codes "one")) refl e

    abbrev is_named : List ℕ → Prop → Bool
    is_named name q = is_side_named name q q.kind

    abbrev props_at : List Spot → List Prop
    props_at spots = filter_map (λ s. option_and_then (prop_of f) (prop_at trees s)) spots

    side_there : (name : List ℕ) (spots : List Spot) → list_any (is_named name) (props_at spots) ≡ true → IsEntryOf trees (filter_map (side_entry trees) spots) name 1
    side_there name [] h = cc
    side_there name (s ∷ ss) h = by (prop_at trees s) refl h (side_there name ss)
      where
        made : (p : PropTree) → prop_at trees s ≡ Some p → is_one_side p.form ≡ true → same_text p.name name ≡ true → IsEntryOf trees (cons_option (side_by s p) (filter_map (side_entry trees) ss)) name 1
        made p at one word =
            subst (λ b. IsEntryOf trees (cons_option (cond b (Some (record { is_side = true; spot = s; on = None })) None) (filter_map (side_entry trees) ss)) name 1) (sym one)
            record {
              entry = record { is_side = true; spot = s; on = None };
              held = inl refl;
              named = ap (option_map (λ (q : PropTree). q.name)) at ∙ ap Some (same_text-is p.name name word);
              counted = refl;
              lone = λ t e. cc;
            }

        here : (p : PropTree) → prop_at trees s ≡ Some p → (o : Option Kind) → kind_by f p.of p.form ≡ o → list_any (is_named name) (cons_option (option_map (prop_with p) o) (props_at ss)) ≡ true
            → (list_any (is_named name) (props_at ss) ≡ true → IsEntryOf trees (filter_map (side_entry trees) ss) name 1) → IsEntryOf trees (cons_option (side_by s p) (filter_map (side_entry trees) ss)) name 1
        here p at None e r more = one_behind (side_by s p) (filter_map (side_entry trees) ss) name 1 (more r)
        here p at (Some kind) e r more = tested (is_side_named name (prop_with p kind) kind) refl r
          where
            tested : (b : Bool) → is_side_named name (prop_with p kind) kind ≡ b → (b || list_any (is_named name) (props_at ss)) ≡ true → IsEntryOf trees (cons_option (side_by s p) (filter_map (side_entry trees) ss)) name 1
            tested true t u = let q = one_side name p p.form kind e t in made p at q.0 q.1
            tested false t u = one_behind (side_by s p) (filter_map (side_entry trees) ss) name 1 (more u)

        by : (o : Option PropTree) → prop_at trees s ≡ o → list_any (is_named name) (cons_option (option_and_then (prop_of f) o) (props_at ss)) ≡ true
            → (list_any (is_named name) (props_at ss) ≡ true → IsEntryOf trees (filter_map (side_entry trees) ss) name 1) → IsEntryOf trees (cons_option (option_and_then (side_by s) o) (filter_map (side_entry trees) ss)) name 1
        by None at r more = more r
        by (Some p) at r more = here p at (kind_by f p.of p.form) refl r more

    -- what a class has entries of is among what is looked at for clashes
    pub entry_of : (i : ℕ) (t : ClassTree) (name : List ℕ) (n : ℕ) → has_entries name n (class_with trees f i t) ≡ true → IsEntryOf trees (entries_in trees f i) name n
    entry_of i t name n h = by (list_any (λ (x : Index). same_text x.name name && nat_eq (length x.props) n) (filter_map (index_at trees) (spots_in (indexes_in f i)))) refl h
      where
        sides : List Entry
        sides = filter_map (side_entry trees) (spots_in (props_in f i))

        by : (b : Bool) → list_any (λ (x : Index). same_text x.name name && nat_eq (length x.props) n) (filter_map (index_at trees) (spots_in (indexes_in f i))) ≡ b
            → (b || (nat_eq n 1 && list_any (is_named name) (props_at (spots_in (props_in f i))))) ≡ true → IsEntryOf trees (entries_in trees f i) name n
        by true e r = with_last (filter_map (side_entry trees) (spots_in (props_in f i))) (filter_map (index_entry trees f.members) (spots_in (indexes_in f i))) name n (index_there f.members name n (spots_in (indexes_in f i)) e)
        by false e r =
            let one : n ≡ 1 = eqb-true n 1 (and_first (nat_eq n 1) (list_any (is_named name) (props_at (spots_in (props_in f i)))) r) in
            let side = side_there name (spots_in (props_in f i)) (and_second (nat_eq n 1) (list_any (is_named name) (props_at (spots_in (props_in f i)))) r) in
            with_first (filter_map (side_entry trees) (spots_in (props_in f i))) (filter_map (index_entry trees f.members) (spots_in (indexes_in f i))) name n (subst (IsEntryOf trees (filter_map (side_entry trees) (spots_in (props_in f i))) name) (sym one) side)

  pub none_held : (test : Entry → Bool) (e : Entry) (xs : List Entry) → list_any test xs ≡ false → IsHeld e xs → test e ≡ false
  none_held test e [] h held = absurd held
  none_held test e (x ∷ xs) h (inl same) = ap test same ∙ or_first (test x) (list_any test xs) h
  none_held test e (x ∷ xs) h (inr held) = none_held test e xs (or_second (test x) (list_any test xs) h) held

  some_count : (m n : ℕ) → Some m ≡ Some n → m ≡ n
  some_count m n e = cc

  abbrev tests : Bool → Bool → Bool → Bool
  tests a b c = not a && not b && not c

  four : (w a b c : Bool) → w ≡ true → (w && not a && not b && not c) ≡ false → tests a b c ≡ false
  four true true b c h k = refl
  four true false true c h k = refl
  four true false false true h k = refl
  four true false false false h k = cc
  four false a b c h k = cc

  -- two entries of one name that don't clash have as many values
  pub even_counts : (es ds : List Entry) (name : List ℕ) (m n : ℕ) → clash_in trees es ds ≡ false → IsEntryOf trees es name m → IsEntryOf trees ds name n → m ≡ n
  even_counts es ds name m n none p q =
      by (is_same_index p.entry q.entry) refl (is_on_side p.entry q.entry) refl (is_on_side q.entry p.entry) refl apart
    where
      names : same_word (entry_name trees p.entry) (entry_name trees q.entry) ≡ true
      names = ap (λ o. same_word o (entry_name trees q.entry)) p.named ∙ ap (same_word (Some name)) q.named ∙ is-same_text name name refl

      apart : tests (is_same_index p.entry q.entry) (is_on_side p.entry q.entry) (is_on_side q.entry p.entry) ≡ false
      apart =
          four (same_word (entry_name trees p.entry) (entry_name trees q.entry)) (is_same_index p.entry q.entry) (is_on_side p.entry q.entry) (is_on_side q.entry p.entry) names
          (none_held (clashes trees p.entry) q.entry ds (none_held (λ e. list_any (clashes trees e) ds) p.entry es none p.held) q.held)

      -- the index on a side alone has one value, as the side has
      lone : (e g : Entry) → is_on_side e g ≡ true → (e.is_side ≡ true) × (s : Spot) × (g.on ≡ Some s)
      lone e g h =
          let t = three e.is_side (not g.is_side) (option_any (same_spot e.spot) g.on) h in let on = some_on g.on t.2 in (t.0, on.0, on.1)
        where
          some_on : (o : Option Spot) → option_any (same_spot e.spot) o ≡ true → (s : Spot) × (o ≡ Some s)
          some_on None k = cc
          some_on (Some s) k = (s, refl)

      of_side : (e : Entry) (c : ℕ) → e.is_side ≡ true → count_of trees e ≡ Some c → 1 ≡ c
      of_side e c side counted = some_count 1 c (sym (ap (λ b. cond b (Some 1) (option_map (λ (x : Index). length x.props) (index_at trees e.spot))) side) ∙ counted)

      by : (a : Bool) → is_same_index p.entry q.entry ≡ a → (b : Bool) → is_on_side p.entry q.entry ≡ b → (c : Bool) → is_on_side q.entry p.entry ≡ c → tests a b c ≡ false → m ≡ n
      by true same b e c g h =
          let side = one_mark p.entry.is_side q.entry.is_side (and_first (same_mark p.entry.is_side q.entry.is_side) (same_spot p.entry.spot q.entry.spot) same) in
          let spot = one_spot p.entry.spot q.entry.spot (and_second (same_mark p.entry.is_side q.entry.is_side) (same_spot p.entry.spot q.entry.spot) same) in
          some_count m n (sym p.counted ∙ ap (λ b. cond b (Some 1) (option_map (λ (x : Index). length x.props) (index_at trees p.entry.spot))) side
          ∙ ap (λ t. cond q.entry.is_side (Some 1) (option_map (λ (x : Index). length x.props) (index_at trees t))) spot ∙ q.counted)
      by false same true e c g h = let l = lone p.entry q.entry e in sym (of_side p.entry m l.0 p.counted) ∙ sym (q.lone l.1 l.2)
      by false same false e true g h = let l = lone q.entry p.entry g in p.lone l.1 l.2 ∙ of_side q.entry n l.0 q.counted
      by false same false e false g h = cc
