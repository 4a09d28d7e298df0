-- Properties that are declared again with the same kind have one kind.
use Rattle.std.proofs.Common.{◌≡◌, ◌<◌, ℕ, zero, suc, ◌+◌, Bool, true, false, cond, not, ◌&&◌, ◌||◌, List, [], ◌∷◌, ◌++◌, map, length, get_or, slice_get, codes, Option, None, Some, option_map, is_some, refl, sym, ap, subst, ◌∙◌, arith}
use Rattle.std.specs.List.{list_any}
use Rattle.std.specs.Option.{option_and_then}
use Rattle.std.proofs.lemmas.List.Quantifiers.{position-Some}
use Rattle.obj_kinds.specs.declared.name.ClassName.{ClassName}
use Rattle.obj_kinds.specs.Texts.{same_text}
use Rattle.obj_kinds.proofs.TextLaws.{same_text-is, is-same_text}
use Rattle.schema_kinds.specs.declared.kind.Item.{Item}
use Rattle.schema_kinds.specs.declared.kind.Item.TheVariants as it
use Rattle.schema_kinds.specs.declared.kind.Kind.{Kind}
use Rattle.schema_kinds.specs.declared.kind.Kind.TheVariants as k
use Rattle.schema_kinds.specs.declared.tree.ClassTree.{ClassTree}
use Rattle.schema_kinds.specs.declared.tree.PropTree.{PropTree}
use Rattle.schema_kinds.specs.declared.tree.Form.{Form}
use Rattle.schema_kinds.specs.declared.tree.Form.TheVariants.{Single, List as ListForm, Array, Relation}
use Rattle.schema_kinds.specs.Hierarchy.{place_of}
use Rattle.class_facts.specs.Types.{data_item}
use Rattle.class_facts.specs.Words.{same_word}
use Rattle.class_facts.specs.Trees.{tree_names, own_props}
use Rattle.class_facts.specs.Facts.{Facts}
use Rattle.class_checks.specs.Reasons.{is_whole_type, same_type, same_form, same_kind, lacks_inverse, is_answer}
use Rattle.class_meaning.specs.Meaning.{item_or, listed_item, item_of, single_kind, side_kind, kind_by}
use Rattle.linked_storage.specs.Linked.{HasNoWholeType}

pub and_first : (a b : Bool) → (a && b) ≡ true → a ≡ true
and_first true b h = refl
and_first false b h = cc

pub and_second : (a b : Bool) → (a && b) ≡ true → b ≡ true
and_second true b h = h
and_second false b h = cc

pub or_first : (a b : Bool) → (a || b) ≡ false → a ≡ false
or_first true b h = cc
or_first false b h = refl

pub or_second : (a b : Bool) → (a || b) ≡ false → b ≡ false
or_second true b h = cc
or_second false b h = h

pub turned : (b : Bool) → not b ≡ false → b ≡ true
turned true h = refl
turned false h = cc

one_name : (a b : ClassName) → a.0 ≡ b.0 → a ≡ b
one_name a b e = λ i. record { 0 = e i }

whole_item : (a : ClassName) → is_whole_type a ≡ true → data_item a ≡ Some it.Whole
whole_item a h = by (same_text a.0 (codes "%Integer")) refl h
  where
    data_of : List ℕ → Option Item
    data_of t =
        cond (same_text t (codes "%String")) (Some it.Text)
        (cond (same_text t (codes "%Integer")) (Some it.Whole)
        (cond (same_text t (codes "%Date")) (Some it.Whole)
        (cond (same_text t (codes "%Boolean")) (Some it.Truth) None)))

    integer : data_of (codes "%Integer") ≡ Some it.Whole
    integer = refl

    date : data_of (codes "%Date") ≡ Some it.Whole
    date = refl

    by : (b : Bool) → same_text a.0 (codes "%Integer") ≡ b → (b || same_text a.0 (codes "%Date")) ≡ true → data_item a ≡ Some it.Whole
    by true e d = ap data_of (same_text-is a.0 (codes "%Integer") e) ∙ integer
    by false e d = ap data_of (same_text-is a.0 (codes "%Date") d) ∙ date

item_same : (f : Facts) (a b : ClassName) → same_type a b ≡ true → item_of f a ≡ item_of f b
item_same f a b h = by (same_text a.0 b.0) refl h
  where
    by : (t : Bool) → same_text a.0 b.0 ≡ t → (t || (is_whole_type a && is_whole_type b)) ≡ true → item_of f a ≡ item_of f b
    by true e d = ap (item_of f) (one_name a b (same_text-is a.0 b.0 e))
    by false e d =
        ap (λ o. item_or o (listed_item f a)) (whole_item a (and_first (is_whole_type a) (is_whole_type b) d))
        ∙ sym (ap (λ o. item_or o (listed_item f b)) (whole_item b (and_second (is_whole_type a) (is_whole_type b) d)))

one_word : (a b : Option (List ℕ)) → same_word a b ≡ true → a ≡ b
one_word None None h = refl
one_word None (Some b) h = cc
one_word (Some a) None h = cc
one_word (Some a) (Some b) h = ap Some (same_text-is a b h)

abbrev pub is_side : Form → Bool
is_side Single = false
is_side ListForm = false
is_side Array = false
is_side (Relation cardinality inverse) = true

kinds_by : (f : Facts) (a b : ClassName) (x y : Form) → same_form x y ≡ true → same_type a b ≡ true → (is_side x ≡ true → is_whole_type a ≡ false) → kind_by f a x ≡ kind_by f b y
kinds_by f a b Single Single h t side = ap (option_map single_kind) (item_same f a b t)
kinds_by f a b ListForm ListForm h t side = ap (option_map k.ListOf) (item_same f a b t)
kinds_by f a b Array Array h t side = ap (option_map k.ArrayOf) (item_same f a b t)
kinds_by f a b (Relation c i) (Relation d j) h t side = by (same_text a.0 b.0) refl t
  where
    by : (u : Bool) → same_text a.0 b.0 ≡ u → (u || (is_whole_type a && is_whole_type b)) ≡ true → side_kind a c i ≡ side_kind b d j
    by true e m =
        ap (λ n. side_kind n c i) (one_name a b (same_text-is a.0 b.0 e))
        ∙ ap (λ w. side_kind b w i) (one_word c d (and_first (same_word c d) (same_word i j) h)) ∙ ap (side_kind b d) (one_word i j (and_second (same_word c d) (same_word i j) h))
    by false e m = let no = side refl in let yes' = and_first (is_whole_type a) (is_whole_type b) m in cc
kinds_by f a b x y h t side = cc

pub kind_same : (f : Facts) (p q : PropTree) → same_kind p q ≡ true → (is_side p.form ≡ true → is_whole_type p.of ≡ false) → kind_by f p.of p.form ≡ kind_by f q.of q.form
kind_same f p q h side = kinds_by f p.of q.of p.form q.form (and_first (same_form p.form q.form) (same_type p.of q.of) h) (and_second (same_form p.form q.form) (same_type p.of q.of) h) side

-- THE CLASS OF A SIDE IS LISTED

pub none_at : {A : Type 0} (p : A → Bool) (xs : List A) (i : ℕ) (x : A) → list_any p xs ≡ false → slice_get xs i ≡ Some x → p x ≡ false
none_at p [] i x h at = cc
none_at p (y ∷ ys) zero x h at = let same : y ≡ x = cc in ap p (sym same) ∙ or_first (p y) (list_any p ys) h
none_at p (y ∷ ys) (suc i) x h at = none_at p ys i x (or_second (p y) (list_any p ys) h) at

named_whole : (trees : List ClassTree) (name : ClassName) (i : ℕ) → i < length (tree_names trees) → same_text name.0 (get_or (tree_names trees) i []) ≡ true → HasNoWholeType trees → is_whole_type name ≡ false
named_whole [] name i lt h none = absurd (omega (arith, lt))
named_whole (t ∷ ts) name zero lt h none =
    let same : name ≡ t.name = one_name name t.name (same_text-is name.0 t.name.0 h) in
    ap is_whole_type same ∙ or_first (is_whole_type t.name) (list_any (λ u. is_whole_type u.name) ts) none
named_whole (t ∷ ts) name (suc i) lt h none = named_whole ts name i (omega (arith, lt)) h (or_second (is_whole_type t.name) (list_any (λ u. is_whole_type u.name) ts) none)

listed_whole : (trees : List ClassTree) (name : ClassName) (i : ℕ) → place_of (tree_names trees) name ≡ Some i → HasNoWholeType trees → is_whole_type name ≡ false
listed_whole trees name i h none =
    let p = position-Some (same_text name.0) (tree_names trees) i [] h in
    named_whole trees name i p.0 p.1 none

module _ (trees : List ClassTree) (f : Facts) (names : f.names ≡ tree_names trees) (none : HasNoWholeType trees) where
  side_of : (me : ClassName) (name : List ℕ) (of : ClassName) (form : Form) → lacks_inverse trees f me name of form ≡ false → is_side form ≡ true → is_whole_type of ≡ false
  side_of me name of Single h side = cc
  side_of me name of ListForm h side = cc
  side_of me name of Array h side = cc
  side_of me name of (Relation c i) h side = by (place_of f.names of) refl (turned (list_any (is_answer me name c i) (own_props (option_and_then (slice_get trees) (place_of f.names of)))) h)
    where
      by : (o : Option ℕ) → place_of f.names of ≡ o → list_any (is_answer me name c i) (own_props (option_and_then (slice_get trees) o)) ≡ true → is_whole_type of ≡ false
      by None e k = cc
      by (Some j) e k = listed_whole trees of j (ap (λ ns. place_of ns of) (sym names) ∙ e) none

  pub side_listed : (me : ClassName) (p : PropTree) → lacks_inverse trees f me p.name p.of p.form ≡ false → is_side p.form ≡ true → is_whole_type p.of ≡ false
  side_listed me p h side = side_of me p.name p.of p.form h side
