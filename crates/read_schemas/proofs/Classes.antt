-- What class files say of the names of their classes and of properties.
use Rattle.std.proofs.Common.{◌≡◌, ◌||◌, inl, inr, ℕ, Bool, true, false, List, [], ◌∷◌, ◌++◌, codes, refl, sym, ap, subst, ◌∙◌}
use Rattle.std.specs.Str.{bytes_eq}
use Rattle.std.specs.List.{list_any}
use Rattle.obj_kinds.specs.Texts.{same_text}
use Rattle.obj_kinds.proofs.TextLaws.{same_text-is}
use Rattle.obj_kinds.specs.declared.name.ClassName.{ClassName}
use Rattle.schema_kinds.specs.declared.tree.ClassTree.{ClassTree}
use Rattle.schema_kinds.specs.declared.tree.PropTree.{PropTree}
use Rattle.text_reading.specs.Tokens.{Bytes, Toks}
use Rattle.text_reading.specs.Places.{Placed}
use Rattle.text_reading.specs.Phrases.{language}
use Rattle.class_tokens.specs.declared.token.Kind.{Kind}
use Rattle.class_checks.specs.Reasons.{is_whole_type}
use Rattle.class_reader.specs.declared.classes.Members.{Members}
use Rattle.class_reader.specs.ClassNames.{has_dot}
use Rattle.class_reader.specs.ClassTrees.{has_prop, prop_of, relation_of, Site}
use Rattle.class_reader.specs.ClassGrammar.{property, relation, method_member, last_member, index_member, member, members, class_rest, one_class, classes}
use Rattle.linked_storage.specs.Linked.{HasNoWholeType}
use Rattle.linked_runs.specs.Laws.{AreApart, HaveNoRepeats}
use Rattle.read_schemas.proofs.Phrases.{Says, many_keeps, fresh_says, own_says}

-- ---- names apart, one more

or_both : (t u : Bool) → t ≡ false → u ≡ false → (t || u) ≡ false
or_both true u e f = absurd (cc)
or_both false u e f = f

first_false : (t u : Bool) → (t || u) ≡ false → t ≡ false
first_false true u e = absurd (cc)
first_false false u e = refl

second_false : (t u : Bool) → (t || u) ≡ false → u ≡ false
second_false true u e = absurd (cc)
second_false false u e = e

none_behind : {X : Type 0} (test : X → Bool) (xs ys : List X) → list_any test xs ≡ false → list_any test ys ≡ false → list_any test (xs ++ ys) ≡ false
none_behind test [] ys e f = f
none_behind test (x ∷ xs) ys e f = or_both (test x) (list_any test (xs ++ ys)) (first_false (test x) (list_any test xs) e) (none_behind test xs ys (second_false (test x) (list_any test xs) e) f)

pub apart_behind : (ps : List PropTree) (q : PropTree) → AreApart ps → has_prop ps q.name ≡ false → AreApart (ps ++ q ∷ [])
apart_behind [] q a e = (refl, tt)
apart_behind (p ∷ ps) q a e = (
  none_behind (λ r. same_text p.name r.name) ps (q ∷ []) a.0 (or_both (same_text p.name q.name) false (first_false (bytes_eq p.name q.name) (has_prop ps q.name) e) refl),
  apart_behind ps q a.1 (second_false (bytes_eq p.name q.name) (has_prop ps q.name) e),
)

-- ---- members

property_says : (home : Bytes) (found : List PropTree) (ts : Toks Kind) (props : List PropTree) → Says property (home, found) ts props → AreApart found → AreApart props
unfolding language property prop_of
property_says home found ts props l a =
    let parts = l.5 in
    let said = parts.4 in
    let free = fresh_says (has_prop found) said.0 said.2 said.4 in
    let both = said.5.5.1 in
    subst AreApart (sym parts.5.1) (apart_behind found _ a (ap (has_prop found) (ap (λ x. x.0) both) ∙ free))

relation_says : (home : Bytes) (found : List PropTree) (ts : Toks Kind) (props : List PropTree) → Says relation (home, found) ts props → AreApart found → AreApart props
unfolding language relation relation_of
relation_says home found ts props l a =
    let parts = l.5 in
    let said = parts.4 in
    let first = said.4 in
    let free = fresh_says (has_prop found) first.0 first.2 first.4 in
    let both = said.5.5.1 in
    subst AreApart (sym parts.5.1) (apart_behind found _ a (ap (has_prop found) (ap (λ x. x.0) both ∙ first.5.5.1) ∙ free))

last_keeps : (m : Members) (ts : Toks Kind) (x : Members) → Says last_member m ts x → x.props ≡ m.props
unfolding language last_member
last_keeps m ts x l = elim l [ inl one ↦ ap (λ y. y.props) one.1.5.1 | inr two ↦ ap (λ y. y.props) two.1.5.1 ]

method_keeps : (text : Placed) (m : Members) (ts : Toks Kind) (x : Members) → Says method_member (text, m) ts x → x.props ≡ m.props
unfolding language method_member
method_keeps text m ts x l = elim l [
  | inl one ↦ ap (λ y. y.props) one.1.5.1
  | inr two ↦ elim two.1 [ inl one ↦ ap (λ y. y.props) one.1.5.1 | inr last ↦ last_keeps m ts x last.1 ]
]

index_keeps : (text : Placed) (m : Members) (ts : Toks Kind) (x : Members) → Says index_member (text, m) ts x → x.props ≡ m.props
unfolding language index_member
index_keeps text m ts x l = elim l [
  | inl one ↦ ap (λ y. y.props) one.1.5.1
  | inr two ↦ elim two.1 [ inl one ↦ ap (λ y. y.props) one.1.5.1 | inr last ↦ method_keeps text m ts x last.1 ]
]

member_says : (s : Site) (m : Members) (ts : Toks Kind) (x : Members) → Says member (s, m) ts x → AreApart m.props → AreApart x.props
unfolding language member
member_says s m ts x l a = elim l [
  | inl one ↦ subst (λ y. AreApart y.props) (sym one.1.5.1) (property_says s.home m.props one.1.0 one.1.2 one.1.4 a)
  | inr two ↦ elim two.1 [
    | inl one ↦ subst (λ y. AreApart y.props) (sym one.1.5.1) (relation_says s.home m.props one.1.0 one.1.2 one.1.4 a)
    | inr last ↦ subst AreApart (sym (index_keeps s.text m ts x last.1)) a
  ]
]

members_say : (s : Site) (ts : Toks Kind) (x : Members) → Says members s ts x → AreApart x.props
unfolding language members
members_say s ts x l = many_keeps (λ m. AreApart m.props) (λ m n us a step. member_says s m us n step.1 a) l tt

-- ---- classes

-- behind a class's own name
rest_named : (text : Placed) (name : Bytes) (ts : Toks Kind) (class : ClassTree) → Says class_rest (text, name) ts class → class.name.0 ≡ name
unfolding language class_rest
rest_named text name ts class l = ap (λ t. t.name.0) l.5.1

rest_apart : (text : Placed) (name : Bytes) (ts : Toks Kind) (class : ClassTree) → Says class_rest (text, name) ts class → AreApart class.props
unfolding language class_rest
rest_apart text name ts class l =
    let parts = l.4 in
    let block = parts.5.4.5.5 in
    let same = ap (λ v. v.1) parts.5.5.1 ∙ block.5.5.1 in
    subst (λ t. AreApart t.props) (sym l.5.1) (subst (λ m. AreApart m.props) (sym same) (members_say _ block.0 block.2 block.4))

-- what all classes of class files have
abbrev pub AreOwn : List ClassTree → Type 0
AreOwn trees = HasNoWholeType trees × HaveNoRepeats trees

same_dots : (z w : Bytes) → has_dot z ≡ true → has_dot w ≡ false → same_text z w ≡ false
same_dots z w d e = by (same_text z w) refl
  where
    by : (t : Bool) → same_text z w ≡ t → t ≡ false
    by true is = let same : z ≡ w = same_text-is z w is in absurd (cc)
    by false is = refl

no_whole_type : (name : ClassName) → has_dot name.0 ≡ true → is_whole_type name ≡ false
no_whole_type name d = or_both (same_text name.0 (codes "%Integer")) (same_text name.0 (codes "%Date")) (same_dots name.0 (codes "%Integer") d refl) (same_dots name.0 (codes "%Date") d refl)

no_repeats : (ts us : List ClassTree) → HaveNoRepeats ts → HaveNoRepeats us → HaveNoRepeats (ts ++ us)
no_repeats [] us a b = b
no_repeats (t ∷ ts) us a b = (a.0, no_repeats ts us a.1 b)

pub own_behind : (ts us : List ClassTree) → AreOwn ts → AreOwn us → AreOwn (ts ++ us)
own_behind ts us a b = (none_behind (λ t. is_whole_type t.name) ts us a.0 b.0, no_repeats ts us a.1 b.1)

own_alone : (class : ClassTree) → has_dot class.name.0 ≡ true → AreApart class.props → AreOwn (class ∷ [])
own_alone class d a = (or_both (is_whole_type class.name) false (no_whole_type class.name d) refl, (a, tt))

class_says : (text : Placed) (found : List ClassTree) (ts : Toks Kind) (x : List ClassTree) → Says one_class (text, found) ts x → AreOwn found → AreOwn x
unfolding language one_class
class_says text found ts x l a =
    let own = l.5 in
    let rest = own.5 in
    let class = rest.2 in
    let dot = ap has_dot (rest_named text own.2 rest.0 class rest.4) ∙ own_says own.0 own.2 own.4 in
    subst AreOwn (sym rest.5.1) (own_behind found (class ∷ []) a (own_alone class dot (rest_apart text own.2 rest.0 class rest.4)))

pub classes_say : (text : Placed) (ts : Toks Kind) (trees : List ClassTree) → Says classes text ts trees → AreOwn trees
unfolding language classes
classes_say text ts trees l = many_keeps AreOwn (λ a b us own step. class_says text a us b step.1 own) l (refl, tt)
