-- What a set takes, leaves and refuses is what the rules of sets say.
use Rattle.std.proofs.Common.{◌≡◌, ◌↔◌, ℕ, Bool, true, false, cond, List, [], ◌∷◌, Option, Some, None, IsSomeAnd, slice_get, refl, sym, ap, subst, ◌∙◌}
use Rattle.obj_kinds.specs.declared.name.ClassName.{ClassName}
use Rattle.obj_kinds.specs.declared.value.Value.{Value}
use Rattle.obj_kinds.specs.declared.value.Value.TheOpen.{Value-F}
use Rattle.obj_kinds.specs.declared.value.Value.TheViews.{out-Value}
use Rattle.obj_kinds.specs.declared.error_name.ErrorName.{ErrorName}
use Rattle.obj_kinds.specs.Texts.{same_text}
use Rattle.obj_kinds.proofs.TextLaws.{same_text-is, is-same_text}
use Rattle.schema_kinds.specs.declared.class.Class.{Class}
use Rattle.schema_kinds.specs.declared.prop.Prop.{Prop}
use Rattle.schema_kinds.specs.declared.kind.Kind.{Kind}
use Rattle.schema_kinds.specs.declared.kind.Kind.TheVariants as kind
use Rattle.schema_kinds.specs.declared.kind.Item.{Item}
use Rattle.schema_kinds.specs.declared.kind.Item.TheVariants as of
use Rattle.record_layout.specs.Shapes.{Form, single, listed, keyed, form_of}
use Rattle.os_kinds.specs.declared.val.Val.{Val}
use Rattle.os_kinds.specs.declared.val.Val.TheVariants.{Data, Ref}
use Rattle.os_kinds.specs.declared.call.Answer.TheVariants as answer
use Rattle.os_meaning.specs.Syntax.{Name}
use Rattle.oref_table.specs.declared.fill.Fill.{Fill}
use Rattle.oref_table.specs.declared.fill.Fill.TheVariants as fill
use Rattle.oref_table.specs.Memory.{Object, Memory, object_of, is_numbered, changed, edited, tighten}
use Rattle.oref_table.proofs.OrderLaws.{object-number}
use Rattle.obj_shape.specs.Fitting.{IsClassFor}
use Rattle.obj_props.specs.Properties.{prop_place}
use Rattle.prop_setting.specs.Elements.{Standing, IsText, IsEmptyText, ValueTakes, ObjectTakes, standing, stood}
use Rattle.prop_setting.specs.Sets.{FormSets, FormRefuses, PlaceRefuses, prop_at, named_prop}
use Rattle.store_calls.specs.Calls.{Give}
use Rattle.call_laws.proofs.BelowLaws.{below_told}
use Rattle.host_meaning.specs.Objects.{Known}
use Rattle.object_members.specs.Seeing.{class_name_part, props_at}
use Rattle.object_members.specs.Ends.{with_memory, errs}
use Rattle.object_members.specs.Standing.{fill_with, held_for, is_text, is_empty_text, is_class_for, value_takes, object_takes, takes}
use Rattle.object_members.specs.Writes.{prop_set, writes_standing, writes_form, writes_prop, writes_place, writes_of, write_prop}
use Rattle.object_members.specs.SetLaws.{IsLegalIfText, IsLegalFill, IsLegalAs, TakesByTheRules, IsNoOneSide, NamesNoOneSide, SetsByTheRules, RefusesByTheRules}

-- ---- what is taken

texts : (x : Value-F Value) → (is_text x ≡ true) ↔ (IsText x × IsLegalIfText x)
texts (Value-F.Str t) = ((λ h. (tt, h)), (λ h. h.1))
texts (Value-F.List vs) = ((λ h. cc), (λ h. absurd h.0))

empties : (x : Value-F Value) → (is_empty_text x ≡ true) ↔ IsEmptyText x
empties (Value-F.Str []) = ((λ h. refl), (λ h. refl))
empties (Value-F.Str (b ∷ t)) = ((λ h. cc), (λ h. cc))
empties (Value-F.List vs) = ((λ h. cc), (λ no. absurd no))

values : (m : Memory) (w : Fill) → (value_takes m w ≡ true) ↔ (ValueTakes w × IsLegalFill m w)
values m (fill.Plain v) = texts (out-Value v)
values m (fill.To a) = ((λ h. (tt, h)), (λ h. h.1))
values m (fill.Target id) = ((λ h. cc), (λ h. absurd h.0))
values m fill.Nothing = ((λ h. cc), (λ h. absurd h.0))

-- of an object nothing else is asked
with_nothing : {A B : Type 0} → A ↔ B → A ↔ (B × Unit {0})
with_nothing h = ((λ a. (h.0 a, tt)), (λ b. h.1 b.0))

same_class : (a c : ClassName) → (same_text a.0 c.0 ≡ true) ↔ (a ≡ c)
same_class a c = ((λ h. ap (λ t. record { 0 = t }) (same_text-is a.0 c.0 h)), (λ e. is-same_text a.0 c.0 (ap (λ x. x.0) e)))

class_by : (classes : List Class) (i : Item) (name : ClassName) → (is_class_for classes i (Some name) ≡ true) ↔ IsClassFor classes i name
class_by classes of.Text name = ((λ h. cc), (λ no. absurd no))
class_by classes of.Whole name = ((λ h. cc), (λ no. absurd no))
class_by classes of.Truth name = ((λ h. cc), (λ no. absurd no))
class_by classes (of.Ref c) name = below_told classes name c
class_by classes (of.Serial c) name = same_class name c

may_stand : (classes : List Class) (i : Item) (o : Option Object) → (is_class_for classes i (class_name_part o) ≡ true) ↔ IsSomeAnd o (λ x. IsClassFor classes i x.class)
may_stand classes i None = ((λ h. cc), (λ no. absurd no))
may_stand classes i (Some o) = class_by classes i o.class

objects : (classes : List Class) (m : Memory) (i : Item) (w : Fill) → (object_takes classes m i w ≡ true) ↔ ObjectTakes classes m i w
objects classes m i (fill.Plain v) = empties (out-Value v)
objects classes m i (fill.To h) = may_stand classes i (object_of h.number m.objects)
objects classes m i (fill.Target id) = ((λ h. cc), (λ no. absurd no))
objects classes m i fill.Nothing = ((λ h. cc), (λ no. absurd no))

pub takes_by_rules : TakesByTheRules
takes_by_rules classes m of.Text w = values m w
takes_by_rules classes m of.Whole w = values m w
takes_by_rules classes m of.Truth w = values m w
takes_by_rules classes m (of.Ref c) w = with_nothing (objects classes m (of.Ref c) w)
takes_by_rules classes m (of.Serial c) w = with_nothing (objects classes m (of.Serial c) w)

pub legal-as : (m : Memory) (i : Item) (w : Fill) → IsLegalFill m w → IsLegalAs m i w
legal-as m of.Text w h = h
legal-as m of.Whole w h = h
legal-as m of.Truth w h = h
legal-as m (of.Ref c) w h = tt
legal-as m (of.Serial c) w h = tt

-- ---- the object that is set, without the hold that the frame has

-- it is of the same class and level as before
pub record WasThere (m : Memory) (n : ℕ) (o : Object) : Type 0 where
  pub was : Object
  pub found : object_of n m.objects ≡ Some was
  pub class : was.class ≡ o.class
  pub level : was.level ≡ o.level

found-loose : (k n : ℕ) (os : List Object) (o : Object) → object_of n (changed k tighten os) ≡ Some o → (x : Object) × (object_of n os ≡ Some x) × (x.class ≡ o.class) × (x.level ≡ o.level)
found-loose k n [] o e = cc
found-loose k n (x ∷ os) o e = by (is_numbered k x) (is_numbered n x) refl e (found-loose k n os o)
  where
    Found : List Object → Type 0
    Found w = (x : Object) × (object_of n w ≡ Some x) × (x.class ≡ o.class) × (x.level ≡ o.level)

    later : is_numbered n x ≡ false → Found os → Found (x ∷ os)
    later is f = (f.0, ap (λ b. cond b (Some x) (object_of n os)) is ∙ f.1, f.2, f.3)

    here : is_numbered n x ≡ true → x.class ≡ o.class → x.level ≡ o.level → Found (x ∷ os)
    here is c l = (x, ap (λ b. cond b (Some x) (object_of n os)) is, c, l)

    by : (a b : Bool) → is_numbered n x ≡ b → object_of n (cond a (tighten x ∷ os) (x ∷ changed k tighten os)) ≡ Some o → (object_of n (changed k tighten os) ≡ Some o → Found os) → Found (x ∷ os)
    by true true is e rest =
        let same : tighten x ≡ o = (let f : object_of n (tighten x ∷ os) ≡ Some (tighten x) = ap (λ b. cond b (Some (tighten x)) (object_of n os)) is in cc) in
        here is (ap (λ (y : Object). y.class) same) (ap (λ (y : Object). y.level) same)
    by true false is e rest = later is (o, sym (ap (λ b. cond b (Some (tighten x)) (object_of n os)) is) ∙ e, refl, refl)
    by false true is e rest =
        let same : x ≡ o = (let f : object_of n (x ∷ changed k tighten os) ≡ Some x = ap (λ b. cond b (Some x) (object_of n (changed k tighten os))) is in cc) in
        here is (ap (λ (y : Object). y.class) same) (ap (λ (y : Object). y.level) same)
    by false false is e rest = later is (rest (sym (ap (λ b. cond b (Some x) (object_of n (changed k tighten os))) is) ∙ e))

was-there : (m : Memory) (v : Val) (n : ℕ) (o : Object) → object_of n (held_for v m).objects ≡ Some o → WasThere m n o
unfolding edited
was-there m (Data v) n o e = record { was = o; found = e; class = refl; level = refl }
was-there m (Ref k class) n o e = let f = found-loose k n m.objects o e in record { was = f.0; found = f.1; class = f.2; level = f.3 }

-- ---- sets

plain_set : (classes : List Class) (o : Object) (at : ℕ) (k : Kind) (st : Standing) → IsNoOneSide k → prop_set classes o at k st ≡ stood o.number at (λ s. s) st
plain_set classes o at kind.Text st h = refl
plain_set classes o at kind.Whole st h = refl
plain_set classes o at kind.Truth st h = refl
plain_set classes o at (kind.Ref c) st h = refl
plain_set classes o at (kind.Serial c) st h = refl
plain_set classes o at (kind.ListOf i) st h = refl
plain_set classes o at (kind.ArrayOf i) st h = refl
plain_set classes o at (kind.Many c side) st h = refl
plain_set classes o at (kind.One c side) st h = absurd h

module _ (classes : List Class) (s : Known Memory) (v : Val) where
  abbrev held : Memory
  held = held_for v s.memory

  form_set : (o : Object) (at : ℕ) (k : Kind) (f : Option Form) (new : Memory) → IsNoOneSide k → IsLegalFill held (fill_with v) → FormSets classes held o.number at o.level f (fill_with v) new
      → writes_form classes o at k f v s ≡ Give (with_memory new s, answer.Done)
  form_set o at k None new other legal h = absurd h
  form_set o at k (Some (single i)) new other legal h =
      ap (λ b. writes_standing classes o at k i (cond b (Some (standing classes held o.level i (fill_with v))) None) s) ((takes_by_rules classes held i (fill_with v)).1 (h.0, legal-as held i (fill_with v) legal))
      ∙ ap (λ m. Give (with_memory m s, answer.Done)) (plain_set classes o at k (standing classes held o.level i (fill_with v)) other ∙ sym h.1)
  form_set o at k (Some (listed i)) new other legal h = absurd h
  form_set o at k (Some (keyed i)) new other legal h = absurd h

  form_refused : (o : Object) (at : ℕ) (k : Kind) (f : Option Form) (e : ErrorName) → FormRefuses classes held f (fill_with v) e → writes_form classes o at k f v s ≡ Give (s, answer.Error e)
  form_refused o at k None e h = ap (λ x. errs s x) (sym h)
  form_refused o at k (Some (single i)) e h = by (takes classes held i (fill_with v)) refl
    where
      by : (b : Bool) → takes classes held i (fill_with v) ≡ b → writes_standing classes o at k i (cond b (Some (standing classes held o.level i (fill_with v))) None) s ≡ Give (s, answer.Error e)
      by true is = absurd (h.0 ((takes_by_rules classes held i (fill_with v)).0 is).0)
      by false is = ap (λ x. errs s x) (sym h.1)
  form_refused o at k (Some (listed i)) e h = ap (λ x. errs s x) (sym h)
  form_refused o at k (Some (keyed i)) e h = ap (λ x. errs s x) (sym h)

  prop_refused : (o : Object) (at : ℕ) (p : Option Prop) (e : ErrorName) → PlaceRefuses classes held p (fill_with v) e → writes_prop classes o at p v s ≡ Give (s, answer.Error e)
  prop_refused o at None e h = ap (λ x. errs s x) (sym h)
  prop_refused o at (Some p) e h = form_refused o at p.kind (form_of p.kind) e h

  place_refused : (o : Object) (at : Option ℕ) (e : ErrorName) → PlaceRefuses classes held (prop_at (props_at classes o.class) at) (fill_with v) e → writes_place classes o at v s ≡ Give (s, answer.Error e)
  place_refused o None e h = ap (λ x. errs s x) (sym h)
  place_refused o (Some at) e h = prop_refused o at (slice_get (props_at classes o.class) at) e h

  set_there : (n : ℕ) (name : Name) (new : Memory) → NamesNoOneSide classes s.memory n name → IsLegalFill held (fill_with v) → (o : Object) (at : ℕ) (p : Prop) → prop_place name (props_at classes o.class) ≡ Some at
      → slice_get (props_at classes o.class) at ≡ Some p → FormSets classes held n at o.level (form_of p.kind) (fill_with v) new → WasThere s.memory n o
      → writes_of classes name v (object_of n s.memory.objects) s ≡ Give (with_memory new s, answer.Done)
  set_there n name new plain legal o at p place there sets was =
      let number : was.was.number ≡ n = object-number n s.memory.objects was.was was.found in
      let place_was : prop_place name (props_at classes was.was.class) ≡ Some at = subst (λ c. prop_place name (props_at classes c) ≡ Some at) (sym was.class) place in
      let there_was : slice_get (props_at classes was.was.class) at ≡ Some p = subst (λ c. slice_get (props_at classes c) at ≡ Some p) (sym was.class) there in
      let sets_n : FormSets classes held was.was.number at o.level (form_of p.kind) (fill_with v) new = subst (λ k. FormSets classes held k at o.level (form_of p.kind) (fill_with v) new) (sym number) sets in
      let sets_was : FormSets classes held was.was.number at was.was.level (form_of p.kind) (fill_with v) new =
      subst (λ l. FormSets classes held was.was.number at l (form_of p.kind) (fill_with v) new) (sym was.level) sets_n in
      ap (λ x. writes_of classes name v x s) was.found ∙ ap (λ x. writes_place classes was.was x v s) place_was ∙ ap (λ x. writes_prop classes was.was at x v s) there_was
      ∙ form_set was.was at p.kind (form_of p.kind) new (plain was.was at p was.found place_was there_was) legal sets_was

  refused_there : (n : ℕ) (name : Name) (e : ErrorName) (o : Object) → PlaceRefuses classes held (named_prop classes o name) (fill_with v) e → WasThere s.memory n o
      → writes_of classes name v (object_of n s.memory.objects) s ≡ Give (s, answer.Error e)
  refused_there n name e o h was =
      ap (λ x. writes_of classes name v x s) was.found
      ∙ place_refused was.was (prop_place name (props_at classes was.was.class)) e
      (subst (λ c. PlaceRefuses classes held (prop_at (props_at classes c) (prop_place name (props_at classes c))) (fill_with v) e) (sym was.class) h)

pub sets_by_rules : SetsByTheRules
unfolding write_prop
sets_by_rules classes s n name v new plain legal h = set_there classes s v n name new plain legal h.0 h.1 h.2 h.4 h.5 h.6 (was-there s.memory v n h.0 h.3)

pub refuses_by_rules : RefusesByTheRules
unfolding write_prop
refuses_by_rules classes s n name v e h = refused_there classes s v n name e h.0 h.2 (was-there s.memory v n h.0 h.1)
