-- A set that a process asks for is done or refused, and keeps memory.
use Rattle.std.proofs.Common.{◌≡◌, ℕ, ◌+◌, ◌-◌, ◌==◌, is_some, cond, Bool, true, false, List, [], ◌∷◌, ◌⊎◌, inl, inr, Option, None, Some, slice_get, refl, ap, sym, subst, ◌∙◌, arith}
use Rattle.std.proofs.lemmas.Bool.{eqb-true}
use Rattle.obj_kinds.specs.declared.name.ClassName.{ClassName}
use Rattle.schema_kinds.specs.declared.class.Class.{Class}
use Rattle.schema_kinds.specs.declared.prop.Prop.{Prop}
use Rattle.schema_kinds.specs.declared.kind.Kind.{Kind}
use Rattle.schema_kinds.specs.declared.kind.Kind.TheVariants as kind
use Rattle.schema_kinds.specs.declared.kind.Item.{Item}
use Rattle.schema_kinds.specs.declared.kind.Item.TheVariants as of
use Rattle.schema_kinds.specs.Classes.{class_of, props_of}
use Rattle.record_layout.specs.Shapes.{Form, single, listed, keyed, form_of}
use Rattle.os_kinds.specs.declared.val.Val.{Val}
use Rattle.os_kinds.specs.declared.val.Val.TheVariants.{Data, Ref}
use Rattle.os_kinds.specs.declared.call.Answer.{Answer}
use Rattle.os_kinds.specs.declared.call.Answer.TheVariants as answer
use Rattle.obj_kinds.specs.declared.error_name.ErrorName.{ErrorName}
use Rattle.obj_kinds.specs.declared.error_name.ErrorName.TheVariants as error
use Rattle.os_meaning.specs.Syntax.{Name}
use Rattle.oref_table.specs.declared.slot.Slot.{Slot}
use Rattle.oref_table.specs.declared.slot.Slot.TheVariants.{Target, To}
use Rattle.oref_table.specs.declared.fill.Fill.{Fill}
use Rattle.oref_table.specs.declared.fill.Fill.TheVariants as fill
use Rattle.oref_table.specs.Refs.{times}
use Rattle.oref_table.specs.Memory.{Object, Memory, object_of, outside_of, outside_part, is_numbered, changed, edited, tighten}
use Rattle.oref_table.proofs.OutsideLaws.{held-holds}
use Rattle.oref_table.specs.Filling.{slot_from, passed}
use Rattle.obj_shape.specs.Fitting.{IsOfKind, IsSlotOf}
use Rattle.obj_shape.specs.Wholeness.{IsWhole}
use Rattle.obj_props.specs.Properties.{prop_place}
use Rattle.prop_setting.specs.Elements.{Standing, ObjectTakes, Takes, reference_standing, standing, stood, given_back, error_of}
use Rattle.oref_table.specs.declared.slot.Slot.TheViews.{out-Slot}
use Rattle.store_calls.specs.Calls.{Call, Give}
use Rattle.host_meaning.specs.Objects.{Known}
use Rattle.object_members.specs.Seeing.{props_at}
use Rattle.object_members.specs.Ends.{with_memory}
use Rattle.object_members.specs.Standing.{fill_with, held_for, takes}
use Rattle.object_members.specs.Writes.{one_side_set, prop_set, writes_standing, writes_form, writes_prop, writes_place, writes_of, write_prop}
use Rattle.object_members.proofs.StandLaws.{takes_by_rules}
use Rattle.memory_laws.specs.Kept.{IsGood, Keeps}
use Rattle.object_members.specs.SetLaws.{IsLegalAs}
use Rattle.memory_laws.specs.Sets.{IsInverse}
use Rattle.memory_laws.specs.Writes.{HasInverse, IsSettable, set_at, IsDone, IsRefused, WritesCome, WritesKeep}
use Rattle.memory_laws.proofs.Keeping.{tight-good}
use Rattle.memory_laws.proofs.SetsKept.{target-out, to-out, single_keeps}
use Rattle.memory_laws.proofs.SidesKept.{one_sides_keep}

-- ---- the object that is set, with the hold that the frame has

found-tight : (k n : ℕ) (os : List Object) (o : Object) → object_of n os ≡ Some o → (object_of n (changed k tighten os) ≡ Some o) ⊎ (object_of n (changed k tighten os) ≡ Some (tighten o))
found-tight k n [] o e = cc
found-tight k n (x ∷ os) o e = by (is_numbered k x) (is_numbered n x) refl e (found-tight k n os o)
  where
    Found : List Object → Type 0
    Found w = (object_of n w ≡ Some o) ⊎ (object_of n w ≡ Some (tighten o))

    first : is_numbered n x ≡ true → x ≡ o → (w : List Object) → object_of n (x ∷ w) ≡ Some o
    first is same w = ap (λ b. cond b (Some x) (object_of n w)) is ∙ ap Some same

    later : is_numbered n x ≡ false → (w : List Object) → Found w → Found (x ∷ w)
    later is w (inl f) = inl (ap (λ b. cond b (Some x) (object_of n w)) is ∙ f)
    later is w (inr f) = inr (ap (λ b. cond b (Some x) (object_of n w)) is ∙ f)

    by : (a b : Bool) → is_numbered n x ≡ b → cond b (Some x) (object_of n os) ≡ Some o → (object_of n os ≡ Some o → Found (changed k tighten os)) → Found (cond a (tighten x ∷ os) (x ∷ changed k tighten os))
    by true true is e rest = let same : x ≡ o = cc in inr (ap (λ b. cond b (Some (tighten x)) (object_of n os)) is ∙ ap (λ y. Some (tighten y)) same)
    by true false is e rest = inl (ap (λ b. cond b (Some (tighten x)) (object_of n os)) is ∙ e)
    by false true is e rest = let same : x ≡ o = cc in inl (first is same (changed k tighten os))
    by false false is e rest = later is (changed k tighten os) (rest e)

pub found-held : (m : Memory) (v : Val) (n : ℕ) (o : Object) → object_of n m.objects ≡ Some o → (object_of n (held_for v m).objects ≡ Some o) ⊎ (object_of n (held_for v m).objects ≡ Some (tighten o))
unfolding edited
found-held m (Data v) n o e = inl e
found-held m (Ref k class) n o e = found-tight k n m.objects o e

pub numbered : (n : ℕ) (os : List Object) (o : Object) → object_of n os ≡ Some o → o.number ≡ n
numbered n [] o e = cc
numbered n (x ∷ os) o e = by (is_numbered n x) refl e (numbered n os o)
  where
    by : (b : Bool) → is_numbered n x ≡ b → cond b (Some x) (object_of n os) ≡ Some o → (object_of n os ≡ Some o → o.number ≡ n) → o.number ≡ n
    by true is e rest = let same : x ≡ o = cc in ap (λ (y : Object). y.number) (sym same) ∙ eqb-true x.number n is
    by false is e rest = rest e

-- an object that isn't there is not changed
absent-same : (n : ℕ) (f : Object → Object) (os : List Object) → object_of n os ≡ None → changed n f os ≡ os
absent-same n f [] e = refl
absent-same n f (x ∷ os) e = by (is_numbered n x) e (absent-same n f os)
  where
    by : (b : Bool) → cond b (Some x) (object_of n os) ≡ None → (object_of n os ≡ None → changed n f os ≡ os) → cond b (f x ∷ os) (x ∷ changed n f os) ≡ x ∷ os
    by true e rest = cc
    by false e rest = ap (λ w. x ∷ w) (rest e)

edited-absent : (m : Memory) (n : ℕ) (f : Object → Object) → object_of n m.objects ≡ None → edited m n f ≡ m
unfolding edited
edited-absent m n f e = ap (λ os. record m { objects = os }) (absent-same n f m.objects e)

outside-absent : (m : Memory) (n : ℕ) → object_of n m.objects ≡ None → outside_of m n ≡ 0
unfolding outside_of
outside-absent m n e = ap outside_part e

not-among : (j n : ℕ) → (j == n) ≡ false → times j (n ∷ []) ≡ 0
not-among j n e = ap (λ b. cond b 1 0 + 0) e

-- a hold more and one less of an object, live or not
hold-back : (m : Memory) (n j : ℕ) → outside_of (edited m n tighten) j - times j (n ∷ []) ≡ outside_of m j
hold-back m n j = by (object_of n m.objects) refl
  where
    still : object_of n m.objects ≡ None → (b : Bool) → (j == n) ≡ b → outside_of m j - times j (n ∷ []) ≡ outside_of m j
    still e true f = omega (arith, subst (λ k. outside_of m k ≡ 0) (sym (eqb-true j n f)) (outside-absent m n e))
    still e false f = omega (arith, not-among j n f)

    by : (x : Option Object) → object_of n m.objects ≡ x → outside_of (edited m n tighten) j - times j (n ∷ []) ≡ outside_of m j
    by (Some o) e = omega (arith, held-holds m n (ap is_some e) j)
    by None e = subst (λ (w : Memory). outside_of w j - times j (n ∷ []) ≡ outside_of m j) (sym (edited-absent m n tighten e)) (still e (j == n) refl)

-- ---- one property

module _ (classes : List Class) (m : Memory) (whole : IsWhole classes) (good : IsGood classes m) (o : Object) (live : object_of o.number m.objects ≡ Some o) (at : ℕ) (p : Prop) (there : slice_get (props_of (class_of classes o.class)) at ≡ Some p) (w : Fill) where
  one_side : (c : ClassName) (side : List ℕ) → p.kind ≡ kind.One c side → IsInverse classes c side o.class → ObjectTakes classes m (of.Ref c) w
      → Keeps classes m (prop_set classes o at (kind.One c side) (reference_standing m w)) [] (passed w)
  unfolding passed slot_from given_back
  one_side c side is inverse h = by w h
    where
      fits : (slot : Slot) → IsOfKind classes m (kind.One c side) (out-Slot slot) → IsSlotOf classes m p slot
      fits slot h = subst (λ k. IsOfKind classes m k (out-Slot slot)) (sym is) h

      by : (w : Fill) → ObjectTakes classes m (of.Ref c) w → Keeps classes m (prop_set classes o at (kind.One c side) (reference_standing m w)) [] (passed w)
      by (fill.Plain v) h = one_sides_keep classes m o at p c side (Target None) [] good live there is inverse (fits (Target None) (subst (IsOfKind classes m (kind.One c side)) (sym (target-out None)) tt))
      by (fill.To a) h =
          one_sides_keep classes m o at p c side (To (record { 0 = a.number })) (a.number ∷ []) good live there is inverse
          (fits (To (record { 0 = a.number })) (subst (IsOfKind classes m (kind.One c side)) (sym (to-out (record { 0 = a.number }))) h))
      by (fill.Target id) h = absurd h
      by fill.Nothing h = absurd h

  module _ (i : Item) (legal : IsLegalAs m i w) (h : Takes classes m i w) where
    -- the rules of sets leave this
    by_rules : form_of p.kind ≡ Some (single i) → Keeps classes m (stood o.number at (λ s. s) (standing classes m o.level i w)) [] (passed w)
    by_rules form = single_keeps classes m o at p i w whole good live there form legal h

    by_kind : (kd : Kind) → p.kind ≡ kd → HasInverse classes o.class kd → form_of kd ≡ Some (single i) → Keeps classes m (prop_set classes o at kd (standing classes m o.level i w)) [] (passed w)
    by_kind (kind.One c side) is inverse form =
        let same : of.Ref c ≡ i = cc in
        subst (λ j. Keeps classes m (prop_set classes o at (kind.One c side) (standing classes m o.level j w)) [] (passed w)) same (one_side c side is inverse (subst (λ j. Takes classes m j w) (sym same) h))
    by_kind kind.Text is inverse form = by_rules (ap form_of is ∙ form)
    by_kind kind.Whole is inverse form = by_rules (ap form_of is ∙ form)
    by_kind kind.Truth is inverse form = by_rules (ap form_of is ∙ form)
    by_kind (kind.Ref c) is inverse form = by_rules (ap form_of is ∙ form)
    by_kind (kind.Serial c) is inverse form = by_rules (ap form_of is ∙ form)
    by_kind (kind.ListOf j) is inverse form = cc
    by_kind (kind.ArrayOf j) is inverse form = cc
    by_kind (kind.Many c side) is inverse form = cc

-- ---- the call is done or refused

module _ (classes : List Class) (s : Known Memory) (n : ℕ) (name : Name) (v : Val) where
  abbrev Came : Type 0
  Came = IsDone classes s n name v ⊎ IsRefused classes s n name v

  refused : (e : ErrorName) → write_prop classes n name v s ≡ Give (s, answer.Error e) → Came
  refused e h = inr (e, h)

  module _ (o : Object) (found : object_of n s.memory.objects ≡ Some o) (at : ℕ) (place : prop_place name (props_at classes o.class) ≡ Some at) (p : Prop) (there : slice_get (props_at classes o.class) at ≡ Some p)
      (to_form : write_prop classes n name v s ≡ writes_form classes o at p.kind (form_of p.kind) v s) where
    on_standing : (i : Item) → form_of p.kind ≡ Some (single i) → (b : Bool) → takes classes (held_for v s.memory) i (fill_with v) ≡ b
        → write_prop classes n name v s ≡ writes_standing classes o at p.kind i (cond b (Some (standing classes (held_for v s.memory) o.level i (fill_with v))) None) s → Came
    on_standing i form false e g = refused (error_of i) g
    on_standing i form true e g = inl (record { object = o; at = at; prop = p; item = i; found = found; place = place; there = there; form = form; takes = e; is = g })

    on_form : (f : Option Form) → form_of p.kind ≡ f → write_prop classes n name v s ≡ writes_form classes o at p.kind f v s → Came
    on_form (Some (single i)) form g = on_standing i form (takes classes (held_for v s.memory) i (fill_with v)) refl g
    on_form None form g = refused error.CannotSetThisProperty g
    on_form (Some (listed i)) form g = refused error.CannotSetThisProperty g
    on_form (Some (keyed i)) form g = refused error.CannotSetThisProperty g

    came : Came
    came = on_form (form_of p.kind) refl to_form

  on_prop : (o : Object) → object_of n s.memory.objects ≡ Some o → (at : ℕ) → prop_place name (props_at classes o.class) ≡ Some at → (p : Option Prop) → slice_get (props_at classes o.class) at ≡ p
      → write_prop classes n name v s ≡ writes_prop classes o at p v s → Came
  on_prop o found at place None there g = refused error.PropertyDoesNotExist g
  on_prop o found at place (Some p) there g = came o found at place p there g

  on_place : (o : Object) → object_of n s.memory.objects ≡ Some o → (x : Option ℕ) → prop_place name (props_at classes o.class) ≡ x → write_prop classes n name v s ≡ writes_place classes o x v s → Came
  on_place o found None place g = refused error.PropertyDoesNotExist g
  on_place o found (Some at) place g = on_prop o found at place (slice_get (props_at classes o.class) at) refl g

  on_object : (x : Option Object) → object_of n s.memory.objects ≡ x → write_prop classes n name v s ≡ writes_of classes name v x s → Came
  on_object None found g = refused error.InvalidOref g
  on_object (Some o) found g = on_place o found (prop_place name (props_at classes o.class)) refl g

pub writes_come : WritesCome
unfolding write_prop
writes_come classes s n name v = on_object classes s n name v (object_of n s.memory.objects) refl refl

-- ---- memory behind it

abbrev pub ended : Known Memory → Answer → Call (Known Memory × Answer)
ended s a = Give (s, a)

abbrev first_of : Known Memory → Call (Known Memory × Answer) → Known Memory
first_of s (Give x) = x.0
first_of s _ = s

pub given-first : (s t : Known Memory) (a b : Answer) → ended s a ≡ ended t b → s ≡ t
given-first s t a b e = ap (first_of s) e

pub same-set : (classes : List Class) (o : Object) (at : ℕ) (kd : Kind) (st : Standing) → prop_set classes (tighten o) at kd st ≡ prop_set classes o at kd st
unfolding one_side_set
same-set classes o at (kind.One c side) st = refl
same-set classes o at kind.Text st = refl
same-set classes o at kind.Whole st = refl
same-set classes o at kind.Truth st = refl
same-set classes o at (kind.Ref c) st = refl
same-set classes o at (kind.Serial c) st = refl
same-set classes o at (kind.ListOf i) st = refl
same-set classes o at (kind.ArrayOf i) st = refl
same-set classes o at (kind.Many c side) st = refl

module _ (classes : List Class) (m : Memory) (v : Val) (good : IsGood classes m) where
  pub good-held : IsGood classes (held_for v m)
  good-held = by v
    where
      by : (w : Val) → IsGood classes (held_for w m)
      by (Data x) = good
      by (Ref k class) = tight-good classes m good k

  -- the hold of the frame, and then what the set takes
  pub both-keep : (w : Memory) → Keeps classes (held_for v m) w [] (passed (fill_with v)) → Keeps classes m w [] []
  unfolding passed
  both-keep w = by v
    where
      by : (x : Val) → Keeps classes (held_for x m) w [] (passed (fill_with x)) → Keeps classes m w [] []
      by (Data x) k = k
      by (Ref n class) k = record { good = k.good; holds = λ j. omega (arith, hold-back m n j, k.holds j) }

module _ (classes : List Class) (s : Known Memory) (n : ℕ) (name : Name) (v : Val) (whole : IsWhole classes) (good : IsGood classes s.memory) (done : IsDone classes s n name v) (settable : IsSettable classes done.object name) where
  abbrev held : Memory
  held = held_for v s.memory

  abbrev o : Object
  o = done.object

  abbrev left : Memory
  left = set_at classes s done.object done.at done.prop done.item v

  both-taken : Takes classes held done.item (fill_with v) × IsLegalAs held done.item (fill_with v)
  both-taken = (takes_by_rules classes held done.item (fill_with v)).0 done.takes

  set-keeps : (q : Object) → object_of q.number held.objects ≡ Some q → q.class ≡ o.class → q.level ≡ o.level → prop_set classes q done.at done.prop.kind (standing classes held q.level done.item (fill_with v)) ≡ left
      → Keeps classes held left [] (passed (fill_with v))
  set-keeps q live class level same =
      let there : slice_get (props_of (class_of classes q.class)) done.at ≡ Some done.prop = subst (λ c. slice_get (props_of (class_of classes c)) done.at ≡ Some done.prop) (sym class) done.there in
      let inverse : HasInverse classes q.class done.prop.kind = subst (λ c. HasInverse classes c done.prop.kind) (sym class) (settable done.at done.prop done.place done.there) in
      subst (λ w. Keeps classes held w [] (passed (fill_with v))) same
      (by_kind classes held whole (good-held classes s.memory v good) q live done.at done.prop there (fill_with v) done.item both-taken.1 both-taken.0 done.prop.kind refl inverse done.form)

  done-keeps : Keeps classes s.memory left [] []
  done-keeps = both-keep classes s.memory v good left (by (found-held s.memory v n o done.found))
    where
      number : o.number ≡ n
      number = numbered n s.memory.objects o done.found

      by : (object_of n held.objects ≡ Some o) ⊎ (object_of n held.objects ≡ Some (tighten o)) → Keeps classes held left [] (passed (fill_with v))
      by (inl e) = set-keeps o (subst (λ k. object_of k held.objects ≡ Some o) (sym number) e) refl refl refl
      by (inr e) = set-keeps (tighten o) (subst (λ k. object_of k held.objects ≡ Some (tighten o)) (sym number) e) refl refl (same-set classes o done.at done.prop.kind (standing classes held o.level done.item (fill_with v)))

pub writes_keep : WritesKeep
writes_keep classes s t n name v a whole good settable g = by (writes_come classes s n name v)
  where
    by : IsDone classes s n name v ⊎ IsRefused classes s n name v → Keeps classes s.memory t.memory [] []
    by (inl done) =
        let left : Known Memory = with_memory (set_at classes s done.object done.at done.prop done.item v) s in
        let same : left ≡ t = given-first left t answer.Done a (sym done.is ∙ g) in
        subst (λ (x : Known Memory). Keeps classes s.memory x.memory [] []) same (done-keeps classes s n name v whole good done (settable done.object done.found))
    by (inr no_set) =
        let same : s ≡ t = given-first s t (answer.Error no_set.0) a (sym no_set.1 ∙ g) in
        subst (λ (x : Known Memory). Keeps classes s.memory x.memory [] []) same (record { good = good; holds = λ n. omega arith })
