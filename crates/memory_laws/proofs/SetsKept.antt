-- Sets of elements keep the memory: of properties of one element, and of lists and arrays.
use Rattle.std.proofs.Common.{◌≡◌, ◌≤◌, ℕ, List, [], ◌∷◌, ◌++◌, Option, None, Some, slice_get, refl, ap, sym, subst, ◌∙◌, arith}
use Rattle.std.specs.Option.{IsSomeAnd}
use Rattle.obj_kinds.specs.declared.name.ClassName.{ClassName}
use Rattle.obj_kinds.specs.declared.value.Value.{Value}
use Rattle.obj_kinds.specs.declared.value.Value.TheVariants as value
use Rattle.obj_kinds.specs.declared.value.Value.TheOpen.{Value-F}
use Rattle.obj_kinds.specs.declared.value.Value.TheViews.{out-Value}
use Rattle.schema_kinds.specs.declared.class.Class.{Class}
use Rattle.schema_kinds.specs.declared.prop.Prop.{Prop}
use Rattle.schema_kinds.specs.declared.kind.Kind.{Kind}
use Rattle.schema_kinds.specs.declared.kind.Kind.TheVariants as kind
use Rattle.schema_kinds.specs.declared.kind.Item.{Item}
use Rattle.schema_kinds.specs.declared.kind.Item.TheVariants as of
use Rattle.schema_kinds.specs.Classes.{class_of, props_of}
use Rattle.record_layout.specs.Shapes.{Form, single, listed, keyed, form_of}
use Rattle.record_layout.proofs.ItemLaws.{str-out}
use Rattle.oref_table.specs.declared.oref.Held.{Held}
use Rattle.oref_table.specs.declared.oref.Oref.{Oref}
use Rattle.oref_table.specs.declared.slot.Slot.{Slot}
use Rattle.oref_table.specs.declared.slot.Slot.TheVariants.{Plain, Target, To, rolls-Plain, rolls-Target, rolls-To}
use Rattle.oref_table.specs.declared.slot.Slot.TheOpen.{Slot-F}
use Rattle.oref_table.specs.declared.slot.Slot.TheViews.{out-Slot, out-roll-Slot}
use Rattle.oref_table.specs.declared.fill.Fill.{Fill}
use Rattle.oref_table.specs.declared.fill.Fill.TheVariants as fill
use Rattle.oref_table.specs.Memory.{Object, Memory, object_of}
use Rattle.oref_table.specs.Filling.{slot_from, passed}
use Rattle.oref_table.proofs.Lowered.{times-append}
use Rattle.obj_shape.specs.Elements.{IsPlain}
use Rattle.obj_shape.specs.Fitting.{IsElement, IsOfKind}
use Rattle.obj_shape.specs.Wholeness.{IsWhole}
use Rattle.obj_shape.specs.Records.{slots_at, slots_part}
use Rattle.obj_shape.proofs.FitLaws.{fits-at}
use Rattle.part_copies.specs.Copies.{copy_part, with_copies}
use Rattle.part_copies.specs.Making.{copy_of}
use Rattle.part_copies.proofs.NewLaws.{found-front}
use Rattle.prop_setting.proofs.CopyLaws.{stands-live}
use Rattle.prop_setting.specs.Elements.{oref_text, slot_set, given_back, Standing, IsText, ValueTakes, ObjectTakes, Takes, value_standing, reference_standing, copy_standing, part_standing, standing, stood}
use Rattle.prop_setting.specs.Sets.{FormSets}
use Rattle.memory_laws.specs.Kept.{IsGood, Keeps}
use Rattle.object_members.specs.SetLaws.{IsLegalIfText, IsLegalFill, IsLegalAs}
use Rattle.object_members.proofs.StandLaws.{legal-as}
use Rattle.memory_laws.specs.Sets.{HasAllOf, IsShapeFor, ElementsKeep, SetsKeep}
use Rattle.memory_laws.proofs.Keeping.{slot-keeps, less-keeps}
use Rattle.memory_laws.proofs.PartsKept.{copied-keeps, copy-there}

legal-text : (x : Value-F Value) → IsText x → IsLegalIfText x → IsPlain x
legal-text (Value-F.Str text) is legal = legal
legal-text (Value-F.List vs) is legal = absurd is

-- ---- one after the other

pub keeps-then : (classes : List Class) (m w x : Memory) (a b : List ℕ) → Keeps classes m w [] a → Keeps classes w x [] b → Keeps classes m x [] (a ++ b)
keeps-then classes m w x a b h k = record { good = k.good; holds = λ n. omega (arith, h.holds n, k.holds n, times-append n a b) }

-- ---- what stands in a slot is seen in it

pub plain-out : (v : Value) → out-Slot (Plain v) ≡ Slot-F.Plain v
plain-out v = ap out-Slot (sym (rolls-Plain v)) ∙ out-roll-Slot (Slot-F.Plain v)

pub target-out : (id : Option (List ℕ)) → out-Slot (Target id) ≡ Slot-F.Target id
target-out id = ap out-Slot (sym (rolls-Target id)) ∙ out-roll-Slot (Slot-F.Target id)

pub to-out : (o : Oref) → out-Slot (To o) ≡ Slot-F.To o
to-out o = ap out-Slot (sym (rolls-To o)) ∙ out-roll-Slot (Slot-F.To o)

-- a property of one element takes what the element takes
single-kind : (classes : List Class) (m : Memory) (kd : Kind) (i : Item) (s : Slot) → form_of kd ≡ Some (single i) → IsElement classes m i (out-Slot s) → IsOfKind classes m kd (out-Slot s)
single-kind classes m kind.Text i s e h = let same : of.Text ≡ i = cc in subst (λ j. IsElement classes m j (out-Slot s)) (sym same) h
single-kind classes m kind.Whole i s e h = let same : of.Whole ≡ i = cc in subst (λ j. IsElement classes m j (out-Slot s)) (sym same) h
single-kind classes m kind.Truth i s e h = let same : of.Truth ≡ i = cc in subst (λ j. IsElement classes m j (out-Slot s)) (sym same) h
single-kind classes m (kind.Ref c) i s e h = let same : of.Ref c ≡ i = cc in subst (λ j. IsElement classes m j (out-Slot s)) (sym same) h
single-kind classes m (kind.Serial c) i s e h = let same : of.Serial c ≡ i = cc in subst (λ j. IsElement classes m j (out-Slot s)) (sym same) h
single-kind classes m (kind.One c side) i s e h = let same : of.Ref c ≡ i = cc in subst (λ j. IsElement classes m j (out-Slot s)) (sym same) h
single-kind classes m (kind.ListOf j) i s e h = cc
single-kind classes m (kind.ArrayOf j) i s e h = cc
single-kind classes m (kind.Many c side) i s e h = cc

-- the copies that a set takes are those of the object
pub same-copies : (classes : List Class) (m : Memory) (level : ℕ) (c : ClassName) (n : ℕ) (q : Object) → object_of n m.objects ≡ Some q → q.class ≡ c → copy_of classes m level q ≡ copy_part 4 classes m level c (slots_at m n) m.last
same-copies classes m level c n q e is = ap (λ d. copy_part 4 classes m level d q.slots m.last) is ∙ ap (λ ss. copy_part 4 classes m level c ss m.last) (sym (ap slots_part e))

module _ (classes : List Class) (m : Memory) (whole : IsWhole classes) (good : IsGood classes m) (o : Object) (live : object_of o.number m.objects ≡ Some o) (at : ℕ) (p : Prop) (there : slice_get (props_of (class_of classes o.class)) at ≡ Some p) where
  module _ (shape : Slot → Slot) where
    abbrev left : Standing → Memory
    left st = stood o.number at shape st

    module _ (i : Item) (fits : IsShapeFor classes m p i shape) where
      -- it stands there, and these holds pass into the slot
      put : (slot : Slot) (holds : List ℕ) → IsElement classes m i (out-Slot slot) → Keeps classes m (slot_set m o.number at (shape slot) holds) [] holds
      put slot holds h = slot-keeps classes m good o at p (shape slot) holds live there (fits m slot (λ n q e. e) h)

      -- a value; the hold on an object that is a text goes
      by_value : ((v : Value) → IsPlain (out-Value v) → IsElement classes m i (Slot-F.Plain v)) → (w : Fill) → IsLegalFill m w → ValueTakes w → Keeps classes m (left (value_standing m w)) [] (passed w)
      unfolding passed slot_from given_back
      by_value takes (fill.Plain v) legal h = put (Plain v) [] (subst (IsElement classes m i) (sym (plain-out v)) (takes v (legal-text (out-Value v) h legal)))
      by_value takes (fill.To a) legal h =
          let text : Value = value.Str (oref_text m a.number) in
          let plain : IsPlain (out-Value text) = subst IsPlain (sym (str-out (oref_text m a.number))) legal in
          let first = put (Plain text) [] (subst (IsElement classes m i) (sym (plain-out text)) (takes text plain)) in
          keeps-then classes m (slot_set m o.number at (shape (Plain text)) []) _ [] (a.number ∷ []) first (less-keeps classes (slot_set m o.number at (shape (Plain text)) []) first.good a.number)
      by_value takes (fill.Target id) legal h = absurd h
      by_value takes fill.Nothing legal h = absurd h

    by_reference : (c : ClassName) → IsShapeFor classes m p (of.Ref c) shape → (w : Fill) → ObjectTakes classes m (of.Ref c) w → Keeps classes m (left (reference_standing m w)) [] (passed w)
    unfolding passed slot_from given_back
    by_reference c fits (fill.Plain v) h = put (of.Ref c) fits (Target None) [] (subst (IsElement classes m (of.Ref c)) (sym (target-out None)) tt)
    by_reference c fits (fill.To a) h = put (of.Ref c) fits (To (record { 0 = a.number })) (a.number ∷ []) (subst (IsElement classes m (of.Ref c)) (sym (to-out (record { 0 = a.number }))) h)
    by_reference c fits (fill.Target id) h = absurd h
    by_reference c fits fill.Nothing h = absurd h

    -- a copy of a part stands in the slot, and then the hold on the part goes
    by_copy : (c : ClassName) → IsShapeFor classes m p (of.Serial c) shape → (a : Held) (q : Object) → object_of a.number m.objects ≡ Some q → q.class ≡ c
        → Keeps classes m (left (copy_standing m (copy_of classes m o.level q) a)) [] (a.number ∷ [])
    unfolding passed slot_from given_back
    by_copy c fits a q at_q is =
        let few : o.level ≤ 4 = (fits-at classes m o.number o good.fits live).level in
        let first = copied-keeps classes m o.level a.number q whole few good at_q in
        let w : Memory = with_copies m (copy_of classes m o.level q) in
        let copy : ℕ = (copy_of classes m o.level q).copy in
        let slot : Slot = To (record { 0 = copy }) in
        let all : HasAllOf m w = (λ n x e. found-front n m.objects _ x e) in
        let named : IsElement classes w (of.Serial c) (out-Slot slot) =
        subst (IsElement classes w (of.Serial c)) (sym (to-out (record { 0 = copy }))) (subst (λ d. IsSomeAnd (object_of copy w.objects) (λ t. t.class ≡ d)) is (copy-there classes m o.level a.number q whole few good at_q)) in
        let second = slot-keeps classes w first.good o at p (shape slot) (copy ∷ []) (all o.number o live) there (fits w slot all named) in
        let third = less-keeps classes (slot_set w o.number at (shape slot) (copy ∷ [])) second.good a.number in
        record { good = third.good; holds = λ k. omega (arith, first.holds k, second.holds k, third.holds k) }

    by_part : (c : ClassName) → IsShapeFor classes m p (of.Serial c) shape → (w : Fill) → ObjectTakes classes m (of.Serial c) w → Keeps classes m (left (part_standing classes m o.level c w)) [] (passed w)
    unfolding passed slot_from given_back
    by_part c fits (fill.Plain v) h = put (of.Serial c) fits (Target None) [] (subst (IsElement classes m (of.Serial c)) (sym (target-out None)) refl)
    by_part c fits (fill.To a) h =
        let q = stands-live classes m c a.number h in
        subst (λ copies. Keeps classes m (left (copy_standing m copies a)) [] (a.number ∷ [])) (same-copies classes m o.level c a.number q.0 q.1 q.2) (by_copy c fits a q.0 q.1 q.2)
    by_part c fits (fill.Target id) h = absurd h
    by_part c fits fill.Nothing h = absurd h

    pub by_element : (i : Item) → IsShapeFor classes m p i shape → (w : Fill) → IsLegalAs m i w → Takes classes m i w → Keeps classes m (left (standing classes m o.level i w)) [] (passed w)
    by_element of.Text fits w legal h = by_value of.Text fits (λ v e. e) w legal h
    by_element of.Whole fits w legal h = by_value of.Whole fits (λ v e. e) w legal h
    by_element of.Truth fits w legal h = by_value of.Truth fits (λ v e. e) w legal h
    by_element (of.Ref c) fits w legal h = by_reference c fits w h
    by_element (of.Serial c) fits w legal h = by_part c fits w h

  -- a property of one element is the element alone
  by_single : (i : Item) → form_of p.kind ≡ Some (single i) → (w : Fill) → IsLegalAs m i w → Takes classes m i w → Keeps classes m (stood o.number at (λ s. s) (standing classes m o.level i w)) [] (passed w)
  by_single i form w legal h = by_element (λ s. s) i (λ x t all e. single-kind classes x p.kind i t form e) w legal h

  by_form : (f : Option Form) → form_of p.kind ≡ f → (w : Fill) (new : Memory) → IsLegalFill m w → FormSets classes m o.number at o.level f w new → Keeps classes m new [] (passed w)
  by_form None form w new legal h = absurd h
  by_form (Some (listed i)) form w new legal h = absurd h
  by_form (Some (keyed i)) form w new legal h = absurd h
  by_form (Some (single i)) form w new legal h = subst (λ x. Keeps classes m x [] (passed w)) (sym h.1) (by_single i form w (legal-as m i w legal) h.0)

pub elements_keep : ElementsKeep
elements_keep classes m o at p i shape w whole good live there fits legal h = by_element classes m whole good o live at p there shape i fits w legal h

pub single_keeps : (classes : List Class) (m : Memory) (o : Object) (at : ℕ) (p : Prop) (i : Item) (w : Fill) → IsWhole classes → IsGood classes m → object_of o.number m.objects ≡ Some o
    → slice_get (props_of (class_of classes o.class)) at ≡ Some p → form_of p.kind ≡ Some (single i) → IsLegalAs m i w → Takes classes m i w
    → Keeps classes m (stood o.number at (λ s. s) (standing classes m o.level i w)) [] (passed w)
single_keeps classes m o at p i w whole good live there form legal h = by_single classes m whole good o live at p there i form w legal h

pub sets_keep : SetsKeep
sets_keep classes m o at p w new whole good live there legal h = by_form classes m whole good o live at p there (form_of p.kind) refl w new legal h
