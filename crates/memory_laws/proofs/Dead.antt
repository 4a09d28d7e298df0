-- What fits a memory names live objects alone.
use Rattle.std.proofs.Common.{◌≡◌, ℕ, zero, suc, ◌+◌, ◌==◌, cond, Bool, true, false, List, [], ◌∷◌, ◌++◌, Option, None, Some, refl, ap, sym, subst, ◌∙◌, arith}
use Rattle.std.specs.Option.{IsSomeAnd}
use Rattle.std.proofs.lemmas.Bool.{eqb-true}
use Rattle.obj_kinds.specs.declared.name.ClassName.{ClassName}
use Rattle.obj_kinds.specs.declared.sub.Sub.{Sub}
use Rattle.obj_kinds.specs.declared.value.Value.{Value}
use Rattle.schema_kinds.specs.declared.class.Class.{Class}
use Rattle.schema_kinds.specs.declared.prop.Prop.{Prop}
use Rattle.schema_kinds.specs.declared.kind.Kind.{Kind}
use Rattle.schema_kinds.specs.declared.kind.Kind.TheVariants as kind
use Rattle.schema_kinds.specs.declared.kind.Item.{Item}
use Rattle.schema_kinds.specs.declared.kind.Item.TheVariants as of
use Rattle.schema_kinds.specs.Classes.{class_of, props_of, IsBelow}
use Rattle.record_layout.specs.Inverse.{EachGood, AreGood}
use Rattle.record_layout.specs.Shapes.{Form, single, listed, keyed, form_of}
use Rattle.oref_table.specs.declared.oref.Oref.{Oref}
use Rattle.oref_table.specs.declared.slot.Slot.{Slot}
use Rattle.oref_table.specs.declared.slot.Slot.TheVariants.{rolls-Plain, rolls-Target, rolls-To, rolls-Items, rolls-Map, rolls-Members}
use Rattle.oref_table.specs.declared.slot.Slot.TheOpen.{Slot-F}
use Rattle.oref_table.specs.declared.slot.Slot.TheViews.{out-Slot, roll-Slot, roll-out-Slot}
use Rattle.oref_table.specs.Refs.{times, numbers, refs_of, refs_in, refs_of_pairs}
use Rattle.oref_table.specs.Memory.{Object, Memory, object_of}
use Rattle.oref_table.proofs.Lowered.{times-append}
use Rattle.oref_table.proofs.RefLaws.{refs-plain, refs-target, refs-to, refs-items, refs-map, refs-members}
use Rattle.obj_shape.specs.Elements.{IsStored, IsStoredField, IsStoredPart}
use Rattle.obj_shape.specs.Fitting.{NamesObject, IsClassFor, IsElement, IsPair, IsOfForm, IsOfKind, IsSlotOf, FitsSchema}

-- ---- which numbers a slot names

out-plain : (s : Slot) (v : Value) → out-Slot s ≡ Slot-F.Plain v → refs_of s ≡ []
out-plain s v e = ap refs_of (sym (roll-out-Slot s) ∙ ap roll-Slot e ∙ rolls-Plain v) ∙ refs-plain v

out-target : (s : Slot) (id : Option (List ℕ)) → out-Slot s ≡ Slot-F.Target id → refs_of s ≡ []
out-target s id e = ap refs_of (sym (roll-out-Slot s) ∙ ap roll-Slot e ∙ rolls-Target id) ∙ refs-target id

out-to : (s : Slot) (o : Oref) → out-Slot s ≡ Slot-F.To o → refs_of s ≡ o.0 ∷ []
out-to s o e = ap refs_of (sym (roll-out-Slot s) ∙ ap roll-Slot e ∙ rolls-To o) ∙ refs-to o

out-items : (s : Slot) (slots : List Slot) → out-Slot s ≡ Slot-F.Items slots → refs_of s ≡ refs_in slots
out-items s slots e = ap refs_of (sym (roll-out-Slot s) ∙ ap roll-Slot e ∙ rolls-Items slots) ∙ refs-items slots

out-map : (s : Slot) (pairs : List (Sub × Slot)) → out-Slot s ≡ Slot-F.Map pairs → refs_of s ≡ refs_of_pairs pairs
out-map s pairs e = ap refs_of (sym (roll-out-Slot s) ∙ ap roll-Slot e ∙ rolls-Map pairs) ∙ refs-map pairs

out-members : (s : Slot) (orefs : List Oref) → out-Slot s ≡ Slot-F.Members orefs → refs_of s ≡ numbers orefs
out-members s orefs e = ap refs_of (sym (roll-out-Slot s) ∙ ap roll-Slot e ∙ rolls-Members orefs) ∙ refs-members orefs

-- neither stands in the first nor in the rest
pub none-both : (k : ℕ) (xs ys : List ℕ) → times k xs ≡ 0 → times k ys ≡ 0 → times k (xs ++ ys) ≡ 0
none-both k xs ys a b = omega (arith, times-append k xs ys, a, b)

-- ---- what stands without an object names none

module _ (classes : List Class) (k : ℕ) where
  module _ (part : ClassName → List Slot → Type 0) (nothing : (c : ClassName) (slots : List Slot) → part c slots → times k (refs_in slots) ≡ 0) where
    stored : (i : Item) (s : Slot) (v : Slot-F Slot) → out-Slot s ≡ v → IsStored classes part i v → times k (refs_of s) ≡ 0
    stored of.Text s (Slot-F.Plain v) e h = ap (times k) (out-plain s v e)
    stored of.Text s (Slot-F.Target id) e h = absurd h
    stored of.Text s (Slot-F.To o) e h = absurd h
    stored of.Text s (Slot-F.Items slots) e h = absurd h
    stored of.Text s (Slot-F.Map pairs) e h = absurd h
    stored of.Text s (Slot-F.Members orefs) e h = absurd h
    stored of.Whole s (Slot-F.Plain v) e h = ap (times k) (out-plain s v e)
    stored of.Whole s (Slot-F.Target id) e h = absurd h
    stored of.Whole s (Slot-F.To o) e h = absurd h
    stored of.Whole s (Slot-F.Items slots) e h = absurd h
    stored of.Whole s (Slot-F.Map pairs) e h = absurd h
    stored of.Whole s (Slot-F.Members orefs) e h = absurd h
    stored of.Truth s (Slot-F.Plain v) e h = ap (times k) (out-plain s v e)
    stored of.Truth s (Slot-F.Target id) e h = absurd h
    stored of.Truth s (Slot-F.To o) e h = absurd h
    stored of.Truth s (Slot-F.Items slots) e h = absurd h
    stored of.Truth s (Slot-F.Map pairs) e h = absurd h
    stored of.Truth s (Slot-F.Members orefs) e h = absurd h
    stored (of.Ref c) s (Slot-F.Plain v) e h = absurd h
    stored (of.Ref c) s (Slot-F.Target id) e h = ap (times k) (out-target s id e)
    stored (of.Ref c) s (Slot-F.To o) e h = absurd h
    stored (of.Ref c) s (Slot-F.Items slots) e h = absurd h
    stored (of.Ref c) s (Slot-F.Map pairs) e h = absurd h
    stored (of.Ref c) s (Slot-F.Members orefs) e h = absurd h
    stored (of.Serial c) s (Slot-F.Plain v) e h = absurd h
    stored (of.Serial c) s (Slot-F.Target id) e h = ap (times k) (out-target s id e)
    stored (of.Serial c) s (Slot-F.To o) e h = absurd h
    stored (of.Serial c) s (Slot-F.Items slots) e h = ap (times k) (out-items s slots e) ∙ nothing c slots h
    stored (of.Serial c) s (Slot-F.Map pairs) e h = absurd h
    stored (of.Serial c) s (Slot-F.Members orefs) e h = absurd h

    stored-items : (i : Item) (slots : List Slot) → EachGood (λ s. IsStored classes part i (out-Slot s)) slots → times k (refs_in slots) ≡ 0
    stored-items i [] h = refl
    stored-items i (s ∷ ss) h = none-both k (refs_of s) (refs_in ss) (stored i s (out-Slot s) refl h.0) (stored-items i ss h.1)

    stored-listed : (i : Item) (s : Slot) (v : Slot-F Slot) → out-Slot s ≡ v → IsStoredField classes part (Some (listed i)) v → times k (refs_of s) ≡ 0
    stored-listed i s (Slot-F.Items slots) e h = ap (times k) (out-items s slots e) ∙ stored-items i slots h
    stored-listed i s (Slot-F.Plain v) e h = absurd h
    stored-listed i s (Slot-F.Target id) e h = absurd h
    stored-listed i s (Slot-F.To o) e h = absurd h
    stored-listed i s (Slot-F.Map pairs) e h = absurd h
    stored-listed i s (Slot-F.Members orefs) e h = absurd h

    stored-field : (f : Option Form) (s : Slot) → IsStoredField classes part f (out-Slot s) → times k (refs_of s) ≡ 0
    stored-field (Some (single i)) s h = stored i s (out-Slot s) refl h
    stored-field (Some (listed i)) s h = stored-listed i s (out-Slot s) refl h
    stored-field (Some (keyed i)) s h = absurd h
    stored-field None s h = absurd h

    stored-fields : (props : List Prop) (slots : List Slot) → AreGood (λ p s. IsStoredField classes part (form_of p.kind) (out-Slot s)) props slots → times k (refs_in slots) ≡ 0
    stored-fields [] [] h = refl
    stored-fields [] (s ∷ ss) h = absurd h
    stored-fields (p ∷ ps) [] h = absurd h
    stored-fields (p ∷ ps) (s ∷ ss) h = none-both k (refs_of s) (refs_in ss) (stored-field (form_of p.kind) s h.0) (stored-fields ps ss h.1)

  stored-part : (n : ℕ) (c : ClassName) (slots : List Slot) → IsStoredPart n classes c slots → times k (refs_in slots) ≡ 0
  stored-part zero c slots h = absurd h
  stored-part (suc n) c slots h = stored-fields (IsStoredPart n classes) (stored-part n) (props_of (class_of classes c)) slots h

-- ---- and what fits names no object that isn't live

module _ (classes : List Class) (m : Memory) (k : ℕ) (dead : object_of k m.objects ≡ None) where
  not-named : (P : ClassName → Type 0) (o : Oref) → NamesObject m P o → times k (o.0 ∷ []) ≡ 0
  not-named P o h = by (k == o.0) refl
    where
      by : (b : Bool) → (k == o.0) ≡ b → cond b 1 0 + 0 ≡ 0
      by true e =
          let same : k ≡ o.0 = eqb-true k o.0 e in
          absurd (subst (λ x. IsSomeAnd x (λ (t : Object). P t.class)) (ap (λ n. object_of n m.objects) (sym same) ∙ dead) h)
      by false e = refl

  dead-element : (i : Item) (s : Slot) (v : Slot-F Slot) → out-Slot s ≡ v → IsElement classes m i v → times k (refs_of s) ≡ 0
  dead-element i s (Slot-F.To o) e h = ap (times k) (out-to s o e) ∙ not-named (IsClassFor classes i) o h
  dead-element i s (Slot-F.Plain v) e h = stored classes k (IsStoredPart 4 classes) (stored-part classes k 4) i s (Slot-F.Plain v) e h
  dead-element i s (Slot-F.Target id) e h = stored classes k (IsStoredPart 4 classes) (stored-part classes k 4) i s (Slot-F.Target id) e h
  dead-element i s (Slot-F.Items slots) e h = stored classes k (IsStoredPart 4 classes) (stored-part classes k 4) i s (Slot-F.Items slots) e h
  dead-element i s (Slot-F.Map pairs) e h = stored classes k (IsStoredPart 4 classes) (stored-part classes k 4) i s (Slot-F.Map pairs) e h
  dead-element i s (Slot-F.Members orefs) e h = stored classes k (IsStoredPart 4 classes) (stored-part classes k 4) i s (Slot-F.Members orefs) e h

  dead-items : (i : Item) (slots : List Slot) → EachGood (λ s. IsElement classes m i (out-Slot s)) slots → times k (refs_in slots) ≡ 0
  dead-items i [] h = refl
  dead-items i (s ∷ ss) h = none-both k (refs_of s) (refs_in ss) (dead-element i s (out-Slot s) refl h.0) (dead-items i ss h.1)

  dead-pairs : (i : Item) (pairs : List (Sub × Slot)) → EachGood (IsPair classes m i) pairs → times k (refs_of_pairs pairs) ≡ 0
  dead-pairs i [] h = refl
  dead-pairs i (p ∷ ps) h = none-both k (refs_of p.1) (refs_of_pairs ps) (dead-element i p.1 (out-Slot p.1) refl h.0.1) (dead-pairs i ps h.1)

  dead-members : (P : ClassName → Type 0) (orefs : List Oref) → EachGood (NamesObject m P) orefs → times k (numbers orefs) ≡ 0
  dead-members P [] h = refl
  dead-members P (o ∷ os) h = none-both k (o.0 ∷ []) (numbers os) (not-named P o h.0) (dead-members P os h.1)

  dead-listed : (i : Item) (s : Slot) (v : Slot-F Slot) → out-Slot s ≡ v → IsOfForm classes m (listed i) v → times k (refs_of s) ≡ 0
  dead-listed i s (Slot-F.Items slots) e h = ap (times k) (out-items s slots e) ∙ dead-items i slots h
  dead-listed i s (Slot-F.Plain v) e h = absurd h
  dead-listed i s (Slot-F.Target id) e h = absurd h
  dead-listed i s (Slot-F.To o) e h = absurd h
  dead-listed i s (Slot-F.Map pairs) e h = absurd h
  dead-listed i s (Slot-F.Members orefs) e h = absurd h

  dead-keyed : (i : Item) (s : Slot) (v : Slot-F Slot) → out-Slot s ≡ v → IsOfForm classes m (keyed i) v → times k (refs_of s) ≡ 0
  dead-keyed i s (Slot-F.Map pairs) e h = ap (times k) (out-map s pairs e) ∙ dead-pairs i pairs h.1
  dead-keyed i s (Slot-F.Plain v) e h = absurd h
  dead-keyed i s (Slot-F.Target id) e h = absurd h
  dead-keyed i s (Slot-F.To o) e h = absurd h
  dead-keyed i s (Slot-F.Items slots) e h = absurd h
  dead-keyed i s (Slot-F.Members orefs) e h = absurd h

  dead-many : (c : ClassName) (side : List ℕ) (s : Slot) (v : Slot-F Slot) → out-Slot s ≡ v → IsOfKind classes m (kind.Many c side) v → times k (refs_of s) ≡ 0
  dead-many c side s (Slot-F.Members orefs) e h = ap (times k) (out-members s orefs e) ∙ dead-members (λ name. IsBelow classes name c) orefs h
  dead-many c side s (Slot-F.Plain v) e h = absurd h
  dead-many c side s (Slot-F.Target id) e h = absurd h
  dead-many c side s (Slot-F.To o) e h = absurd h
  dead-many c side s (Slot-F.Items slots) e h = absurd h
  dead-many c side s (Slot-F.Map pairs) e h = absurd h

  dead-slot : (kd : Kind) (s : Slot) → IsOfKind classes m kd (out-Slot s) → times k (refs_of s) ≡ 0
  dead-slot kind.Text s h = dead-element of.Text s (out-Slot s) refl h
  dead-slot kind.Whole s h = dead-element of.Whole s (out-Slot s) refl h
  dead-slot kind.Truth s h = dead-element of.Truth s (out-Slot s) refl h
  dead-slot (kind.Ref c) s h = dead-element (of.Ref c) s (out-Slot s) refl h
  dead-slot (kind.Serial c) s h = dead-element (of.Serial c) s (out-Slot s) refl h
  dead-slot (kind.One c side) s h = dead-element (of.Ref c) s (out-Slot s) refl h
  dead-slot (kind.ListOf i) s h = dead-listed i s (out-Slot s) refl h
  dead-slot (kind.ArrayOf i) s h = dead-keyed i s (out-Slot s) refl h
  dead-slot (kind.Many c side) s h = dead-many c side s (out-Slot s) refl h

  dead-slots : (props : List Prop) (slots : List Slot) → AreGood (IsSlotOf classes m) props slots → times k (refs_in slots) ≡ 0
  dead-slots [] [] h = refl
  dead-slots [] (s ∷ ss) h = absurd h
  dead-slots (p ∷ ps) [] h = absurd h
  dead-slots (p ∷ ps) (s ∷ ss) h = none-both k (refs_of s) (refs_in ss) (dead-slot p.kind s h.0) (dead-slots ps ss h.1)

  -- an object that fits
  pub dead-object : (o : Object) → FitsSchema classes m o → times k (refs_in o.slots) ≡ 0
  dead-object o h = dead-slots (props_of (class_of classes o.class)) o.slots h.slots
