-- A slot fits in one memory as in another that has the objects that it names, each with its class.
use Rattle.std.proofs.Common.{◌≡◌, ◌<◌, ℕ, ◌+◌, ◌==◌, cond, Bool, true, false, List, [], ◌∷◌, ◌++◌, map, Option, None, Some, refl, ap, sym, subst, ◌∙◌, arith}
use Rattle.std.proofs.lemmas.Bool.{eq-eqb}
use Rattle.std.specs.List.{AllByRecursion}
use Rattle.std.specs.Option.{IsSomeAnd}
use Rattle.obj_kinds.specs.declared.name.ClassName.{ClassName}
use Rattle.obj_kinds.specs.declared.sub.Sub.{Sub}
use Rattle.schema_kinds.specs.declared.class.Class.{Class}
use Rattle.schema_kinds.specs.declared.prop.Prop.{Prop}
use Rattle.schema_kinds.specs.declared.kind.Kind.{Kind}
use Rattle.schema_kinds.specs.declared.kind.Kind.TheVariants as kind
use Rattle.schema_kinds.specs.declared.kind.Item.{Item}
use Rattle.schema_kinds.specs.declared.kind.Item.TheVariants as of
use Rattle.schema_kinds.specs.Classes.{class_of, props_of, IsBelow}
use Rattle.record_layout.specs.Inverse.{EachGood, AreGood}
use Rattle.record_layout.specs.Shapes.{Form, single, listed, keyed, form_of}
use Rattle.oref_table.specs.declared.oref.Oref.{Oref}
use Rattle.oref_table.specs.declared.slot.Slot.{Slot}
use Rattle.oref_table.specs.declared.slot.Slot.TheVariants.{To, Items, Map, Members, rolls-To, rolls-Items, rolls-Map, rolls-Members}
use Rattle.oref_table.specs.declared.slot.Slot.TheOpen.{Slot-F}
use Rattle.oref_table.specs.declared.slot.Slot.TheViews.{out-Slot, roll-Slot, roll-out-Slot}
use Rattle.oref_table.specs.Refs.{times, numbers, refs_of, refs_in, refs_of_pairs}
use Rattle.oref_table.specs.Memory.{Object, Memory, object_of, refs_among}
use Rattle.oref_table.proofs.Lowered.{times-append}
use Rattle.oref_table.proofs.RefLaws.{refs-to, refs-items, refs-map, refs-members}
use Rattle.obj_shape.specs.Fitting.{NamesObject, IsClassFor, IsElement, IsPair, IsOfForm, IsOfSomeForm, IsOfKind, IsSlotOf, FitsSchema}

-- each live object that one of the numbers names is live in the other memory too, with its class
abbrev pub Agrees : Memory → Memory → List ℕ → Type 0
Agrees m w refs = (n : ℕ) (t : Object) → 0 < times n refs → object_of n m.objects ≡ Some t → (u : Object) × (object_of n w.objects ≡ Some u) × (u.class ≡ t.class)

-- ---- which numbers a slot names

out-to : (s : Slot) (o : Oref) → out-Slot s ≡ Slot-F.To o → refs_of s ≡ o.0 ∷ []
out-to s o e = ap refs_of (sym (roll-out-Slot s) ∙ ap roll-Slot e ∙ rolls-To o) ∙ refs-to o

out-items : (s : Slot) (slots : List Slot) → out-Slot s ≡ Slot-F.Items slots → refs_of s ≡ refs_in slots
out-items s slots e = ap refs_of (sym (roll-out-Slot s) ∙ ap roll-Slot e ∙ rolls-Items slots) ∙ refs-items slots

out-map : (s : Slot) (pairs : List (Sub × Slot)) → out-Slot s ≡ Slot-F.Map pairs → refs_of s ≡ refs_of_pairs pairs
out-map s pairs e = ap refs_of (sym (roll-out-Slot s) ∙ ap roll-Slot e ∙ rolls-Map pairs) ∙ refs-map pairs

out-members : (s : Slot) (orefs : List Oref) → out-Slot s ≡ Slot-F.Members orefs → refs_of s ≡ numbers orefs
out-members s orefs e = ap refs_of (sym (roll-out-Slot s) ∙ ap roll-Slot e ∙ rolls-Members orefs) ∙ refs-members orefs

named-itself : (n : ℕ) → 0 < times n (n ∷ [])
named-itself n = rw (eq-eqb n n refl) (omega arith)

module _ (m w : Memory) where
  pub agrees-front : (xs ys : List ℕ) → Agrees m w (xs ++ ys) → Agrees m w xs
  agrees-front xs ys a n t h e = a n t (omega (arith, h, times-append n xs ys)) e

  pub agrees-rest : (xs ys : List ℕ) → Agrees m w (xs ++ ys) → Agrees m w ys
  agrees-rest xs ys a n t h e = a n t (omega (arith, h, times-append n xs ys)) e

  agrees-as : (xs ys : List ℕ) → xs ≡ ys → Agrees m w xs → Agrees m w ys
  agrees-as xs ys e a = subst (λ rs. Agrees m w rs) e a

  pub names-move : (P : ClassName → Type 0) (o : Oref) → Agrees m w (o.0 ∷ []) → NamesObject m P o → NamesObject w P o
  names-move P o a h = by (object_of o.0 m.objects) refl h
    where
      by : (x : Option Object) → object_of o.0 m.objects ≡ x → IsSomeAnd x (λ t. P t.class) → NamesObject w P o
      by None e h = absurd h
      by (Some t) e h =
          let u = a o.0 t (named-itself o.0) e in
          subst (λ y. IsSomeAnd y (λ t. P t.class)) (sym u.1) (subst P (sym u.2) h)

module _ (classes : List Class) (m w : Memory) where
  pub element-moves : (i : Item) (s : Slot) → Agrees m w (refs_of s) → IsElement classes m i (out-Slot s) → IsElement classes w i (out-Slot s)
  element-moves i s a h = by (out-Slot s) refl h
    where
      by : (v : Slot-F Slot) → out-Slot s ≡ v → IsElement classes m i v → IsElement classes w i v
      by (Slot-F.To o) e h = names-move m w (IsClassFor classes i) o (subst (λ rs. Agrees m w rs) (out-to s o e) a) h
      by (Slot-F.Plain v) e h = h
      by (Slot-F.Target id) e h = h
      by (Slot-F.Items slots) e h = h
      by (Slot-F.Map pairs) e h = h
      by (Slot-F.Members orefs) e h = h

  items-move : (i : Item) (slots : List Slot) → Agrees m w (refs_in slots) → EachGood (λ s. IsElement classes m i (out-Slot s)) slots → EachGood (λ s. IsElement classes w i (out-Slot s)) slots
  items-move i [] a h = tt
  items-move i (s ∷ ss) a h = (element-moves i s (agrees-front m w (refs_of s) (refs_in ss) a) h.0, items-move i ss (agrees-rest m w (refs_of s) (refs_in ss) a) h.1)

  pairs-move : (i : Item) (pairs : List (Sub × Slot)) → Agrees m w (refs_of_pairs pairs) → EachGood (IsPair classes m i) pairs → EachGood (IsPair classes w i) pairs
  pairs-move i [] a h = tt
  pairs-move i (p ∷ ps) a h =
      ((h.0.0, element-moves i p.1 (agrees-front m w (refs_of p.1) (refs_of_pairs ps) a) h.0.1), pairs-move i ps (agrees-rest m w (refs_of p.1) (refs_of_pairs ps) a) h.1)

  members-move : (P : ClassName → Type 0) (orefs : List Oref) → Agrees m w (numbers orefs) → EachGood (NamesObject m P) orefs → EachGood (NamesObject w P) orefs
  members-move P [] a h = tt
  members-move P (o ∷ os) a h = (names-move m w P o (agrees-front m w (o.0 ∷ []) (numbers os) a) h.0, members-move P os (agrees-rest m w (o.0 ∷ []) (numbers os) a) h.1)

  form-moves : (f : Form) (s : Slot) → Agrees m w (refs_of s) → IsOfForm classes m f (out-Slot s) → IsOfForm classes w f (out-Slot s)
  form-moves (single i) s a h = element-moves i s a h
  form-moves (listed i) s a h = by (out-Slot s) refl h
    where
      by : (v : Slot-F Slot) → out-Slot s ≡ v → IsOfForm classes m (listed i) v → IsOfForm classes w (listed i) v
      by (Slot-F.Items slots) e h = items-move i slots (subst (λ rs. Agrees m w rs) (out-items s slots e) a) h
      by (Slot-F.To o) e h = absurd h
      by (Slot-F.Plain v) e h = absurd h
      by (Slot-F.Target id) e h = absurd h
      by (Slot-F.Map pairs) e h = absurd h
      by (Slot-F.Members orefs) e h = absurd h
  form-moves (keyed i) s a h = by (out-Slot s) refl h
    where
      by : (v : Slot-F Slot) → out-Slot s ≡ v → IsOfForm classes m (keyed i) v → IsOfForm classes w (keyed i) v
      by (Slot-F.Map pairs) e h = (h.0, pairs-move i pairs (subst (λ rs. Agrees m w rs) (out-map s pairs e) a) h.1)
      by (Slot-F.To o) e h = absurd h
      by (Slot-F.Plain v) e h = absurd h
      by (Slot-F.Target id) e h = absurd h
      by (Slot-F.Items slots) e h = absurd h
      by (Slot-F.Members orefs) e h = absurd h

  pub kind-moves : (k : Kind) (s : Slot) → Agrees m w (refs_of s) → IsOfKind classes m k (out-Slot s) → IsOfKind classes w k (out-Slot s)
  kind-moves (kind.Many c side) s a h = by (out-Slot s) refl h
    where
      by : (v : Slot-F Slot) → out-Slot s ≡ v → IsOfKind classes m (kind.Many c side) v → IsOfKind classes w (kind.Many c side) v
      by (Slot-F.Members orefs) e h = members-move (λ name. IsBelow classes name c) orefs (subst (λ rs. Agrees m w rs) (out-members s orefs e) a) h
      by (Slot-F.To o) e h = absurd h
      by (Slot-F.Plain v) e h = absurd h
      by (Slot-F.Target id) e h = absurd h
      by (Slot-F.Items slots) e h = absurd h
      by (Slot-F.Map pairs) e h = absurd h
  kind-moves kind.Text s a h = form-moves (single of.Text) s a h
  kind-moves kind.Whole s a h = form-moves (single of.Whole) s a h
  kind-moves kind.Truth s a h = form-moves (single of.Truth) s a h
  kind-moves (kind.Ref c) s a h = form-moves (single (of.Ref c)) s a h
  kind-moves (kind.Serial c) s a h = form-moves (single (of.Serial c)) s a h
  kind-moves (kind.ListOf i) s a h = form-moves (listed i) s a h
  kind-moves (kind.ArrayOf i) s a h = form-moves (keyed i) s a h
  kind-moves (kind.One c side) s a h = form-moves (single (of.Ref c)) s a h

  slots-move : (props : List Prop) (slots : List Slot) → Agrees m w (refs_in slots) → AreGood (IsSlotOf classes m) props slots → AreGood (IsSlotOf classes w) props slots
  slots-move [] [] a h = tt
  slots-move [] (s ∷ ss) a h = absurd h
  slots-move (p ∷ ps) [] a h = absurd h
  slots-move (p ∷ ps) (s ∷ ss) a h = (kind-moves p.kind s (agrees-front m w (refs_of s) (refs_in ss) a) h.0, slots-move ps ss (agrees-rest m w (refs_of s) (refs_in ss) a) h.1)

  -- so does an object
  pub object-moves : (o : Object) → Agrees m w (refs_in o.slots) → FitsSchema classes m o → FitsSchema classes w o
  object-moves o a h = record {
    class = h.class;
    extent = h.extent;
    id = h.id;
    level = h.level;
    slots = slots-move (props_of (class_of classes o.class)) o.slots a h.slots;
  }

  -- and so do objects
  pub objects-move : (os : List Object) → Agrees m w (refs_among os) → AllByRecursion (FitsSchema classes m) os → AllByRecursion (FitsSchema classes w) os
  objects-move [] a h = tt
  objects-move (o ∷ os) a h = (object-moves o (agrees-front m w (refs_in o.slots) (refs_among os) a) h.0, objects-move os (agrees-rest m w (refs_in o.slots) (refs_among os) a) h.1)
