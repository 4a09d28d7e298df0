-- An element that is set leaves a memory as it is asked to be, whatever whole it is a part of.
use Rattle.std.proofs.Common.{◌≡◌, ℕ, true, ◌⊎◌, inl, inr, List, [], ◌∷◌, Option, None, Some, slice_get, refl, sym, subst}
use Rattle.std.specs.Option.{IsSomeAnd}
use Rattle.obj_kinds.specs.declared.name.ClassName.{ClassName}
use Rattle.schema_kinds.specs.declared.class.Class.{Class}
use Rattle.schema_kinds.specs.declared.prop.Prop.{Prop}
use Rattle.schema_kinds.specs.declared.kind.Item.{Item}
use Rattle.schema_kinds.specs.Classes.{class_of, props_of}
use Rattle.record_layout.specs.Inverse.{EachGood}
use Rattle.os_kinds.specs.declared.val.Val.{Val}
use Rattle.os_kinds.specs.declared.val.Val.TheVariants.{Data, Ref}
use Rattle.oref_table.specs.declared.oref.Oref.{Oref}
use Rattle.oref_table.specs.declared.slot.Slot.{Slot}
use Rattle.oref_table.specs.declared.slot.Slot.TheOpen.{Slot-F}
use Rattle.oref_table.specs.Memory.{Object, Memory, object_of, tighten}
use Rattle.obj_shape.specs.Fitting.{NamesObject, IsClassFor, IsElement}
use Rattle.prop_setting.specs.Elements.{standing, stood}
use Rattle.object_members.specs.Standing.{fill_with, held_for, takes}
use Rattle.object_members.specs.SetLaws.{IsNoOneSide}
use Rattle.object_members.proofs.StandLaws.{takes_by_rules}
use Rattle.memory_laws.specs.Sets.{HasAllOf, IsShapeFor}
use Rattle.memory_laws.proofs.SetsKept.{elements_keep}
use Rattle.memory_laws.proofs.WritesKept.{found-held, good-held}
use Rattle.known_objects.specs.Classed.{Classed, NamesKnown}
use Rattle.known_objects.specs.Laws.{IsPlainItem}
use Rattle.known_objects.proofs.Changes.{more-names}
use Rattle.known_objects.proofs.Sets.{elements_name}
use Rattle.quiet_members.specs.Quiet.{IsFine, IsSchemaOfMembers}

-- ---- what fits in a memory still does where each object is of its class

abbrev pub HasClassesOf : Memory → Memory → Type 0
HasClassesOf m w = (n : ℕ) (o : Object) → object_of n m.objects ≡ Some o → (u : Object) × (object_of n w.objects ≡ Some u) × (u.class ≡ o.class)

named-more : (m w : Memory) (P : ClassName → Type 0) (q : Oref) → HasClassesOf m w → NamesObject m P q → NamesObject w P q
named-more m w P q all h = by (object_of q.0 m.objects) refl h
  where
    by : (x : Option Object) → object_of q.0 m.objects ≡ x → IsSomeAnd x (λ o. P o.class) → NamesObject w P q
    by None e k = absurd k
    by (Some o) e k = let u = all q.0 o e in subst (λ (x : Option Object). IsSomeAnd x (λ t. P t.class)) (sym u.1) (subst P (sym u.2) k)

pub element-more : (classes : List Class) (m w : Memory) (i : Item) (v : Slot-F Slot) → HasClassesOf m w → IsElement classes m i v → IsElement classes w i v
element-more classes m w i (Slot-F.To q) all h = named-more m w (IsClassFor classes i) q all h
element-more classes m w i (Slot-F.Plain x) all h = h
element-more classes m w i (Slot-F.Target id) all h = h
element-more classes m w i (Slot-F.Items slots) all h = h
element-more classes m w i (Slot-F.Map pairs) all h = h
element-more classes m w i (Slot-F.Members orefs) all h = h

-- the hold of the frame, and then more objects
pub held-more : (m w : Memory) (v : Val) → HasAllOf (held_for v m) w → HasClassesOf m w
held-more m w v all n o e = by (found-held m v n o e)
  where
    by : (object_of n (held_for v m).objects ≡ Some o) ⊎ (object_of n (held_for v m).objects ≡ Some (tighten o)) → (u : Object) × (object_of n w.objects ≡ Some u) × (u.class ≡ o.class)
    by (inl f) = (o, all n o f, refl)
    by (inr f) = (tighten o, all n (tighten o) f, refl)

pub each-more : {A : Type 0} (P Q : A → Type 0) (xs : List A) → ((x : A) → P x → Q x) → EachGood P xs → EachGood Q xs
each-more P Q [] more h = tt
each-more P Q (x ∷ xs) more h = (more x h.0, each-more P Q xs more h.1)

-- ---- an element is set

module _ (classes : List Class) (known : Classed) (schema : IsSchemaOfMembers classes) (m : Memory) (fine : IsFine classes known m) (v : Val) (o : Object) (live : object_of o.number m.objects ≡ Some o) (at : ℕ) (p : Prop)
    (there : slice_get (props_of (class_of classes o.class)) at ≡ Some p) (none : IsNoOneSide p.kind) (i : Item) (plain_item : IsPlainItem classes i) (shape : Slot → Slot) (fits : IsShapeFor classes (held_for v m) p i shape)
    (taken : takes classes (held_for v m) i (fill_with v) ≡ true) where
  abbrev held : Memory
  held = held_for v m

  held-names : NamesKnown classes known held
  held-names = by v
    where
      by : (x : Val) → NamesKnown classes known (held_for x m)
      by (Data d) = fine.names
      by (Ref k class) = more-names classes known m fine.names k

  set-fine : (q : Object) → object_of q.number held.objects ≡ Some q → slice_get (props_of (class_of classes q.class)) at ≡ Some p → IsFine classes known (stood q.number at shape (standing classes held q.level i (fill_with v)))
  set-fine q found there_q =
      let both = (takes_by_rules classes held i (fill_with v)).0 taken in
      record {
        good = (elements_keep classes held q at p i shape (fill_with v) schema.whole (good-held classes m v fine.good) found there_q fits both.1 both.0).good;
        names = elements_name classes known held q at p i shape (fill_with v) schema.whole schema.plain (good-held classes m v fine.good) held-names found there_q none plain_item both.0;
      }

  pub stood-fine : IsFine classes known (stood o.number at shape (standing classes held o.level i (fill_with v)))
  stood-fine = by (found-held m v o.number o live)
    where
      by : (object_of o.number held.objects ≡ Some o) ⊎ (object_of o.number held.objects ≡ Some (tighten o)) → IsFine classes known (stood o.number at shape (standing classes held o.level i (fill_with v)))
      by (inl e) = set-fine o e there
      by (inr e) = set-fine (tighten o) e there
