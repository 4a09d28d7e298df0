-- What a slot that fits holds may be read.
use Rattle.std.proofs.Common.{◌≡◌, ℕ, zero, suc, List, [], ◌∷◌, ◌++◌, slice_get, Option, None, Some, IsSome, refl, ap, sym, subst, ◌∙◌}
use Rattle.std.specs.Option.{IsSomeAnd, option_map}
use Rattle.obj_kinds.specs.declared.name.ClassName.{ClassName}
use Rattle.schema_kinds.specs.declared.class.Class.{Class}
use Rattle.schema_kinds.specs.declared.prop.Prop.{Prop}
use Rattle.schema_kinds.specs.declared.kind.Kind.{Kind}
use Rattle.schema_kinds.specs.declared.kind.Kind.TheVariants as kind
use Rattle.schema_kinds.specs.declared.kind.Item.{Item}
use Rattle.schema_kinds.specs.declared.kind.Item.TheVariants as of
use Rattle.schema_kinds.specs.Classes.{class_of, props_of}
use Rattle.record_layout.specs.Inverse.{EachGood, AreGood}
use Rattle.record_layout.specs.Shapes.{Form, single, listed, keyed, form_of}
use Rattle.oref_table.specs.declared.oref.Oref.{Oref}
use Rattle.oref_table.specs.declared.slot.Slot.{Slot}
use Rattle.oref_table.specs.declared.slot.Slot.TheVariants.{rolls-Plain, rolls-Target, rolls-Items}
use Rattle.oref_table.specs.declared.slot.Slot.TheOpen.{Slot-F}
use Rattle.oref_table.specs.declared.slot.Slot.TheViews.{out-Slot, roll-Slot, roll-out-Slot}
use Rattle.oref_table.specs.Refs.{refs_of, refs_in}
use Rattle.oref_table.specs.Memory.{Object, Memory, object_of, IsLive}
use Rattle.oref_table.proofs.RefLaws.{refs-plain, refs-target, refs-items, refs-map, refs-members}
use Rattle.obj_shape.specs.Elements.{IsStored, IsStoredField, IsStoredPart}
use Rattle.obj_shape.specs.Fitting.{NamesObject, IsClassFor, IsElement, IsOfKind, IsSlotOf, FitsSchema, TableFits}
use Rattle.obj_shape.specs.Slots.{slot_with, empty_slots}
use Rattle.obj_shape.proofs.FitLaws.{fits-at}
use Rattle.oref_table.specs.declared.obj.Obj.{Obj}
use Rattle.oref_table.specs.Kept.{as_kept}
use Rattle.oref_table.proofs.OrderLaws.{object-number}
use Rattle.obj_kinds.specs.declared.error_name.ErrorName.TheVariants.{PropertyDoesNotExist}
use Rattle.obj_props.specs.declared.content.Content.{Content}
use Rattle.obj_props.specs.Changes.{HasSlot}
use Rattle.obj_props.specs.declared.got.ShapeError.{ShapeError}
use Rattle.obj_props.specs.declared.got.ShapeError.TheVariants.{Script, Lack}
use Rattle.obj_props.specs.Properties.{part_content, reference_content, kind_content, prop_place, alone, fails, read_of, slot_read, place_read, object_read, prop_read}
use Rattle.obj_props.specs.Contents.{MayBeRead, IsFound, HasPlace, IsMissing, Tells}

-- what stands at a place is good for what stands there
pub good-at : {K B : Type 0} (P : K → B → Type 0) (ks : List K) (bs : List B) (i : ℕ) (k : K) (b : B) → AreGood P ks bs → slice_get ks i ≡ Some k → slice_get bs i ≡ Some b → P k b
good-at P [] bs i k b g e f = absurd (cc)
good-at P (x ∷ xs) [] i k b g e f = absurd (cc)
good-at P (x ∷ xs) (y ∷ ys) zero k b g e f =
    let one : x ≡ k = cc in
    let two : y ≡ b = cc in
    subst (λ z. P z b) one (subst (λ z. P x z) two g.0)
good-at P (x ∷ xs) (y ∷ ys) (suc i) k b g e f = good-at P xs ys i k b g.1 e f

-- ---- parts without objects name no object

out-plain : (s : Slot) (v : _) → out-Slot s ≡ Slot-F.Plain v → refs_of s ≡ []
out-plain s v e = ap refs_of (sym (roll-out-Slot s) ∙ ap roll-Slot e ∙ rolls-Plain v) ∙ refs-plain v

out-target : (s : Slot) (id : _) → out-Slot s ≡ Slot-F.Target id → refs_of s ≡ []
out-target s id e = ap refs_of (sym (roll-out-Slot s) ∙ ap roll-Slot e ∙ rolls-Target id) ∙ refs-target id

out-items : (s : Slot) (slots : List Slot) → out-Slot s ≡ Slot-F.Items slots → refs_of s ≡ refs_in slots
out-items s slots e = ap refs_of (sym (roll-out-Slot s) ∙ ap roll-Slot e ∙ rolls-Items slots) ∙ refs-items slots

none-and : (xs ys : List ℕ) → xs ≡ [] → ys ≡ [] → xs ++ ys ≡ []
none-and xs ys e f = ap (λ zs. zs ++ ys) e ∙ f

module _ (classes : List Class) (part : ClassName → List Slot → Type 0) (none : (c : ClassName) (slots : List Slot) → part c slots → refs_in slots ≡ []) where
  pub element-none : (i : Item) (s : Slot) → IsStored classes part i (out-Slot s) → refs_of s ≡ []
  element-none i s h = by i (out-Slot s) refl h
    where
      by : (i : Item) (v : Slot-F Slot) → out-Slot s ≡ v → IsStored classes part i v → refs_of s ≡ []
      by i (Slot-F.Plain v) e h = out-plain s v e
      by i (Slot-F.Target id) e h = out-target s id e
      by (of.Serial c) (Slot-F.Items slots) e h = out-items s slots e ∙ none c slots h
      by of.Text (Slot-F.Items slots) e h = absurd h
      by of.Whole (Slot-F.Items slots) e h = absurd h
      by of.Truth (Slot-F.Items slots) e h = absurd h
      by (of.Ref c) (Slot-F.Items slots) e h = absurd h
      by of.Text (Slot-F.To o) e h = absurd h
      by of.Whole (Slot-F.To o) e h = absurd h
      by of.Truth (Slot-F.To o) e h = absurd h
      by (of.Ref c) (Slot-F.To o) e h = absurd h
      by (of.Serial c) (Slot-F.To o) e h = absurd h
      by of.Text (Slot-F.Map pairs) e h = absurd h
      by of.Whole (Slot-F.Map pairs) e h = absurd h
      by of.Truth (Slot-F.Map pairs) e h = absurd h
      by (of.Ref c) (Slot-F.Map pairs) e h = absurd h
      by (of.Serial c) (Slot-F.Map pairs) e h = absurd h
      by of.Text (Slot-F.Members os) e h = absurd h
      by of.Whole (Slot-F.Members os) e h = absurd h
      by of.Truth (Slot-F.Members os) e h = absurd h
      by (of.Ref c) (Slot-F.Members os) e h = absurd h
      by (of.Serial c) (Slot-F.Members os) e h = absurd h

  pub elements-none : (i : Item) (slots : List Slot) → EachGood (λ s. IsStored classes part i (out-Slot s)) slots → refs_in slots ≡ []
  elements-none i [] h = refl
  elements-none i (s ∷ ss) h = none-and (refs_of s) (refs_in ss) (element-none i s h.0) (elements-none i ss h.1)

  field-none : (f : Option Form) (s : Slot) → IsStoredField classes part f (out-Slot s) → refs_of s ≡ []
  field-none None s h = absurd h
  field-none (Some (single i)) s h = element-none i s h
  field-none (Some (keyed i)) s h = absurd h
  field-none (Some (listed i)) s h = by (out-Slot s) refl h
    where
      by : (v : Slot-F Slot) → out-Slot s ≡ v → IsStoredField classes part (Some (listed i)) v → refs_of s ≡ []
      by (Slot-F.Items slots) e h = out-items s slots e ∙ elements-none i slots h
      by (Slot-F.To o) e h = absurd h
      by (Slot-F.Plain v) e h = absurd h
      by (Slot-F.Target id) e h = absurd h
      by (Slot-F.Map pairs) e h = absurd h
      by (Slot-F.Members orefs) e h = absurd h

  fields-none : (props : List Prop) (slots : List Slot) → AreGood (λ p s. IsStoredField classes part (form_of p.kind) (out-Slot s)) props slots → refs_in slots ≡ []
  fields-none [] [] h = refl
  fields-none [] (s ∷ ss) h = absurd h
  fields-none (p ∷ ps) [] h = absurd h
  fields-none (p ∷ ps) (s ∷ ss) h = none-and (refs_of s) (refs_in ss) (field-none (form_of p.kind) s h.0) (fields-none ps ss h.1)

pub part-none : (n : ℕ) (classes : List Class) (c : ClassName) (slots : List Slot) → IsStoredPart n classes c slots → refs_in slots ≡ []
part-none zero classes c slots h = absurd h
part-none (suc n) classes c slots h = fields-none classes (IsStoredPart n classes) (part-none n classes) (props_of (class_of classes c)) slots h

with-none : (text : List ℕ) (k : Kind) → refs_of (slot_with text k) ≡ []
with-none text kind.Text = refs-plain _
with-none text kind.Whole = refs-plain _
with-none text kind.Truth = refs-plain _
with-none text (kind.Ref c) = refs-target None
with-none text (kind.Serial c) = refs-target None
with-none text (kind.ListOf i) = refs-items []
with-none text (kind.ArrayOf i) = refs-map []
with-none text (kind.Many c side) = refs-members []
with-none text (kind.One c side) = refs-target None

pub empty-none : (props : List Prop) → refs_in (empty_slots props) ≡ []
empty-none [] = refl
empty-none (p ∷ ps) = none-and (refs_of (slot_with [] p.kind)) (refs_in (empty_slots ps)) (with-none [] p.kind) (empty-none ps)

-- ---- what may be read

named-live : (m : Memory) (P : ClassName → Type 0) (o : Oref) → NamesObject m P o → IsLive m o.0
named-live m P o h = by (object_of o.0 m.objects) refl h
  where
    by : (x : Option Object) → object_of o.0 m.objects ≡ x → IsSomeAnd x (λ t. P t.class) → IsLive m o.0
    by None e h = absurd h
    by (Some t) e h = subst (λ (y : Option Object). IsSome y) (sym e) refl

reference-read : (classes : List Class) (m : Memory) (c : ClassName) (s : Slot-F Slot) → IsElement classes m (of.Ref c) s → MayBeRead m (reference_content classes c s)
reference-read classes m c (Slot-F.To o) h = named-live m (IsClassFor classes (of.Ref c)) o h
reference-read classes m c (Slot-F.Target None) h = tt
reference-read classes m c (Slot-F.Target (Some id)) h = tt
reference-read classes m c (Slot-F.Plain v) h = tt
reference-read classes m c (Slot-F.Items slots) h = tt
reference-read classes m c (Slot-F.Map pairs) h = tt
reference-read classes m c (Slot-F.Members os) h = tt

part-read : (classes : List Class) (m : Memory) (c : ClassName) (s : Slot-F Slot) → IsElement classes m (of.Serial c) s → MayBeRead m (part_content classes c s)
part-read classes m c (Slot-F.To o) h = named-live m (IsClassFor classes (of.Serial c)) o h
part-read classes m c (Slot-F.Items slots) h = part-none 4 classes c slots h
part-read classes m c (Slot-F.Target id) h = empty-none (props_of (class_of classes c))
part-read classes m c (Slot-F.Plain v) h = empty-none (props_of (class_of classes c))
part-read classes m c (Slot-F.Map pairs) h = empty-none (props_of (class_of classes c))
part-read classes m c (Slot-F.Members os) h = empty-none (props_of (class_of classes c))

pub kind-read : (classes : List Class) (m : Memory) (k : Kind) (s : Slot-F Slot) → IsOfKind classes m k s → MayBeRead m (kind_content classes k s)
kind-read classes m kind.Text s h = tt
kind-read classes m kind.Whole s h = tt
kind-read classes m kind.Truth s h = tt
kind-read classes m (kind.Ref c) s h = reference-read classes m c s h
kind-read classes m (kind.Serial c) s h = part-read classes m c s h
kind-read classes m (kind.ListOf i) s h = tt
kind-read classes m (kind.ArrayOf i) s h = tt
kind-read classes m (kind.Many c side) s h = tt
kind-read classes m (kind.One c side) s h = reference-read classes m c s h

-- ---- a property that is found

found-by : (classes : List Class) (m : Memory) (n : ℕ) (name : List ℕ) (x : Option Object) (v : Obj) (at level : ℕ) (content : Content) → object_of n m.objects ≡ x → Some v ≡ option_map (as_kept m.objects) x
    → IsFound classes (props_of (class_of classes v.class)) v (prop_place name (props_of (class_of classes v.class))) at level content
    → (prop_read classes m n name ≡ read_of classes m n level at alone content) × HasSlot m n at × ((o : Object) → x ≡ Some o → FitsSchema classes m o → MayBeRead m content)
unfolding prop_read
found-by classes m n name None v at level content e is f = absurd (cc)
found-by classes m n name (Some o) v at level content e is f =
    let same : v ≡ as_kept m.objects o = cc in
    let g : IsFound classes (props_of (class_of classes o.class)) (as_kept m.objects o) (prop_place name (props_of (class_of classes o.class))) at level content
    = subst (λ (u : Obj). IsFound classes (props_of (class_of classes u.class)) u (prop_place name (props_of (class_of classes u.class))) at level content) same f in
    let number : o.number ≡ n = object-number n m.objects o e in
    let first : prop_read classes m n name ≡ place_read classes m o (prop_place name (props_of (class_of classes o.class))) = ap (object_read classes m name) e in
    let second : place_read classes m o (prop_place name (props_of (class_of classes o.class))) ≡ place_read classes m o (Some at) = ap (place_read classes m o) g.2 in
    let third : place_read classes m o (Some at) ≡ slot_read classes m o.number o.level at (Some g.0) (Some g.1)
    = ap (λ p. slot_read classes m o.number o.level at p (slice_get o.slots at)) g.3 ∙ ap (λ s. slot_read classes m o.number o.level at (Some g.0) s) g.4 in
    let fourth : slot_read classes m o.number o.level at (Some g.0) (Some g.1) ≡ read_of classes m n level at alone content
    = ap (λ k. read_of classes m k o.level at alone (kind_content classes g.0.kind (out-Slot g.1))) number
    ∙ ap (λ k. read_of classes m n k at alone (kind_content classes g.0.kind (out-Slot g.1))) (sym g.5)
    ∙ ap (λ k. read_of classes m n level at alone k) (sym g.6) in (
      first ∙ second ∙ third ∙ fourth,
      (o, g.1, e, g.4),
      λ q at_q fits.
          let qo : o ≡ q = cc in
          let mine : FitsSchema classes m o = subst (λ (u : Object). FitsSchema classes m u) (sym qo) fits in
          subst (λ k. MayBeRead m k) (sym g.6) (kind-read classes m g.0.kind (out-Slot g.1) (good-at (IsSlotOf classes m) (props_of (class_of classes o.class)) o.slots at g.0 g.1 mine.slots g.3 g.4)),
    )

no-place : (classes : List Class) (m : Memory) (o : Object) (place : Option ℕ) → ¬ HasPlace (props_of (class_of classes o.class)) (as_kept m.objects o) place → place_read classes m o place ≡ fails PropertyDoesNotExist
no-place classes m o None h = refl
no-place classes m o (Some at) h = by (slice_get (props_of (class_of classes o.class)) at) (slice_get o.slots at) refl refl
  where
    by : (p : Option Prop) (s : Option Slot) → slice_get (props_of (class_of classes o.class)) at ≡ p → slice_get o.slots at ≡ s → slot_read classes m o.number o.level at p s ≡ fails PropertyDoesNotExist
    by None None e f = refl
    by None (Some s) e f = refl
    by (Some p) None e f = refl
    by (Some p) (Some s) e f = absurd (h (subst (λ (x : Option Prop). IsSome x) (sym e) refl, subst (λ (x : Option Slot). IsSome x) (sym f) refl))

pub missing-by : (classes : List Class) (m : Memory) (n : ℕ) (name : List ℕ) (x : Option Object) (v : Obj) (e : ShapeError) → object_of n m.objects ≡ x → Some v ≡ option_map (as_kept m.objects) x
    → IsMissing (props_of (class_of classes v.class)) v (prop_place name (props_of (class_of classes v.class))) e → Tells (prop_read classes m n name) e
unfolding prop_read
missing-by classes m n name x v (Lack l) at is h = tt
missing-by classes m n name None v (Script e) at is h = absurd (cc)
missing-by classes m n name (Some o) v (Script e) at is h =
    let same : v ≡ as_kept m.objects o = cc in
    let g : IsMissing (props_of (class_of classes o.class)) (as_kept m.objects o) (prop_place name (props_of (class_of classes o.class))) (Script e)
    = subst (λ (u : Obj). IsMissing (props_of (class_of classes u.class)) u (prop_place name (props_of (class_of classes u.class))) (Script e)) same h in
    ap (object_read classes m name) at ∙ no-place classes m o (prop_place name (props_of (class_of classes o.class))) g.1 ∙ ap fails (sym g.0)

missing-none : (classes : List Class) (m : Memory) (n : ℕ) (name : List ℕ) (x : Option Object) → object_of n m.objects ≡ x → None ≡ option_map (as_kept m.objects) x → prop_read classes m n name ≡ fails PropertyDoesNotExist
unfolding prop_read
missing-none classes m n name None at e = ap (object_read classes m name) at
missing-none classes m n name (Some o) at e = absurd (cc)

-- no object of the number is live
pub no_object : (classes : List Class) (m : Memory) (n : ℕ) (name : List ℕ) → None ≡ option_map (as_kept m.objects) (object_of n m.objects) → Tells (prop_read classes m n name) (Script PropertyDoesNotExist)
no_object classes m n name e = missing-none classes m n name (object_of n m.objects) refl e

fits-found : (classes : List Class) (m : Memory) (n : ℕ) (x : Option Object) (v : Obj) → object_of n m.objects ≡ x → Some v ≡ option_map (as_kept m.objects) x → TableFits classes m → (o : Object) × (x ≡ Some o) × FitsSchema classes m o
fits-found classes m n None v at e fits = absurd (cc)
fits-found classes m n (Some o) v at e fits = (o, refl, fits-at classes m n o fits at)

abbrev pub IsRead : List Class → Memory → ℕ → List ℕ → ℕ → ℕ → Content → Type 0
IsRead classes m n name at level content =
    (prop_read classes m n name ≡ read_of classes m n level at alone content) × HasSlot m n at × MayBeRead m content

-- what is found is what a read of the property comes to
pub is_read : (classes : List Class) (m : Memory) (n : ℕ) (name : List ℕ) (v : Obj) (at level : ℕ) (content : Content) → TableFits classes m → Some v ≡ option_map (as_kept m.objects) (object_of n m.objects)
    → IsFound classes (props_of (class_of classes v.class)) v (prop_place name (props_of (class_of classes v.class))) at level content → IsRead classes m n name at level content
is_read classes m n name v at level content fits is f =
    let a = found-by classes m n name (object_of n m.objects) v at level content refl is f in
    let b = fits-found classes m n (object_of n m.objects) v refl is fits in
    (a.0, a.1, a.2 b.0 b.1 b.2)

pub is_missing : (classes : List Class) (m : Memory) (n : ℕ) (name : List ℕ) (v : Obj) (e : ShapeError) → Some v ≡ option_map (as_kept m.objects) (object_of n m.objects)
    → IsMissing (props_of (class_of classes v.class)) v (prop_place name (props_of (class_of classes v.class))) e → Tells (prop_read classes m n name) e
is_missing classes m n name v e is h = missing-by classes m n name (object_of n m.objects) v e refl is h
