-- A property that is set, as it was found.
use Rattle.std.proofs.Common.{◌≡◌, ◌<◌, ℕ, zero, suc, List, [], ◌∷◌, length, slice_get, Option, None, Some, IsSome, Result, Ok, Err, IfErr, OnOk, refl, ap, sym, subst, ◌∙◌, arith}
use Rattle.schema_kinds.specs.declared.class.Class.{Class}
use Rattle.schema_kinds.specs.declared.prop.Prop.{Prop}
use Rattle.record_layout.specs.Inverse.{AreGood}
use Rattle.record_layout.specs.Shapes.{form_of}
use Rattle.oref_table.specs.declared.fill.Fill.{Fill}
use Rattle.oref_table.specs.Memory.{Object, Memory, object_of, IsLive}
use Rattle.obj_shape.specs.Fitting.{IsSlotOf, TableFits}
use Rattle.obj_shape.proofs.FitLaws.{fits-at}
use Rattle.obj_props.specs.Changes.{HasSlot, let_gone}
use Rattle.obj_props.specs.Properties.{prop_place}
use Rattle.obj_props.specs.declared.got.ShapeError.{ShapeError}
use Rattle.obj_props.specs.declared.got.ShapeError.TheVariants.{Script, Lack}
use Rattle.prop_setting.specs.Sets.{FormRefuses, FormSets, PlaceRefuses, PropRefuses, PropSets, Tells, named_prop, prop_at, props_in}

pub live-object : (m : Memory) (n : ℕ) → IsLive m n → (o : Object) × (object_of n m.objects ≡ Some o)
live-object m n live = by (object_of n m.objects) refl live
  where
    by : (x : Option Object) → object_of n m.objects ≡ x → IsSome x → (o : Object) × (object_of n m.objects ≡ Some o)
    by None e h = absurd (cc)
    by (Some o) e h = (o, e)

good-has : {K B : Type 0} (P : K → B → Type 0) (ks : List K) (bs : List B) (i : ℕ) (k : K) → AreGood P ks bs → slice_get ks i ≡ Some k → (b : B) × (slice_get bs i ≡ Some b)
good-has P [] bs i k g e = absurd (cc)
good-has P (x ∷ xs) [] i k g e = absurd g
good-has P (x ∷ xs) (y ∷ ys) zero k g e = (y, refl)
good-has P (x ∷ xs) (y ∷ ys) (suc i) k g e = good-has P xs ys i k g.1 e

pub has-slot : (classes : List Class) (m : Memory) (n at : ℕ) (o : Object) (p : Prop) → TableFits classes m → object_of n m.objects ≡ Some o → slice_get (props_in classes o) at ≡ Some p → HasSlot m n at
has-slot classes m n at o p fits e got =
    let s = good-has (IsSlotOf classes m) (props_in classes o) o.slots at p (fits-at classes m n o fits e).slots got in
    (o, s.0, e, s.1)

pub within : {X : Type 0} (xs : List X) (i : ℕ) (x : X) → slice_get xs i ≡ Some x → i < length xs
within [] i x e = absurd (cc)
within (y ∷ ys) zero x e = omega arith
within (y ∷ ys) (suc i) x e = omega (arith, within ys i x e)

-- the property at the place of its name
pub named-at : (classes : List Class) (o : Object) (name : List ℕ) (at : ℕ) (p : Prop) → prop_place name (props_in classes o) ≡ Some at → slice_get (props_in classes o) at ≡ Some p → named_prop classes o name ≡ Some p
named-at classes o name at p place got = ap (prop_at (props_in classes o)) place ∙ got

pub prop_set : {X E : Type 0} (classes : List Class) (m w : Memory) (n : ℕ) (name : List ℕ) (f : Fill) (at level : ℕ) (o : Object) (p : Prop) (r : Result X E)
    → object_of n m.objects ≡ Some o → prop_place name (props_in classes o) ≡ Some at → slice_get (props_in classes o) at ≡ Some p → level ≡ o.level
    → OnOk r (FormSets classes m n at level (form_of p.kind) f w) → OnOk r (PropSets classes m n name f w)
prop_set classes m w n name f at level o p (Ok x) e place got lv h = (o, at, p, e, place, got, subst (λ l. FormSets classes m n at l (form_of p.kind) f w) lv h)
prop_set classes m w n name f at level o p (Err x) e place got lv h = tt

refused-by : (classes : List Class) (m : Memory) (n : ℕ) (name : List ℕ) (f : Fill) (o : Object) (p : Prop) (e : ShapeError) → object_of n m.objects ≡ Some o → named_prop classes o name ≡ Some p
    → Tells (FormRefuses classes m (form_of p.kind) f) e → Tells (PropRefuses classes m n name f) e
refused-by classes m n name f o p (Script k) e named h = (o, e, subst (λ x. PlaceRefuses classes m x f k) (sym named) h)
refused-by classes m n name f o p (Lack l) e named h = tt

pub prop_refused : {X : Type 0} (classes : List Class) (m w : Memory) (n : ℕ) (name : List ℕ) (f : Fill) (o : Object) (p : Prop) (r : Result X ShapeError) → object_of n m.objects ≡ Some o → named_prop classes o name ≡ Some p
    → IfErr r (λ e. (w ≡ let_gone m f) × Tells (FormRefuses classes m (form_of p.kind) f) e) → IfErr r (λ e. (w ≡ let_gone m f) × Tells (PropRefuses classes m n name f) e)
prop_refused classes m w n name f o p (Ok x) e named h = tt
prop_refused classes m w n name f o p (Err x) e named h = (h.0, refused-by classes m n name f o p x e named h.1)
