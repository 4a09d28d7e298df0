-- What the steps of a set come to, as what an element takes.
use Rattle.std.proofs.Common.{◌≡◌, ◌<◌, ℕ, ◌-◌, ◌∷◌, [], List, Option, None, Some, Result, Ok, Err, IfErr, OnOk, refl, ap, sym, subst, ◌∙◌, arith}
use Rattle.std.specs.Option.{IsSomeAnd, option_map}
use Rattle.obj_kinds.specs.declared.name.ClassName.{ClassName}
use Rattle.obj_kinds.specs.declared.value.Value.{Value}
use Rattle.obj_kinds.specs.declared.value.Value.TheVariants as value
use Rattle.obj_kinds.specs.declared.value.Value.TheViews.{out-Value}
use Rattle.obj_kinds.proofs.ValueLaws.{out-Str, out-List}
use Rattle.obj_kinds.specs.declared.error_name.ErrorName.{ErrorName}
use Rattle.obj_kinds.specs.declared.error_name.ErrorName.TheVariants as error
use Rattle.schema_kinds.specs.declared.class.Class.{Class}
use Rattle.schema_kinds.specs.declared.kind.Item.{Item}
use Rattle.schema_kinds.specs.declared.kind.Item.TheVariants as of
use Rattle.oref_table.specs.declared.oref.Held.{Held}
use Rattle.oref_table.specs.declared.slot.Slot.TheVariants.{Plain, Target, To}
use Rattle.oref_table.specs.declared.fill.Fill.{Fill}
use Rattle.oref_table.specs.declared.fill.Fill.TheVariants as fill
use Rattle.oref_table.specs.Memory.{Object, Memory, outside_of}
use Rattle.oref_table.specs.Refs.{times}
use Rattle.oref_table.specs.Filling.{IsHeldFor, slot_from, passed}
use Rattle.oref_table.specs.declared.obj.Obj.{Obj}
use Rattle.oref_table.specs.Kept.{as_kept}
use Rattle.obj_shape.specs.Fitting.{IsClassFor}
use Rattle.obj_props.specs.Changes.{let_gone}
use Rattle.obj_props.specs.Contents.{IsLack}
use Rattle.obj_props.specs.declared.got.ShapeError.{ShapeError}
use Rattle.obj_props.specs.declared.got.ShapeError.TheVariants.{Script, Lack}
use Rattle.prop_setting.specs.Elements.{IsText, IsEmptyText, ValueTakes, ObjectTakes, MayStand, value_standing, reference_standing, part_standing, slot_set, given_back, stood}
use Rattle.prop_setting.specs.Sets.{Tells}

-- ---- a value

pub is-text : (v : Value) (text : List ℕ) → v ≡ value.Str text → IsText (out-Value v)
is-text v text e = subst (λ (x : Value). IsText (out-Value x)) (sym e) (subst IsText (sym (out-Str text)) tt)

pub no_text : (v : Value) (vs : List Value) → v ≡ value.List vs → ¬ IsText (out-Value v)
no_text v vs e h = subst IsText (out-List vs) (subst (λ (x : Value). IsText (out-Value x)) e h)

pub put_text : (m w : Memory) (n at : ℕ) (v : Value) (text : List ℕ) → v ≡ value.Str text → w ≡ slot_set m n at (slot_from (fill.Plain (value.Str text))) (passed (fill.Plain (value.Str text)))
    → IsText (out-Value v) × (w ≡ slot_set m n at (Plain v) [])
unfolding slot_from passed
put_text m w n at v text e put = (is-text v text e, put ∙ ap (λ x. slot_set m n at (Plain x) []) (sym e))

plain-stood : (m : Memory) (n at : ℕ) (v : Value) → stood n at (λ s. s) (value_standing m (fill.Plain v)) ≡ slot_set m n at (Plain v) []
unfolding given_back slot_from passed
plain-stood m n at v = refl

pub value_plain : {X E : Type 0} (m w : Memory) (n at : ℕ) (f : Fill) (v : Value) (r : Result X E) → f ≡ fill.Plain v → OnOk r (IsText (out-Value v) × (w ≡ slot_set m n at (Plain v) []))
    → OnOk r (ValueTakes f × (w ≡ stood n at (λ s. s) (value_standing m f)))
value_plain m w n at f v (Ok x) e h = subst (λ (g : Fill). ValueTakes g × (w ≡ stood n at (λ s. s) (value_standing m g))) (sym e) (h.0, h.1 ∙ sym (plain-stood m n at v))
value_plain m w n at f v (Err x) e h = tt

let_gone-plain : (m : Memory) (v : Value) → let_gone m (fill.Plain v) ≡ m
unfolding let_gone
let_gone-plain m v = refl

pub value_refused : {X : Type 0} (m w : Memory) (f : Fill) (v : Value) (r : Result X ShapeError) → f ≡ fill.Plain v → IfErr r (λ e. (w ≡ m) × ((¬ IsText (out-Value v)) × (e ≡ Script error.List)))
    → IfErr r (λ e. (w ≡ let_gone m f) × Tells (λ n. (¬ ValueTakes f) × (n ≡ error.List)) e)
value_refused m w f v (Ok x) e h = tt
value_refused m w f v (Err x) e h =
    subst (λ (g : Fill). (w ≡ let_gone m g) × Tells (λ n. (¬ ValueTakes g) × (n ≡ error.List)) x) (sym e)
    (h.0 ∙ sym (let_gone-plain m v), subst (λ y. Tells (λ n. (¬ IsText (out-Value v)) × (n ≡ error.List)) y) (sym h.1.1) (h.1.0, refl))

-- ---- an object as its text

pub put_oref : (m m1 w : Memory) (n at : ℕ) (h : Held) (text : List ℕ) → m1 ≡ slot_set m n at (slot_from (fill.Plain (value.Str text))) (passed (fill.Plain (value.Str text))) → w ≡ given_back m1 (Some h)
    → (value_standing m (fill.To h)).filling ≡ fill.Plain (value.Str text) → w ≡ stood n at (λ s. s) (value_standing m (fill.To h))
put_oref m m1 w n at h text put gone is =
    gone ∙ ap (λ x. given_back x (Some h)) (put ∙ ap (λ f. slot_set m n at (slot_from f) (passed f)) (sym is))

pub still-held : (m w : Memory) (k : ℕ) (v : Value) → ((j : ℕ) → outside_of w j ≡ outside_of m j - times j (passed (fill.Plain v))) → 0 < outside_of m k → 0 < outside_of w k
unfolding passed
still-held m w k v holds h = omega (arith, holds k, h)

pub value_object : {X E : Type 0} (m w : Memory) (n at : ℕ) (f : Fill) (h : Held) (r : Result X E) → f ≡ fill.To h → OnOk r (w ≡ stood n at (λ s. s) (value_standing m (fill.To h)))
    → OnOk r (ValueTakes f × (w ≡ stood n at (λ s. s) (value_standing m f)))
value_object m w n at f h (Ok x) e g = subst (λ (y : Fill). ValueTakes y × (w ≡ stood n at (λ s. s) (value_standing m y))) (sym e) (tt, g)
value_object m w n at f h (Err x) e g = tt

lack-tells : (P : ErrorName → Type 0) (e : ShapeError) → IsLack e → Tells P e
lack-tells P (Script n) h = absurd h
lack-tells P (Lack l) h = tt

let_gone-object : (m : Memory) (h : Held) → given_back m (Some h) ≡ let_gone m (fill.To h)
unfolding let_gone given_back
let_gone-object m h = refl

pub object_lacks : {X : Type 0} (m w : Memory) (f : Fill) (h : Held) (r : Result X ShapeError) → f ≡ fill.To h → IfErr r (λ e. (w ≡ given_back m (Some h)) × IsLack e)
    → IfErr r (λ e. (w ≡ let_gone m f) × Tells (λ n. (¬ ValueTakes f) × (n ≡ error.List)) e)
object_lacks m w f h (Ok x) e g = tt
object_lacks m w f h (Err x) e g =
    (g.0 ∙ let_gone-object m h ∙ ap (let_gone m) (sym e), lack-tells (λ n. (¬ ValueTakes f) × (n ≡ error.List)) x g.1)

-- ---- a reference or a part gets nothing

is-empty : (v : Value) (text : List ℕ) → v ≡ value.Str text → IsEmptyText (out-Value v) → text ≡ []
is-empty v text e h = subst IsEmptyText (out-Str text) (subst (λ (x : Value). IsEmptyText (out-Value x)) e h)

nothing-stood : (m : Memory) (n at : ℕ) (v : Value) → stood n at (λ s. s) (reference_standing m (fill.Plain v)) ≡ slot_set m n at (Target None) []
unfolding given_back slot_from passed
nothing-stood m n at v = refl

pub put_none : (m w : Memory) (n at : ℕ) → w ≡ slot_set m n at (slot_from (fill.Target None)) (passed (fill.Target None)) → w ≡ slot_set m n at (Target None) []
unfolding slot_from passed
put_none m w n at put = put

pub nothing_set : {X E : Type 0} (classes : List Class) (m w : Memory) (n at : ℕ) (i : Item) (f : Fill) (v : Value) (r : Result X E) → f ≡ fill.Plain v → OnOk r (IsEmptyText (out-Value v) × (w ≡ slot_set m n at (Target None) []))
    → OnOk r (ObjectTakes classes m i f × (w ≡ stood n at (λ s. s) (reference_standing m f)))
nothing_set classes m w n at i f v (Ok x) e h = subst (λ (g : Fill). ObjectTakes classes m i g × (w ≡ stood n at (λ s. s) (reference_standing m g))) (sym e) (h.0, h.1 ∙ sym (nothing-stood m n at v))
nothing_set classes m w n at i f v (Err x) e h = tt

pub nothing_part : {X E : Type 0} (classes : List Class) (m w : Memory) (n at level : ℕ) (c : ClassName) (f : Fill) (v : Value) (r : Result X E) → f ≡ fill.Plain v → OnOk r (IsEmptyText (out-Value v) × (w ≡ slot_set m n at (Target None) []))
    → OnOk r (ObjectTakes classes m (of.Serial c) f × (w ≡ stood n at (λ s. s) (part_standing classes m level c f)))
nothing_part classes m w n at level c f v (Ok x) e h = subst (λ (g : Fill). ObjectTakes classes m (of.Serial c) g × (w ≡ stood n at (λ s. s) (part_standing classes m level c g))) (sym e) (h.0, h.1 ∙ sym (nothing-stood m n at v))
nothing_part classes m w n at level c f v (Err x) e h = tt

pub nothing_refused : {X : Type 0} (classes : List Class) (m w : Memory) (i : Item) (f : Fill) (v : Value) (r : Result X ShapeError) → f ≡ fill.Plain v → IfErr r (λ e. (w ≡ m) × ((¬ IsEmptyText (out-Value v)) × (e ≡ Script error.CannotSetThisProperty)))
    → IfErr r (λ e. (w ≡ let_gone m f) × Tells (λ n. (¬ ObjectTakes classes m i f) × (n ≡ error.CannotSetThisProperty)) e)
nothing_refused classes m w i f v (Ok x) e h = tt
nothing_refused classes m w i f v (Err x) e h =
    subst (λ (g : Fill). (w ≡ let_gone m g) × Tells (λ n. (¬ ObjectTakes classes m i g) × (n ≡ error.CannotSetThisProperty)) x) (sym e)
    (h.0 ∙ sym (let_gone-plain m v), subst (λ y. Tells (λ n. (¬ IsEmptyText (out-Value v)) × (n ≡ error.CannotSetThisProperty)) y) (sym h.1.1) (h.1.0, refl))

-- ---- a reference gets an object

object-stood : (m : Memory) (n at : ℕ) (h : Held) → stood n at (λ s. s) (reference_standing m (fill.To h)) ≡ slot_set m n at (To (record { 0 = h.number })) (h.number ∷ [])
unfolding given_back slot_from passed
object-stood m n at h = refl

pub put_object : (m w : Memory) (n at : ℕ) (h : Held) → w ≡ slot_set m n at (slot_from (fill.To h)) (passed (fill.To h)) → w ≡ slot_set m n at (To (record { 0 = h.number })) (h.number ∷ [])
unfolding slot_from passed
put_object m w n at h put = put

pub object_set : {X E : Type 0} (classes : List Class) (m w : Memory) (n at : ℕ) (i : Item) (f : Fill) (h : Held) (r : Result X E) → f ≡ fill.To h
    → OnOk r (MayStand classes m i h.number × (w ≡ slot_set m n at (To (record { 0 = h.number })) (h.number ∷ [])))
    → OnOk r (ObjectTakes classes m i f × (w ≡ stood n at (λ s. s) (reference_standing m f)))
object_set classes m w n at i f h (Ok x) e g = subst (λ (y : Fill). ObjectTakes classes m i y × (w ≡ stood n at (λ s. s) (reference_standing m y))) (sym e) (g.0, g.1 ∙ sym (object-stood m n at h))
object_set classes m w n at i f h (Err x) e g = tt

pub object_refused : {X : Type 0} (classes : List Class) (m w : Memory) (i : Item) (f : Fill) (h : Held) (r : Result X ShapeError) → f ≡ fill.To h
    → IfErr r (λ e. (w ≡ given_back m (Some h)) × ((¬ MayStand classes m i h.number) × (e ≡ Script error.CannotSetThisProperty)))
    → IfErr r (λ e. (w ≡ let_gone m f) × Tells (λ n. (¬ ObjectTakes classes m i f) × (n ≡ error.CannotSetThisProperty)) e)
object_refused classes m w i f h (Ok x) e g = tt
object_refused classes m w i f h (Err x) e g =
    subst (λ (y : Fill). (w ≡ let_gone m y) × Tells (λ n. (¬ ObjectTakes classes m i y) × (n ≡ error.CannotSetThisProperty)) x) (sym e)
    (g.0 ∙ let_gone-object m h, subst (λ y. Tells (λ n. (¬ MayStand classes m i h.number) × (n ≡ error.CannotSetThisProperty)) y) (sym g.1.1) (g.1.0, refl))

pub held_object : (m : Memory) (f : Fill) (h : Held) → f ≡ fill.To h → IsHeldFor m f → 0 < outside_of m h.number
unfolding IsHeldFor
held_object m f h e is = let g : IsHeldFor m (fill.To h) = subst (λ (y : Fill). IsHeldFor m y) e is in g

-- ---- the class of an object

stands-by : (classes : List Class) (m : Memory) (i : Item) (objects : List Object) (x : Option Object) (v : Obj) → Some v ≡ option_map (as_kept objects) x → IsSomeAnd x (λ o. IsClassFor classes i o.class) ≡ IsClassFor classes i v.class
stands-by classes m i objects None v e = absurd (cc)
stands-by classes m i objects (Some o) v e = let is : v ≡ as_kept objects o = cc in ap (λ (u : Obj). IsClassFor classes i u.class) (sym is)
