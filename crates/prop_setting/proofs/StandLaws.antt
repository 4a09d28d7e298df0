-- What stands as an element where no part is copied.
use Rattle.std.proofs.Common.{◌≡◌, ◌≢◌, ◌<◌, ◌^◌, ℕ, ◌-◌, IsTrue, Option, None, Some, Result, Ok, Err, IfOk, List, [], refl, ap, sym, subst, ◌∙◌, arith}
use Rattle.obj_kinds.specs.declared.name.ClassName.{ClassName}
use Rattle.obj_kinds.specs.declared.value.Value.TheVariants as value
use Rattle.obj_kinds.specs.declared.value.Value.TheViews.{out-Value}
use Rattle.obj_kinds.specs.Limits.{is_legal_text}
use Rattle.obj_kinds.proofs.ValueLaws.{out-Str}
use Rattle.schema_kinds.specs.declared.class.Class.{Class}
use Rattle.schema_kinds.specs.declared.kind.Item.{Item}
use Rattle.schema_kinds.specs.declared.kind.Item.TheVariants as of
use Rattle.oref_table.specs.declared.oref.Held.{Held}
use Rattle.oref_table.specs.declared.slot.Slot.{Slot}
use Rattle.oref_table.specs.declared.slot.Slot.TheViews.{out-Slot}
use Rattle.oref_table.specs.declared.fill.Fill.{Fill}
use Rattle.oref_table.specs.declared.fill.Fill.TheVariants as fill
use Rattle.oref_table.specs.Filling.{IsHeldFor, slot_from, passed}
use Rattle.oref_table.specs.Memory.{Memory, outside_of}
use Rattle.oref_table.specs.Refs.{times}
use Rattle.obj_shape.specs.Elements.{IsPlain}
use Rattle.obj_shape.specs.Fitting.{IsElement, TableFits}
use Rattle.obj_props.specs.Changes.{let_gone}
use Rattle.part_copies.proofs.CopyLaws.{out-Target, out-To}
use Rattle.prop_setting.specs.Elements.{ObjectTakes, Standing, Takes, ValueTakes, given_back, oref_text, slot_set, standing, stood, value_standing}
use Rattle.prop_setting.specs.Fits.{AreNamed, IsValue}
use Rattle.prop_setting.specs.Sets.{IsGiven}
use Rattle.prop_setting.specs.Standings.{IsHeldBack, IsNoCopy, IsPlainFilling, IsStanding, object_filling}
use Rattle.prop_setting.specs.declared.stand.Stand.{Stand}
use Rattle.prop_setting.proofs.TakeLaws.{legal-plain, oref-legal, plain-element}

-- ---- it is what is to stand there

pub value-stands : (classes : List Class) (m : Memory) (level : ℕ) (i : Item) (w : Fill) (s : Stand) → standing classes m level i w ≡ value_standing m w → (s.filling ≡ (value_standing m w).filling) × (s.back ≡ (value_standing m w).back) → IsStanding (standing classes m level i w) m s
value-stands classes m level i w s is h = subst (λ st. IsStanding st m s) (sym is) (record { filling = h.0; back = h.1; memory = same w })
  where
    same : (w : Fill) → (value_standing m w).memory ≡ m
    same (fill.To h) = refl
    same (fill.Plain v) = refl
    same (fill.Target id) = refl
    same fill.Nothing = refl

pub object-stands : (classes : List Class) (m : Memory) (level : ℕ) (c : ClassName) (w : Fill) (s : Stand) → s.filling ≡ object_filling w → s.back ≡ None → IsStanding (standing classes m level (of.Ref c) w) m s
object-stands classes m level c (fill.Plain v) s f b = record { filling = f; back = b; memory = refl }
object-stands classes m level c (fill.To h) s f b = record { filling = f; back = b; memory = refl }
object-stands classes m level c (fill.Target id) s f b = record { filling = f; back = b; memory = refl }
object-stands classes m level c fill.Nothing s f b = record { filling = f; back = b; memory = refl }

pub part-stands : (classes : List Class) (m : Memory) (level : ℕ) (c : ClassName) (w : Fill) (s : Stand) → IsNoCopy (of.Serial c) w → s.filling ≡ object_filling w → s.back ≡ None → IsStanding (standing classes m level (of.Serial c) w) m s
part-stands classes m level c (fill.Plain v) s n f b = record { filling = f; back = b; memory = refl }
part-stands classes m level c (fill.To h) s n f b = absurd n
part-stands classes m level c (fill.Target id) s n f b = absurd n
part-stands classes m level c fill.Nothing s n f b = absurd n

-- ---- holds

pub object-held : (m : Memory) (w filling : Fill) (back : Option Held) → filling ≡ object_filling w → back ≡ None → IsHeldFor m w → IsHeldFor m filling × IsHeldBack m filling back
unfolding IsHeldFor
object-held m w filling back f b h = (subst (λ g. IsHeldFor m g) (sym f) (go w h), subst (λ x. IsHeldBack m filling x) (sym b) tt)
  where
    go : (w : Fill) → IsHeldFor m w → IsHeldFor m (object_filling w)
    go (fill.Plain v) h = tt
    go (fill.To o) h = h
    go (fill.Target id) h = h
    go fill.Nothing h = h

pub back-held : (m w : Memory) (filling : Fill) (back : Option Held) → IsHeldBack m filling back → ((n : ℕ) → outside_of w n ≡ outside_of m n - times n (passed filling)) → (h : Held) → back ≡ Some h → 0 < outside_of w h.number
back-held m w filling back is holds h e =
    let held : IsHeldBack m filling (Some h) = subst (λ x. IsHeldBack m filling x) e is in
    omega (arith, holds h.number, held.0, ap (times h.number) held.1)

-- ---- some thing is given

pub object-some : (w filling : Fill) → filling ≡ object_filling w → IsGiven w → filling ≢ fill.Nothing
unfolding IsGiven
object-some (fill.Plain v) filling f given = λ e. let z : fill.Nothing ≡ fill.Target None = sym e ∙ f in absurd (cc)
object-some (fill.To h) filling f given = λ e. let z : fill.Nothing ≡ fill.To h = sym e ∙ f in absurd (cc)
object-some (fill.Target id) filling f given = absurd given
object-some fill.Nothing filling f given = absurd given

-- ---- it fits

value-fits : (classes : List Class) (m : Memory) (i : Item) (filling : Fill) → IsValue i → IsPlainFilling filling → IsElement classes m i (out-Slot (slot_from filling))
unfolding slot_from
value-fits classes m i (fill.Plain v) k h = plain-element classes m i v k h
value-fits classes m i (fill.To o) k h = absurd h
value-fits classes m i (fill.Target id) k h = absurd h
value-fits classes m i fill.Nothing k h = absurd h

takes-value : (classes : List Class) (m : Memory) (i : Item) (w : Fill) → IsValue i → Takes classes m i w → ValueTakes w
takes-value classes m of.Text w k h = h
takes-value classes m of.Whole w k h = h
takes-value classes m of.Truth w k h = h
takes-value classes m (of.Ref c) w k h = absurd k
takes-value classes m (of.Serial c) w k h = absurd k

pub value-elements : {E : Type 0} (m : Memory) (i : Item) (w : Fill) (r : Result Stand E) → IsValue i
    → IfOk r (λ s. (classes : List Class) → AreNamed classes → TableFits classes m → IsGiven w → ValueTakes w → IsPlainFilling s.filling)
    → IfOk r (λ s. (classes : List Class) → AreNamed classes → TableFits classes m → IsGiven w → Takes classes m i w → IsElement classes m i (out-Slot (slot_from s.filling)))
value-elements m i w (Ok s) k h = λ classes named fits given takes. value-fits classes m i s.filling k (h classes named fits given (takes-value classes m i w k takes))
value-elements m i w (Err e) k h = tt

pub object-fits : (classes : List Class) (m : Memory) (c : ClassName) (w filling : Fill) → filling ≡ object_filling w → ObjectTakes classes m (of.Ref c) w → IsElement classes m (of.Ref c) (out-Slot (slot_from filling))
unfolding slot_from
object-fits classes m c (fill.Plain v) filling f h = subst (λ (g : Fill). IsElement classes m (of.Ref c) (out-Slot (slot_from g))) (sym f) (subst (λ y. IsElement classes m (of.Ref c) y) (sym (out-Target None)) tt)
object-fits classes m c (fill.To o) filling f h = subst (λ (g : Fill). IsElement classes m (of.Ref c) (out-Slot (slot_from g))) (sym f) (subst (λ y. IsElement classes m (of.Ref c) y) (sym (out-To (record { 0 = o.number }))) h)
object-fits classes m c (fill.Target id) filling f h = absurd h
object-fits classes m c fill.Nothing filling f h = absurd h

pub part-fits : (classes : List Class) (m : Memory) (c : ClassName) (w filling : Fill) → IsNoCopy (of.Serial c) w → filling ≡ object_filling w → IsElement classes m (of.Serial c) (out-Slot (slot_from filling))
unfolding slot_from
part-fits classes m c (fill.Plain v) filling n f = subst (λ (g : Fill). IsElement classes m (of.Serial c) (out-Slot (slot_from g))) (sym f) (subst (λ y. IsElement classes m (of.Serial c) y) (sym (out-Target None)) refl)
part-fits classes m c (fill.To o) filling n f = absurd n
part-fits classes m c (fill.Target id) filling n f = absurd n
part-fits classes m c fill.Nothing filling n f = absurd n

-- ---- memory

pub stood-by : (m m1 w : Memory) (n at : ℕ) (whole : Slot → Slot) (st : Standing) (s : Stand) → IsStanding st m s → m1 ≡ slot_set m n at (whole (slot_from s.filling)) (passed s.filling) → w ≡ given_back m1 s.back → w ≡ stood n at whole st
stood-by m m1 w n at whole st s is put gone =
    gone ∙ ap (λ x. given_back x s.back) (put ∙ ap (λ f. slot_set m n at (whole (slot_from f)) (passed f)) is.filling ∙ ap (λ (x : Memory). slot_set x n at (whole (slot_from st.filling)) (passed st.filling)) (sym is.memory))
    ∙ ap (λ h. given_back (slot_set st.memory n at (whole (slot_from st.filling)) (passed st.filling)) h) is.back

-- what stands is given back
pub gone-standing : (classes : List Class) (m : Memory) (level : ℕ) (i : Item) (w : Fill) (s : Stand) → IsNoCopy i w → IsStanding (standing classes m level i w) m s → given_back (let_gone m s.filling) s.back ≡ let_gone m w
unfolding given_back let_gone
gone-standing classes m level i w s n is = ap (λ f. given_back (let_gone m f) s.back) is.filling ∙ ap (λ h. given_back (let_gone m (standing classes m level i w).filling) h) is.back ∙ by i w n
  where
    by : (i : Item) (w : Fill) → IsNoCopy i w → given_back (let_gone m (standing classes m level i w).filling) (standing classes m level i w).back ≡ let_gone m w
    by of.Text (fill.Plain v) n = refl
    by of.Text (fill.To h) n = refl
    by of.Text (fill.Target id) n = refl
    by of.Text fill.Nothing n = refl
    by of.Whole (fill.Plain v) n = refl
    by of.Whole (fill.To h) n = refl
    by of.Whole (fill.Target id) n = refl
    by of.Whole fill.Nothing n = refl
    by of.Truth (fill.Plain v) n = refl
    by of.Truth (fill.To h) n = refl
    by of.Truth (fill.Target id) n = refl
    by of.Truth fill.Nothing n = refl
    by (of.Ref c) (fill.Plain v) n = refl
    by (of.Ref c) (fill.To h) n = refl
    by (of.Ref c) (fill.Target id) n = refl
    by (of.Ref c) fill.Nothing n = refl
    by (of.Serial c) (fill.Plain v) n = refl
    by (of.Serial c) (fill.To h) n = absurd n
    by (of.Serial c) (fill.Target id) n = absurd n
    by (of.Serial c) fill.Nothing n = absurd n

pub reference-fits : (classes : List Class) (m : Memory) (i : Item) (c : ClassName) (w filling : Fill) → i ≡ of.Ref c → filling ≡ object_filling w → Takes classes m i w → IsElement classes m i (out-Slot (slot_from filling))
reference-fits classes m i c w filling e f h = subst (λ j. IsElement classes m j (out-Slot (slot_from filling))) (sym e) (object-fits classes m c w filling f (subst (λ j. Takes classes m j w) e h))

pub copy-fits : (classes : List Class) (m : Memory) (i : Item) (c : ClassName) (w filling : Fill) → i ≡ of.Serial c → IsNoCopy i w → filling ≡ object_filling w → IsElement classes m i (out-Slot (slot_from filling))
copy-fits classes m i c w filling e n f = subst (λ j. IsElement classes m j (out-Slot (slot_from filling))) (sym e) (part-fits classes m c w filling (subst (λ j. IsNoCopy j w) e n) f)

-- ---- a value

pub oref-plain : (classes : List Class) (m : Memory) (k : ℕ) (text : List ℕ) → text ≡ oref_text m k → k < 2 ^ 64 → AreNamed classes → TableFits classes m → IsPlain (out-Value (value.Str text))
oref-plain classes m k text is small named fits = subst IsPlain (sym (out-Str text)) (subst (λ x. IsTrue (is_legal_text x)) (sym is) (oref-legal classes m k small named fits))

pub other-stands : (m : Memory) (w : Fill) → ((h : Held) → w ≡ fill.To h → ⊥) → (w ≡ (value_standing m w).filling) × (None ≡ (value_standing m w).back)
other-stands m (fill.Plain v) n = (refl, refl)
other-stands m (fill.To h) n = absurd (n h refl)
other-stands m (fill.Target id) n = (refl, refl)
other-stands m fill.Nothing n = (refl, refl)

pub other-plain : (w : Fill) → ((h : Held) → w ≡ fill.To h → ⊥) → IsGiven w → ValueTakes w → IsPlainFilling w
unfolding IsGiven
other-plain (fill.Plain v) n given takes = legal-plain v given takes
other-plain (fill.To h) n given takes = absurd (n h refl)
other-plain (fill.Target id) n given takes = absurd takes
other-plain fill.Nothing n given takes = absurd takes

pub some-given : (w : Fill) → IsGiven w → w ≢ fill.Nothing
unfolding IsGiven
some-given w given = λ e. subst (λ f. IsGiven f) e given

-- ---- a refusal

none-gone : (m : Memory) (w : Fill) → passed w ≡ [] → let_gone m w ≡ m
unfolding let_gone passed
none-gone m (fill.Plain v) e = refl
none-gone m (fill.To h) e = absurd (cc)
none-gone m (fill.Target id) e = refl
none-gone m fill.Nothing e = refl

pub back-after : (m m1 w : Memory) (f g : Fill) (back : Option Held) → m1 ≡ m → g ≡ f → w ≡ let_gone m1 g → IsHeldBack m f back → (h : Held) → back ≡ Some h → 0 < outside_of w h.number
back-after m m1 w f g back same is gone held h e =
    let here : IsHeldBack m f (Some h) = subst (λ x. IsHeldBack m f x) e held in
    let none : passed g ≡ [] = ap passed is ∙ here.1 in
    subst (λ (x : Memory). 0 < outside_of x h.number) (sym (gone ∙ none-gone m1 g none ∙ same)) here.0

pub all-gone : (m m1 m2 w x : Memory) (f g : Fill) (back : Option Held) → m1 ≡ m → g ≡ f → m2 ≡ let_gone m1 g → w ≡ given_back m2 back → given_back (let_gone m f) back ≡ x → w ≡ x
all-gone m m1 m2 w x f g back same is gone given e =
    given ∙ ap (λ (y : Memory). given_back y back) (gone ∙ ap (λ (y : Memory). let_gone y g) same ∙ ap (let_gone m) is) ∙ e
