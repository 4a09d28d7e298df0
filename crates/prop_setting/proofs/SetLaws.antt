-- What memory is once a slot is set, and that it fits.
use Rattle.std.proofs.Common.{◌≡◌, ℕ, zero, suc, ◌==◌, cond, Bool, true, false, List, [], ◌∷◌, slice_get, slice_set, Option, None, Some, refl, ap, sym, subst, ◌∙◌, arith}
use Rattle.schema_kinds.specs.declared.class.Class.{Class}
use Rattle.schema_kinds.specs.Classes.{class_of, props_of}
use Rattle.record_layout.specs.Inverse.{AreGood}
use Rattle.oref_table.specs.declared.oref.Held.{Held}
use Rattle.oref_table.specs.declared.slot.Slot.{Slot}
use Rattle.oref_table.specs.declared.fill.Fill.{Fill}
use Rattle.oref_table.specs.declared.fill.Fill.TheVariants as fill
use Rattle.oref_table.specs.declared.fill.Place.TheVariants as place
use Rattle.oref_table.specs.Memory.{Object, Memory, object_of, is_numbered, changed, edited, loosen, loosened, loosed, outside_of, with_mark}
use Rattle.oref_table.specs.Dropping.{dropped}
use Rattle.oref_table.specs.Filling.{IsHeldFor, slot_from, passed, with_slot}
use Rattle.oref_table.specs.Places.{IsFilledTo}
use Rattle.oref_table.specs.Sound.{AreRising, IsSound}
use Rattle.oref_table.proofs.OutsideLaws.{outside-edit}
use Rattle.oref_table.proofs.AlikeLaws.{AreAlike, rising-alike, alike-at_first, alike-map}
use Rattle.obj_shape.specs.Fitting.{IsSlotOf, FitsSchema, TableFits}
use Rattle.obj_shape.proofs.FitLaws.{fits-at}
use Rattle.obj_shape.proofs.Keeping.{fits-edited, fits-loosed, fits-dropped}
use Rattle.obj_props.specs.Changes.{HasSlot, let_gone}
use Rattle.obj_props.proofs.PartLaws.{same-slots, filled-is}
use Rattle.prop_setting.specs.Elements.{changed_slot, slot_set, given_back}
use Rattle.prop_setting.specs.Fits.{TakesSlot}

-- ---- an object is changed twice

twice : (n : ℕ) (f g : Object → Object) → ((o : Object) → (f o).number ≡ o.number) → (os : List Object) → changed n g (changed n f os) ≡ changed n (λ o. g (f o)) os
twice n f g num [] = refl
twice n f g num (x ∷ os) = by (is_numbered n x) refl (twice n f g num os)
  where
    by : (b : Bool) → is_numbered n x ≡ b → changed n g (changed n f os) ≡ changed n (λ o. g (f o)) os → changed n g (cond b (f x ∷ os) (x ∷ changed n f os)) ≡ cond b (g (f x) ∷ os) (x ∷ changed n (λ o. g (f o)) os)
    by true is rest = let there : is_numbered n (f x) ≡ true = ap (λ j. j == n) (num x) ∙ is in rw there refl
    by false is rest = rw is (ap (λ ys. x ∷ ys) rest)

pub edited-twice : (m : Memory) (n : ℕ) (f g : Object → Object) → ((o : Object) → (f o).number ≡ o.number) → edited (edited m n f) n g ≡ edited m n (λ o. g (f o))
unfolding edited
edited-twice m n f g num = ap (λ os. record m { objects = os }) (twice n f g num m.objects)

-- ---- the mark changes neither slots nor holds

pub slot-marked : (m : Memory) (n at : ℕ) (b : Bool) → HasSlot m n at → HasSlot (edited m n (with_mark b)) n at
unfolding edited
slot-marked m n at b h =
    let u = same-slots n (with_mark b) (λ o. refl) (λ o. refl) m.objects n h.0 h.2 in
    (u.0, h.1, u.1, ap (λ ss. slice_get ss at) u.2 ∙ h.3)

pub outside-marked : (m : Memory) (n : ℕ) (b : Bool) (k : ℕ) → outside_of (edited m n (with_mark b)) k ≡ outside_of m k
outside-marked m n b k = outside-edit m k n (with_mark b) (λ o. refl) (λ o. refl)

pub held-marked : (m : Memory) (n : ℕ) (b : Bool) (w : Fill) → IsHeldFor m w → IsHeldFor (edited m n (with_mark b)) w
unfolding IsHeldFor
held-marked m n b (fill.To h) is = omega (arith, is, outside-marked m n b h.number)
held-marked m n b (fill.Plain v) is = tt
held-marked m n b (fill.Target id) is = tt
held-marked m n b fill.Nothing is = tt

-- ---- the slot is set

pub put-memory : (m m1 w : Memory) (n at : ℕ) (f : Fill) → m1 ≡ edited m n (with_mark true) → IsFilledTo m1 w n (place.Slot at) f → w ≡ slot_set m n at (slot_from f) (passed f)
unfolding slot_set
put-memory m m1 w n at f marked filled =
    filled-is m1 w n at f filled
    ∙ ap (λ x. dropped (loosed (edited x n (with_slot at (slot_from f))) (passed f))) marked
    ∙ ap (λ x. dropped (loosed x (passed f))) (edited-twice m n (with_mark true) (with_slot at (slot_from f)) (λ o. refl))

-- ---- it fits

good-set : {K B : Type 0} (P : K → B → Type 0) (ks : List K) (bs : List B) (i : ℕ) (k : K) (b : B) → AreGood P ks bs → slice_get ks i ≡ Some k → P k b → AreGood P ks (slice_set bs i b)
good-set P [] bs i k b g e p = absurd (cc)
good-set P (x ∷ xs) [] i k b g e p = absurd g
good-set P (x ∷ xs) (y ∷ ys) zero k b g e p = let same : x ≡ k = cc in (subst (λ z. P z b) (sym same) p, g.1)
good-set P (x ∷ xs) (y ∷ ys) (suc i) k b g e p = (g.0, good-set P xs ys i k b g.1 e p)

changed-fits : (classes : List Class) (m : Memory) (n at : ℕ) (slot : Slot) (o : Object) → TakesSlot classes m n at slot → object_of n m.objects ≡ Some o → FitsSchema classes m o → FitsSchema classes m (changed_slot at slot o)
changed-fits classes m n at slot o t e f =
    let same : t.0 ≡ o = cc in
    let prop : slice_get (props_of (class_of classes o.class)) at ≡ Some t.1 = subst (λ (x : Object). slice_get (props_of (class_of classes x.class)) at ≡ Some t.1) same t.3 in
    record {
      class = f.class;
      extent = f.extent;
      id = f.id;
      level = f.level;
      slots = good-set (IsSlotOf classes m) (props_of (class_of classes o.class)) o.slots at t.1 slot f.slots prop t.4;
    }

rising-set : (m : Memory) (n at : ℕ) (slot : Slot) (holds : List ℕ) → IsSound m → AreRising 0 m.last (loosened holds (changed n (changed_slot at slot) m.objects))
rising-set m n at slot holds s =
    let g : Object → Object = changed_slot at slot in
    let left : AreAlike true false m.objects (changed n g m.objects) = alike-at_first true false (is_numbered n) g (λ o. record { number = refl; extent = λ k. refl; id = λ k. refl; refs = λ k. cc }) m.objects in
    let right : AreAlike true false (changed n g m.objects) (loosened holds (changed n g m.objects)) = alike-map true false (loosen holds) (λ o. record { number = refl; extent = λ k. refl; id = λ k. refl; refs = λ k. cc }) (changed n g m.objects) in
    rising-alike true false 0 m.last (changed n g m.objects) (loosened holds (changed n g m.objects)) right (rising-alike true false 0 m.last m.objects (changed n g m.objects) left s.rising)

pub fits-set : (classes : List Class) (m : Memory) (n at : ℕ) (slot : Slot) (holds : List ℕ) → IsSound m → IsSound (slot_set m n at slot holds) → TakesSlot classes m n at slot → TableFits classes m → TableFits classes (slot_set m n at slot holds)
unfolding slot_set edited loosed
fits-set classes m n at slot holds s end t h =
    fits-dropped classes (loosed (edited m n (changed_slot at slot)) holds) (rising-set m n at slot holds s) end
    (fits-loosed classes (edited m n (changed_slot at slot)) holds
    (fits-edited classes m n (changed_slot at slot) (λ o. refl) (λ o. refl) (λ o e. changed-fits classes m n at slot o t e (fits-at classes m n o h e)) h))

-- ---- a hold is given back

rising-loosed : (m : Memory) (holds : List ℕ) → IsSound m → AreRising 0 m.last (loosened holds m.objects)
rising-loosed m holds s =
    rising-alike true false 0 m.last m.objects (loosened holds m.objects) (alike-map true false (loosen holds) (λ o. record { number = refl; extent = λ k. refl; id = λ k. refl; refs = λ k. cc }) m.objects) s.rising

pub fits-let_go : (classes : List Class) (m : Memory) (holds : List ℕ) → IsSound m → IsSound (dropped (loosed m holds)) → TableFits classes m → TableFits classes (dropped (loosed m holds))
unfolding loosed
fits-let_go classes m holds s end h = fits-dropped classes (loosed m holds) (rising-loosed m holds s) end (fits-loosed classes m holds h)

pub fits-back : (classes : List Class) (m : Memory) (h : Option Held) → IsSound m → IsSound (given_back m h) → TableFits classes m → TableFits classes (given_back m h)
unfolding given_back
fits-back classes m None s end h = h
fits-back classes m (Some held) s end h = fits-let_go classes m (held.number ∷ []) s end h

pub fits-gone : (classes : List Class) (m : Memory) (w : Fill) → IsSound m → IsSound (let_gone m w) → TableFits classes m → TableFits classes (let_gone m w)
unfolding let_gone
fits-gone classes m (fill.To held) s end h = fits-let_go classes m (held.number ∷ []) s end h
fits-gone classes m (fill.Plain v) s end h = h
fits-gone classes m (fill.Target id) s end h = h
fits-gone classes m fill.Nothing s end h = h

pub let_gone-is : (m : Memory) (held : Held) → let_gone m (fill.To held) ≡ given_back m (Some held)
unfolding let_gone given_back
let_gone-is m held = refl
