-- What memory has behind a new object, a hold more, and a slot that is filled.
use Rattle.std.proofs.Common.{◌≡◌, ◌<◌, ℕ, ◌+◌, ◌==◌, cond, Bool, true, false, List, [], ◌∷◌, ◌++◌, slice_get, slice_set, Option, None, Some, IsSome, refl, ap, sym, subst, ◌∙◌, arith, ◌^◌, lit<}
use Rattle.std.proofs.lemmas.Bool.{eq-eqb}
use Rattle.oref_table.specs.declared.oref.Held.{Held}
use Rattle.oref_table.specs.declared.slot.Slot.{Slot}
use Rattle.oref_table.specs.declared.slot.Slot.TheVariants.{To}
use Rattle.oref_table.specs.declared.fill.Fill.{Fill}
use Rattle.oref_table.specs.declared.fill.Fill.TheVariants as fill
use Rattle.oref_table.specs.declared.fill.Place.TheVariants as place
use Rattle.oref_table.specs.Refs.{times, refs_in}
use Rattle.oref_table.specs.Memory.{Object, Memory, object_of, is_numbered, object_refs, refs_among, changed, edited, loosed, with_object, fresh, tighten}
use Rattle.oref_table.specs.Kept.{holders_of, holders_part}
use Rattle.oref_table.specs.Sound.{IsSound}
use Rattle.oref_table.specs.Dropping.{dropped}
use Rattle.oref_table.specs.Filling.{slot_from, passed, with_slot, with_slots}
use Rattle.oref_table.specs.Places.{PartFills, PartTakes, MayFill, IsFilledTo}
use Rattle.oref_table.proofs.Lowered.{times-append}
use Rattle.oref_table.proofs.MakeLaws.{absent-beyond}
use Rattle.obj_kinds.specs.declared.name.ClassName.{ClassName}
use Rattle.obj_props.specs.Changes.{HasSlot}
use Rattle.obj_props.specs.Properties.{part_made}

-- ---- an object is new

pub found-new : (os : List Object) (x : Object) → object_of x.number os ≡ None → object_of x.number (os ++ x ∷ []) ≡ Some x
found-new [] x e = rw (eq-eqb x.number x.number refl) refl
found-new (o ∷ os) x e = by (is_numbered x.number o) e (found-new os x)
  where
    by : (b : Bool) → cond b (Some o) (object_of x.number os) ≡ None → (object_of x.number os ≡ None → object_of x.number (os ++ x ∷ []) ≡ Some x)
        → cond b (Some o) (object_of x.number (os ++ x ∷ [])) ≡ Some x
    by true g rest = absurd (cc)
    by false g rest = rest g

refs-added : (n : ℕ) (os : List Object) (x : Object) → times n (refs_among (os ++ x ∷ [])) ≡ times n (refs_among os) + times n (object_refs x)
refs-added n [] x = omega (arith, times-append n (object_refs x) [])
refs-added n (o ∷ os) x =
    omega (arith, times-append n (object_refs o) (refs_among (os ++ x ∷ [])), times-append n (object_refs o) (refs_among os), refs-added n os x)

-- it has the holds outside that it was made with
pub new-holders : (m : Memory) (x : Object) → IsSound m → x.number ≡ m.last + 1 → object_refs x ≡ [] → holders_of (with_object m x) x.number ≡ x.outside
unfolding holders_of with_object
new-holders m x s new none =
    let absent : object_of x.number m.objects ≡ None = absent-beyond x.number 0 m.last m.objects s.rising (omega (arith, new)) in
    let unnamed : times x.number (refs_among m.objects) ≡ 0 = s.closed x.number absent in
    let own : times x.number (object_refs x) ≡ 0 = ap (times x.number) none in
    ap (holders_part (m.objects ++ x ∷ [])) (found-new m.objects x absent) ∙ omega (arith, refs-added x.number m.objects x, unnamed, own)

pub new-live : (m : Memory) (x : Object) → IsSound m → x.number ≡ m.last + 1 → object_of x.number (with_object m x).objects ≡ Some x
unfolding with_object
new-live m x s new = found-new m.objects x (absent-beyond x.number 0 m.last m.objects s.rising (omega (arith, new)))

pub old-found : (os : List Object) (x : Object) (n : ℕ) (o : Object) → object_of n os ≡ Some o → object_of n (os ++ x ∷ []) ≡ Some o
old-found [] x n o e = absurd (cc)
old-found (y ∷ ys) x n o e = by (is_numbered n y) e (old-found ys x n o)
  where
    by : (b : Bool) → cond b (Some y) (object_of n ys) ≡ Some o → (object_of n ys ≡ Some o → object_of n (ys ++ x ∷ []) ≡ Some o) → cond b (Some y) (object_of n (ys ++ x ∷ [])) ≡ Some o
    by true g rest = g
    by false g rest = rest g

-- ---- an object is changed

-- the object of the number, where another one or it is changed without its number and its slots
pub same-slots : (k : ℕ) (f : Object → Object) → ((o : Object) → (f o).number ≡ o.number) → ((o : Object) → (f o).slots ≡ o.slots) → (os : List Object) (n : ℕ) (o : Object) → object_of n os ≡ Some o
    → (u : Object) × (object_of n (changed k f os) ≡ Some u) × (u.slots ≡ o.slots)
same-slots k f num slots [] n o e = absurd (cc)
same-slots k f num slots (x ∷ xs) n o e = by (is_numbered k x) (same-slots k f num slots xs n o)
  where
    by : (b : Bool) → (object_of n xs ≡ Some o → (u : Object) × (object_of n (changed k f xs) ≡ Some u) × (u.slots ≡ o.slots))
        → (u : Object) × (object_of n (cond b (f x ∷ xs) (x ∷ changed k f xs)) ≡ Some u) × (u.slots ≡ o.slots)
    by true rest = first (is_numbered n x) refl e
      where
        first : (c : Bool) → is_numbered n x ≡ c → cond c (Some x) (object_of n xs) ≡ Some o → (u : Object) × (object_of n (f x ∷ xs) ≡ Some u) × (u.slots ≡ o.slots)
        first true is g =
            let there : is_numbered n (f x) ≡ true = ap (λ j. j == n) (num x) ∙ is in
            let as_is : x ≡ o = cc in
            (f x, rw there refl, slots x ∙ ap (λ (y : Object). y.slots) as_is)
        first false is g =
            let other : is_numbered n (f x) ≡ false = ap (λ j. j == n) (num x) ∙ is in
            (o, rw other g, refl)
    by false rest = second (is_numbered n x) refl e
      where
        second : (c : Bool) → is_numbered n x ≡ c → cond c (Some x) (object_of n xs) ≡ Some o → (u : Object) × (object_of n (x ∷ changed k f xs) ≡ Some u) × (u.slots ≡ o.slots)
        second true is g = let as_is : x ≡ o = cc in (x, rw is refl, ap (λ (y : Object). y.slots) as_is)
        second false is g = let u = rest g in (u.0, rw is u.1, u.2)

-- what is done to an object counts alone
pub edited-as : (m : Memory) (n : ℕ) (f g : Object → Object) (o : Object) → object_of n m.objects ≡ Some o → f o ≡ g o → edited m n f ≡ edited m n g
unfolding edited
edited-as m n f g o e same = ap (λ os. record m { objects = os }) (go m.objects e)
  where
    step : (x : Object) (xs : List Object) (b : Bool) → cond b (Some x) (object_of n xs) ≡ Some o → (object_of n xs ≡ Some o → changed n f xs ≡ changed n g xs)
        → cond b (f x ∷ xs) (x ∷ changed n f xs) ≡ cond b (g x ∷ xs) (x ∷ changed n g xs)
    step x xs true h rest = let as_is : x ≡ o = cc in ap (λ y. y ∷ xs) (ap f as_is ∙ same ∙ ap g (sym as_is))
    step x xs false h rest = ap (λ ys. x ∷ ys) (rest h)

    go : (os : List Object) → object_of n os ≡ Some o → changed n f os ≡ changed n g os
    go [] h = refl
    go (x ∷ xs) h = step x xs (is_numbered n x) h (go xs)

-- ---- a slot is filled

pub may-fill : (m : Memory) (n at : ℕ) (with_ : Fill) → HasSlot m n at → MayFill m n (place.Slot at) with_
unfolding PartTakes
may-fill m n at with_ h = (h.0, h.2, (h.1, h.3, tt))

pub slot-live : (m : Memory) (n at : ℕ) → HasSlot m n at → IsSome (object_of n m.objects)
slot-live m n at h = subst (λ (x : Option Object). IsSome x) (sym h.2) refl

pub filled-is : (m w : Memory) (n at : ℕ) (with_ : Fill) → IsFilledTo m w n (place.Slot at) with_ → w ≡ dropped (loosed (edited m n (with_slot at (slot_from with_))) (passed with_))
unfolding PartFills
filled-is m w n at with_ h =
    let o = h.0 in
    let slots = h.1 in
    let fills = h.3 in
    let new : slots ≡ slice_set o.slots at (slot_from with_) = fills.4 ∙ ap (λ p. slice_set o.slots at p) fills.3 in
    h.4 ∙ ap (λ x. dropped (loosed x (passed with_)))
    (edited-as m n (with_slots (λ _. slots)) (with_slot at (slot_from with_)) o h.2 (ap (λ ss. record o { slots = ss }) new))

pub part-filled : (m w : Memory) (n at k : ℕ) (h : Held) → h.number ≡ k → IsFilledTo m w n (place.Slot at) (fill.To h) → w ≡ dropped (loosed (edited m n (with_slot at (To (record { 0 = k })))) (k ∷ []))
unfolding slot_from passed
part-filled m w n at k h e f =
    filled-is m w n at (fill.To h) f ∙ ap (λ j. dropped (loosed (edited m n (with_slot at (To (record { 0 = j })))) (j ∷ []))) e

-- the slot of the holder is still there
pub slot-stays : (m : Memory) (x : Object) (k : ℕ) (f : Object → Object) (n at : ℕ) → ((o : Object) → (f o).number ≡ o.number) → ((o : Object) → (f o).slots ≡ o.slots) → HasSlot m n at
    → HasSlot (edited (with_object m x) k f) n at
unfolding edited with_object
slot-stays m x k f n at num slots h =
    let u = same-slots k f num slots (m.objects ++ x ∷ []) n h.0 (old-found m.objects x n h.0 h.2) in
    (u.0, h.1, u.1, ap (λ ss. slice_get ss at) u.2 ∙ h.3)

pub passed-to : (h : Held) → passed (fill.To h) ≡ h.number ∷ []
unfolding passed
passed-to h = refl

-- what the three steps of a new part leave
pub part-memory : (m m1 m2 w : Memory) (class : ClassName) (extent : Option ClassName) (level : ℕ) (slots : List Slot) (n at number : ℕ) (again : Held)
    → m1 ≡ with_object m (fresh m class extent None level slots) → number ≡ m.last + 1 → m2 ≡ edited m1 number tighten → again.number ≡ number → IsFilledTo m2 w n (place.Slot at) (fill.To again)
    → w ≡ part_made m n level at class extent slots (To (record { 0 = m.last + 1 }))
part-memory m m1 m2 w class extent level slots n at number again made num held same filled =
    part-filled m2 w n at (m.last + 1) again (same ∙ num) filled
    ∙ ap (λ x. dropped (loosed (edited x n (with_slot at (To (record { 0 = m.last + 1 })))) ((m.last + 1) ∷ [])))
    (held ∙ ap (λ x. edited x number tighten) made ∙ ap (λ k. edited (with_object m (fresh m class extent None level slots)) k tighten) num)

-- the new part may be held once more
pub part-few : (m m1 : Memory) (class : ClassName) (extent : Option ClassName) (level : ℕ) (slots : List Slot) (number : ℕ) → IsSound m → refs_in slots ≡ []
    → m1 ≡ with_object m (fresh m class extent None level slots) → number ≡ m.last + 1 → holders_of m1 number + 1 < 2 ^ 64
part-few m m1 class extent level slots number s none made num =
    let one : holders_of m1 number ≡ 1 = ap (λ x. holders_of x number) made ∙ ap (holders_of (with_object m (fresh m class extent None level slots))) num ∙ new-holders m (fresh m class extent None level slots) s refl none in
    rw one (lit< tt)

pub part-live : (m m1 : Memory) (class : ClassName) (extent : Option ClassName) (level : ℕ) (slots : List Slot) (number : ℕ) → IsSound m
    → m1 ≡ with_object m (fresh m class extent None level slots) → number ≡ m.last + 1 → IsSome (object_of number m1.objects)
part-live m m1 class extent level slots number s made num =
    let found : object_of number m1.objects ≡ Some (fresh m class extent None level slots)
    = ap (λ (x : Memory). object_of number x.objects) made ∙ ap (λ k. object_of k (with_object m (fresh m class extent None level slots)).objects) num ∙ new-live m (fresh m class extent None level slots) s refl in
    subst (λ (x : Option Object). IsSome x) (sym found) refl

-- the holder still has its slot
pub holder-slot : (m m1 m2 : Memory) (class : ClassName) (extent : Option ClassName) (level : ℕ) (slots : List Slot) (number n at : ℕ)
    → m1 ≡ with_object m (fresh m class extent None level slots) → m2 ≡ edited m1 number tighten → HasSlot m n at → HasSlot m2 n at
holder-slot m m1 m2 class extent level slots number n at made held h =
    subst (λ (x : Memory). HasSlot x n at) (sym (held ∙ ap (λ x. edited x number tighten) made))
    (slot-stays m (fresh m class extent None level slots) number tighten n at (λ o. refl) (λ o. refl) h)
