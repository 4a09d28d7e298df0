-- Holds that are parked, and what is done with one.
use Rattle.std.proofs.Common.{zero, suc, ◌≡◌, ℕ, ◌+◌, ◌-◌, ◌<◌, ◌==◌, cond, Option, Some, None, List, [], ◌∷◌, ◌++◌, length, refl, ap, sym, subst, ◌∙◌, arith, slice_index_or}
use Rattle.std.specs.List.{remove, slice_get}
use Rattle.std.proofs.lemmas.List.Concat.{flat_map-append}
use Rattle.std.proofs.lemmas.Bool.{eq-eqb}
use Rattle.obj_kinds.specs.declared.value.Value.{Value}
use Rattle.obj_kinds.specs.declared.id.Id.{Id}
use Rattle.oref_table.specs.declared.oref.Oref.{Oref}
use Rattle.oref_table.specs.declared.oref.Held.{Held}
use Rattle.oref_table.specs.declared.slot.Slot.{Slot}
use Rattle.oref_table.specs.declared.fill.Fill.{Fill}
use Rattle.oref_table.specs.declared.fill.Fill.TheVariants as fill
use Rattle.oref_table.specs.declared.fill.Place.TheVariants as place
use Rattle.oref_table.specs.Refs.{times, numbers, refs_in, refs_of}
use Rattle.oref_table.specs.Memory.{Object, Memory, object_of, outside_of}
use Rattle.oref_table.specs.Filling.{IsHeldFor, passed}
use Rattle.oref_table.specs.Places.{MayFill, PartTakes}
use Rattle.oref_table.proofs.Lowered.{times-append}
use Rattle.oref_cases.specs.Parked.{AreParked}

-- one hold more is parked
pub parked-more : (m w last : Memory) (xs mid new : List Oref) (o : Oref) (k : ℕ) → AreParked m xs → mid ≡ xs → new ≡ mid ++ o ∷ [] → ((n : ℕ) → outside_of w n ≡ outside_of m n + times n (k ∷ [])) → o.0 ≡ k → last ≡ w → AreParked last new
parked-more m w last xs mid new o k h a b holds e s n =
    let long : times n (numbers new) ≡ times n (numbers xs) + times n (o.0 ∷ []) =
    ap (λ (ys : List Oref). times n (numbers ys)) (b ∙ ap (λ (ys : List Oref). ys ++ o ∷ []) a) ∙ ap (times n) (flat_map-append (λ (q : Oref). q.0 ∷ []) xs (o ∷ [])) ∙ times-append n (numbers xs) (o.0 ∷ []) in
    omega (arith, long, ap (λ j. times n (j ∷ [])) e, holds n, ap (λ (v : Memory). outside_of v n) s, h n)

times-removed : (n : ℕ) (xs : List Oref) (k : ℕ) (d : Oref) → k < length xs → times n (numbers (remove xs k)) + times n ((slice_index_or xs k d).0 ∷ []) ≡ times n (numbers xs)
times-removed n [] k d h = absurd (omega arith)
times-removed n (x ∷ xs) zero d h = omega (arith, times-append n (x.0 ∷ []) (numbers xs))
times-removed n (x ∷ xs) (suc k) d h = omega (arith, times-removed n xs k d (omega arith))

one-time : (n : ℕ) → 0 < times n (n ∷ [])
one-time n = let e : cond (n == n) 1 0 + 0 ≡ 1 = ap (λ b. cond b 1 0 + 0) (eq-eqb n n refl) in omega (arith, e)

-- a parked hold is one outside
pub parked-held : (m : Memory) (xs : List Oref) (k : ℕ) (o : Oref) → AreParked m xs → o ≡ slice_index_or xs k o → k < length xs → 0 < outside_of m o.0
parked-held m xs k o h is l = omega (arith, h o.0, times-removed o.0 xs k o l, ap (λ (q : Oref). times o.0 (q.0 ∷ [])) is, one-time o.0)

pub parked-back : (m w : Memory) (xs : List Oref) (k : ℕ) (o : Oref) (n : ℕ) → AreParked m xs → o ≡ slice_index_or xs k o → k < length xs → w ≡ m → n ≡ o.0 → 0 < outside_of w n
parked-back m w xs k o n h is l same e =
    subst (λ (v : Memory). 0 < outside_of v n) (sym same) (subst (λ j. 0 < outside_of m j) (sym e) (parked-held m xs k o h is l))

-- and one less is parked once it is given back
pub parked-less : (m mid w : Memory) (xs new : List Oref) (k : ℕ) (o : Oref) (j : ℕ) → AreParked m xs → o ≡ slice_index_or xs k o → k < length xs → new ≡ remove xs k → mid ≡ m → j ≡ o.0 → ((n : ℕ) → outside_of w n ≡ outside_of mid n - times n (j ∷ [])) → AreParked w new
parked-less m mid w xs new k o j h at l is same e holds n =
    omega (arith, h n, holds n, times-removed n xs k o l, ap (λ (ys : List Oref). times n (numbers ys)) is, ap (λ (q : Oref). times n (q.0 ∷ [])) at, ap (λ i. times n (i ∷ [])) e, ap (λ (v : Memory). outside_of v n) same)

-- a hold that was taken and passed on leaves the others
pub parked-passed : (m mid w : Memory) (xs : List Oref) (f : Fill) (k : ℕ) → AreParked m xs → f ≡ fill.To (record { number = k }) → ((n : ℕ) → outside_of mid n ≡ outside_of m n + times n (k ∷ [])) → ((n : ℕ) → outside_of w n ≡ outside_of mid n - times n (passed f)) → AreParked w xs
unfolding passed
parked-passed m mid w xs f k h e a b n = omega (arith, h n, a n, b n, ap (λ x. times n (passed x)) e)

pub parked-kept : (m w : Memory) (xs : List Oref) → AreParked m xs → ((n : ℕ) → outside_of w n ≡ outside_of m n - times n (passed fill.Nothing)) → AreParked w xs
unfolding passed
parked-kept m w xs h b n = omega (arith, h n, b n)

pub parked-cleared : (m w : Memory) (xs : List Oref) → AreParked m xs → w ≡ record m { freed = [] } → AreParked w xs
unfolding outside_of
parked-cleared m w xs h e n = omega (arith, h n, ap (λ (v : Memory). outside_of v n) e)

pub held-of : (m : Memory) (w : Fill) (h : Held) → w ≡ fill.To h → IsHeldFor m w → 0 < outside_of m h.number
unfolding IsHeldFor
held-of m w h e i = subst (λ x. IsHeldFor m x) e i

pub held-for : (m : Memory) (h : Held) → 0 < outside_of m h.number → IsHeldFor m (fill.To h)
unfolding IsHeldFor
held-for m h i = i

pub nothing-for : (m : Memory) → IsHeldFor m fill.Nothing
unfolding IsHeldFor
nothing-for m = tt

pub gave-hold : (w : Fill) (h : Held) (old n : ℕ) → w ≡ fill.To h → old - times n (h.number ∷ []) ≡ old - times n (passed w)
unfolding passed
gave-hold w h old n e = ap (λ x. old - times n (passed x)) (sym e)

none-passed : (w : Fill) (old n : ℕ) → passed w ≡ [] → old ≡ old - times n (passed w)
none-passed w old n e = omega (arith, ap (times n) e)

pub gave-plain : (w : Fill) (v : Value) (old n : ℕ) → w ≡ fill.Plain v → old ≡ old - times n (passed w)
unfolding passed
gave-plain w v old n e = none-passed w old n (ap passed e)

pub gave-target : (w : Fill) (v : Option Id) (old n : ℕ) → w ≡ fill.Target v → old ≡ old - times n (passed w)
unfolding passed
gave-target w v old n e = none-passed w old n (ap passed e)

pub gave-nothing : (w : Fill) (old n : ℕ) → w ≡ fill.Nothing → old ≡ old - times n (passed w)
unfolding passed
gave-nothing w old n e = none-passed w old n (ap passed e)

slot-at : (slots : List Slot) (s : ℕ) → s < length slots → (slot : Slot) × (slice_get slots s ≡ Some slot)
slot-at [] s h = absurd (omega arith)
slot-at (x ∷ xs) zero h = (x, refl)
slot-at (x ∷ xs) (suc s) h = slot-at xs s (omega arith)

pub slot-may : (m : Memory) (n s : ℕ) (w : Fill) → (o : Object) × (object_of n m.objects ≡ Some o) × (s < length o.slots) → MayFill m n (place.Slot s) w
unfolding PartTakes
slot-may m n s w h = let t = slot-at h.0.slots s h.2 in (h.0, h.1, (t.0, t.1, tt))

pub no-refs-more : (slots new : List Slot) (slot : Slot) → refs_in slots ≡ [] → refs_of slot ≡ [] → new ≡ slots ++ slot ∷ [] → refs_in new ≡ []
no-refs-more slots new slot h none e =
    let one : refs_in (slot ∷ []) ≡ [] = ap (λ rs. rs ++ []) none in
    let parts : refs_in (slots ++ slot ∷ []) ≡ refs_in slots ++ refs_in (slot ∷ []) = flat_map-append refs_of slots (slot ∷ []) in
    ap refs_in e ∙ parts ∙ ap (λ rs. rs ++ refs_in (slot ∷ [])) h ∙ one
