-- What memory is once an element of an array is put.
use Rattle.std.proofs.Common.{◌≡◌, ◌≢◌, ℕ, cond, Bool, true, false, Option, Some, IsSome, Result, Ok, Err, OnOk, OnErr, IfOk, IfErr, arith, IsTrue, List, [], ◌∷◌, slice_get, slice_set, refl, ap, sym, subst, ◌∙◌, None, ◌<◌, zero, suc, get_or, length}
use Rattle.std.specs.FinMap.{find, is_sorted, put}
use Rattle.std.specs.declared.cmp.Ordering.TheVariants.{Less, Equal, Greater}
use Rattle.std.specs.FinMap.Entries.{by_order}
use Rattle.obj_kinds.specs.declared.sub.Sub.{Sub}
use Rattle.obj_kinds.specs.Limits.{is_legal_sub}
use Rattle.obj_kinds.specs.SubOrder.{sub_cmp}
use Rattle.obj_kinds.specs.OrderLaws.{sub_total}
use Rattle.obj_kinds.proofs.Sorted.{find_gap, find_hit, sorted_put}
use Rattle.obj_kinds.specs.Search.{IsGap, IsHit}
use Rattle.schema_kinds.specs.declared.class.Class.{Class}
use Rattle.schema_kinds.specs.declared.kind.Item.{Item}
use Rattle.schema_kinds.specs.Classes.{class_of, props_of}
use Rattle.record_layout.specs.Inverse.{EachGood}
use Rattle.record_layout.specs.Shapes.{keyed}
use Rattle.oref_table.specs.declared.slot.Slot.{Slot}
use Rattle.oref_table.specs.declared.slot.Slot.TheVariants.{Map, rolls-Map}
use Rattle.oref_table.specs.declared.slot.Slot.TheViews.{out-Slot, out-roll-Slot}
use Rattle.oref_table.specs.declared.slot.Slot.TheOpen.{Slot-F}
use Rattle.oref_table.specs.declared.fill.Fill.{Fill}
use Rattle.oref_table.specs.declared.fill.Fill.TheVariants as fill
use Rattle.oref_table.specs.declared.fill.Place.TheVariants as place
use Rattle.oref_table.specs.Memory.{Object, Memory, object_of, is_numbered, changed, edited, loosed, with_mark, without_first}
use Rattle.oref_table.specs.Dropping.{dropped}
use Rattle.oref_table.specs.Filling.{slot_from, passed, with_slot, with_slots}
use Rattle.oref_table.specs.Places.{IsAmong, IsFilledTo, IsThere, MayFill, has_key, PairTakes, PartFills, PartTakes, pairs_filled}
use Rattle.oref_table.proofs.ElementLaws.{filled-in-order}
use Rattle.oref_table.proofs.PlaceLaws.{same_pairs}
use Rattle.obj_shape.specs.Records.{pairs_of, slots_at, slots_part}
use Rattle.obj_shape.specs.Fitting.{IsElement, IsOfForm, IsOfKind, IsPair, IsSlotOf, TableFits}
use Rattle.obj_shape.proofs.FitLaws.{fits-at}
use Rattle.obj_props.proofs.ContentLaws.{good-at}
use Rattle.obj_props.proofs.PartLaws.{edited-as, same-slots}
use Rattle.prop_setting.specs.Elements.{Takes, slot_set, standing, stood}
use Rattle.prop_setting.specs.Fits.{IsSlotOfForm, TakesSlot}
use Rattle.prop_setting.specs.Arrays.{ArraySets, IsArray, IsArrayAt}
use Rattle.prop_setting.proofs.ListLaws.{kind-form}
use Rattle.prop_setting.proofs.SetLaws.{edited-twice}
use Rattle.prop_setting.proofs.TakeLaws.{takes-slot}

-- ---- the array is the one that it is

same-array : (m : Memory) (n at : ℕ) (xs ys : List (Sub × Slot)) → IsArrayAt m n at xs → IsArrayAt m n at ys → xs ≡ ys
same-array m n at xs ys a b =
    let same : a.0 ≡ b.0 = let both : Some a.0 ≡ Some b.0 = sym a.1 ∙ b.1 in cc in
    let slots : Some (Map xs) ≡ Some (Map ys) = sym a.2 ∙ ap (λ (o : Object). slice_get o.slots at) same ∙ b.2 in
    same_pairs (Map xs) xs ys refl (let maps : Map xs ≡ Map ys = cc in maps)

pub array-marked : (m : Memory) (n at : ℕ) (b : Bool) (pairs : List (Sub × Slot)) → IsArrayAt m n at pairs → IsArrayAt (edited m n (with_mark b)) n at pairs
unfolding edited
array-marked m n at b pairs h =
    let u = same-slots n (with_mark b) (λ o. refl) (λ o. refl) m.objects n h.0 h.1 in
    (u.0, u.1, ap (λ ss. slice_get ss at) u.2 ∙ h.2)

pub array-live : (m : Memory) (n at : ℕ) (pairs : List (Sub × Slot)) → IsArrayAt m n at pairs → IsSome (object_of n m.objects)
array-live m n at pairs h = subst (λ (x : Option Object). IsSome x) (sym h.1) refl

pub pair-may : (m : Memory) (n at : ℕ) (k : Sub) (f : Fill) (pairs : List (Sub × Slot)) → f ≢ fill.Nothing → IsArrayAt m n at pairs → IsTrue (is_sorted sub_cmp pairs) → MayFill m n (place.Pair at k) f
unfolding PartTakes PairTakes
pair-may m n at k (fill.Plain v) pairs some h s = (h.0, h.1, (Map pairs, h.2, (pairs, refl, s, tt)))
pair-may m n at k (fill.Target id) pairs some h s = (h.0, h.1, (Map pairs, h.2, (pairs, refl, s, tt)))
pair-may m n at k (fill.To o) pairs some h s = (h.0, h.1, (Map pairs, h.2, (pairs, refl, s, tt)))
pair-may m n at k fill.Nothing pairs some h s = absurd (some refl)

-- ---- an element is put

pub put-filled : (k : Sub) (f : Fill) (pairs : List (Sub × Slot)) → f ≢ fill.Nothing → pairs_filled k f pairs ≡ put sub_cmp k (slot_from f) pairs
unfolding pairs_filled
put-filled k (fill.Plain v) pairs some = refl
put-filled k (fill.Target id) pairs some = refl
put-filled k (fill.To o) pairs some = refl
put-filled k fill.Nothing pairs some = absurd (some refl)

-- what is filled in an array
pub pair-bare : (m w : Memory) (n at : ℕ) (k : Sub) (f : Fill) (pairs : List (Sub × Slot)) → IsFilledTo m w n (place.Pair at k) f → IsArrayAt m n at pairs
    → w ≡ dropped (loosed (edited m n (with_slot at (Map (pairs_filled k f pairs)))) (passed f))
unfolding PartFills
pair-bare m w n at k f pairs h array =
    let o = h.0 in
    let fills = h.3.3 in
    let there : IsArrayAt m n at fills.0 = (o, h.2, h.3.2 ∙ ap Some fills.1) in
    let same : fills.0 ≡ pairs = same-array m n at fills.0 pairs there array in
    let slot : Slot = Map (pairs_filled k f pairs) in
    let part : h.3.1 ≡ slot = fills.2 ∙ ap (λ xs. Map (pairs_filled k f xs)) same in
    let new : h.1 ≡ slice_set o.slots at slot = h.3.4 ∙ ap (slice_set o.slots at) part in
    h.4 ∙ ap (λ x. dropped (loosed x (passed f))) (edited-as m n (with_slots (λ _. h.1)) (with_slot at slot) o h.2 (ap (λ ss. record o { slots = ss }) new))

-- it is in the memory before the mark
pair-filled : (m m1 w : Memory) (n at : ℕ) (k : Sub) (f : Fill) (pairs : List (Sub × Slot)) → m1 ≡ edited m n (with_mark true) → IsFilledTo m1 w n (place.Pair at k) f → IsArrayAt m n at pairs
    → w ≡ slot_set m n at (Map (pairs_filled k f pairs)) (passed f)
unfolding slot_set
pair-filled m m1 w n at k f pairs marked h array =
    let mine : IsArrayAt m1 n at pairs = subst (λ (x : Memory). IsArrayAt x n at pairs) (sym marked) (array-marked m n at true pairs array) in
    let slot : Slot = Map (pairs_filled k f pairs) in
    pair-bare m1 w n at k f pairs h mine
    ∙ ap (λ (x : Memory). dropped (loosed (edited x n (with_slot at slot)) (passed f))) marked
    ∙ ap (λ x. dropped (loosed x (passed f))) (edited-twice m n (with_mark true) (with_slot at slot) (λ o. refl))

pub pair-put : (m m1 w : Memory) (n at : ℕ) (k : Sub) (f : Fill) (pairs : List (Sub × Slot)) → m1 ≡ edited m n (with_mark true) → IsFilledTo m1 w n (place.Pair at k) f → f ≢ fill.Nothing → IsArrayAt m n at pairs
    → w ≡ slot_set m n at (Map (put sub_cmp k (slot_from f) pairs)) (passed f)
pair-put m m1 w n at k f pairs marked h some array = pair-filled m m1 w n at k f pairs marked h array ∙ ap (λ xs. slot_set m n at (Map xs) (passed f)) (put-filled k f pairs some)

-- ---- one is taken out

pub pair-may-go : (m : Memory) (n at : ℕ) (k : Sub) (pairs : List (Sub × Slot)) → IsArrayAt m n at pairs → IsTrue (is_sorted sub_cmp pairs) → IsSome (find sub_cmp k pairs) → MayFill m n (place.Pair at k) fill.Nothing
unfolding PartTakes PairTakes
pair-may-go m n at k pairs h s there = (h.0, h.1, (Map pairs, h.2, (pairs, refl, s, there)))

pub pair-there : (m : Memory) (n at : ℕ) (k : Sub) (pairs : List (Sub × Slot)) → IsArrayAt m n at pairs → IsSome (find sub_cmp k pairs) → (o : Object) × (object_of n m.objects ≡ Some o) × IsAmong (place.Pair at k) o.slots
unfolding IsThere
pair-there m n at k pairs h there = (h.0, h.1, (Map pairs, h.2, (pairs, refl, there)))

taken-filled : (k : Sub) (pairs : List (Sub × Slot)) → pairs_filled k fill.Nothing pairs ≡ without_first (has_key k) pairs
unfolding pairs_filled
taken-filled k pairs = refl

pub pair-taken : (m m1 w : Memory) (n at : ℕ) (k : Sub) (pairs : List (Sub × Slot)) → m1 ≡ edited m n (with_mark true) → IsFilledTo m1 w n (place.Pair at k) fill.Nothing → IsArrayAt m n at pairs
    → w ≡ slot_set m n at (Map (without_first (has_key k) pairs)) []
unfolding passed
pair-taken m m1 w n at k pairs marked h array = pair-filled m m1 w n at k fill.Nothing pairs marked h array ∙ ap (λ xs. slot_set m n at (Map xs) []) (taken-filled k pairs)

-- ---- the mark is as before

unchanged : (n : ℕ) (os : List Object) → changed n (λ o. o) os ≡ os
unchanged n [] = refl
unchanged n (o ∷ os) = by (is_numbered n o) (unchanged n os)
  where
    by : (b : Bool) → changed n (λ o. o) os ≡ os → cond b (o ∷ os) (o ∷ changed n (λ o. o) os) ≡ o ∷ os
    by true rest = refl
    by false rest = ap (λ xs. o ∷ xs) rest

edited-not : (m : Memory) (n : ℕ) → edited m n (λ o. o) ≡ m
unfolding edited
edited-not m n = ap (λ os. record m { objects = os }) (unchanged n m.objects)

pub mark-undone : (m m1 m2 w : Memory) (n : ℕ) (b : Bool) (o : Object) → object_of n m.objects ≡ Some o → b ≡ o.modified → m1 ≡ edited m n (with_mark true) → m2 ≡ m1 → w ≡ edited m2 n (with_mark b) → w ≡ m
mark-undone m m1 m2 w n b o there is marked same back =
    back
    ∙ ap (λ (x : Memory). edited x n (with_mark b)) (same ∙ marked)
    ∙ edited-twice m n (with_mark true) (with_mark b) (λ o. refl)
    ∙ edited-as m n (with_mark b) (λ o. o) o there (ap (λ c. record o { modified = c }) is)
    ∙ edited-not m n

-- ---- it fits

pub out-Map : (pairs : List (Sub × Slot)) → out-Slot (Map pairs) ≡ Slot-F.Map pairs
out-Map pairs = ap out-Slot (sym (rolls-Map pairs)) ∙ out-roll-Slot (Slot-F.Map pairs)

-- the elements of an array are in order, and fit
pub array-elements : (classes : List Class) (m : Memory) (n at : ℕ) (i : Item) (pairs : List (Sub × Slot)) → TableFits classes m → IsArrayAt m n at pairs → IsSlotOfForm classes m n at (keyed i)
    → IsTrue (is_sorted sub_cmp pairs) × EachGood (IsPair classes m i) pairs
array-elements classes m n at i pairs fits array slot =
    let same : array.0 ≡ slot.0 = let both : Some array.0 ≡ Some slot.0 = sym array.1 ∙ slot.2 in cc in
    let got : slice_get slot.0.slots at ≡ Some (Map pairs) = sym (ap (λ (o : Object). slice_get o.slots at) same) ∙ array.2 in
    let good : IsOfKind classes m slot.1.kind (out-Slot (Map pairs)) = good-at (IsSlotOf classes m) (props_of (class_of classes slot.0.class)) slot.0.slots at slot.1 (Map pairs) (fits-at classes m n slot.0 fits slot.2).slots slot.3 got in
    subst (λ v. IsOfForm classes m (keyed i) v) (out-Map pairs) (kind-form classes m slot.1.kind (keyed i) (out-Slot (Map pairs)) slot.4 good)

pub each-put : (P : Sub × Slot → Type 0) (k : Sub) (s : Slot) (pairs : List (Sub × Slot)) → ((q : Sub) (old : Slot) → P (q, old) → P (q, s)) → P (k, s) → EachGood P pairs → EachGood P (put sub_cmp k s pairs)
each-put P k s [] same h g = (h, tt)
each-put P k s (e ∷ es) same h g =
    elim (sub_cmp k e.0) as (λ r. EachGood P (by_order r ((k, s) ∷ e ∷ es) ((e.0, s) ∷ es) (e ∷ put sub_cmp k s es))) [
      | Less ↦ (h, g)
      | Equal ↦ (same e.0 e.1 g.0, g.1)
      | Greater ↦ (g.0, each-put P k s es same h g.1)
    ]

pub takes-pair : (classes : List Class) (m : Memory) (n at : ℕ) (i : Item) (k : Sub) (s : Slot) (pairs : List (Sub × Slot)) → IsSlotOfForm classes m n at (keyed i) → IsTrue (is_sorted sub_cmp pairs) × EachGood (IsPair classes m i) pairs
    → IsTrue (is_legal_sub k) → IsElement classes m i (out-Slot s) → TakesSlot classes m n at (Map (put sub_cmp k s pairs))
takes-pair classes m n at i k s pairs slot h legal e =
    takes-slot classes m n at (keyed i) (Map (put sub_cmp k s pairs)) slot
    (subst (λ v. IsOfForm classes m (keyed i) v) (sym (out-Map (put sub_cmp k s pairs)))
    (sorted_put sub_cmp sub_total pairs k s h.0, each-put (IsPair classes m i) k s pairs (λ q old g. (g.0, e)) (legal, e) h.1))

pub array-at : (classes : List Class) (m : Memory) (n : ℕ) (name : List ℕ) (at level : ℕ) (i : Item) (pairs : List (Sub × Slot)) → IsArray classes m n name at level i pairs → IsArrayAt m n at pairs
array-at classes m n name at level i pairs h = (h.object, h.found, h.slot)

pub array-set : {X E : Type 0} (classes : List Class) (m w : Memory) (n at at1 level : ℕ) (i i1 : Item) (pairs : List (Sub × Slot)) (k : Sub) (f : Fill) (r : Result X E) → at1 ≡ at → i1 ≡ i → Takes classes m i1 f
    → OnOk r ((lv : ℕ) → w ≡ stood n at1 (λ s. Map (put sub_cmp k s pairs)) (standing classes m lv i1 f)) → OnOk r (ArraySets classes m n at level i pairs k f w)
array-set classes m w n at at1 level i i1 pairs k f (Err x) a b takes h = tt
array-set classes m w n at at1 level i i1 pairs k f (Ok x) a b takes h = (
  subst (λ j. Takes classes m j f) b takes,
  h level ∙ ap (λ p. stood n p (λ s. Map (put sub_cmp k s pairs)) (standing classes m level i1 f)) a ∙ ap (λ j. stood n at (λ s. Map (put sub_cmp k s pairs)) (standing classes m level j f)) b,
)

-- ---- an element goes

pub each-without : (P : Sub × Slot → Type 0) (p : Sub × Slot → Bool) (es : List (Sub × Slot)) → EachGood P es → EachGood P (without_first p es)
each-without P p [] h = tt
each-without P p (e ∷ es) h = by (p e) (each-without P p es h.1)
  where
    by : (b : Bool) → EachGood P (without_first p es) → EachGood P (cond b es (e ∷ without_first p es))
    by true rest = h.1
    by false rest = (h.0, rest)

pub takes-without : (classes : List Class) (m : Memory) (n at : ℕ) (i : Item) (k : Sub) (pairs : List (Sub × Slot)) → IsSlotOfForm classes m n at (keyed i) → IsTrue (is_sorted sub_cmp pairs) × EachGood (IsPair classes m i) pairs
    → TakesSlot classes m n at (Map (without_first (has_key k) pairs))
takes-without classes m n at i k pairs slot h =
    let sorted : IsTrue (is_sorted sub_cmp (without_first (has_key k) pairs)) = subst (λ xs. IsTrue (is_sorted sub_cmp xs)) (taken-filled k pairs) (filled-in-order k fill.Nothing pairs h.0) in
    takes-slot classes m n at (keyed i) (Map (without_first (has_key k) pairs)) slot
    (subst (λ v. IsOfForm classes m (keyed i) v) (sym (out-Map (without_first (has_key k) pairs))) (sorted, each-without (IsPair classes m i) (has_key k) pairs h.1))

-- ---- an element is found

got-at : (es : List (Sub × Slot)) (i : ℕ) (d : Sub × Slot) → i < length es → slice_get es i ≡ Some (get_or es i d)
got-at [] i d l = absurd (omega (arith, l))
got-at (e ∷ es) zero d l = refl
got-at (e ∷ es) (suc i) d l = got-at es i d (omega (arith, l))

pub key-found : (r : Result ℕ ℕ) (k : Sub) (pairs : List (Sub × Slot)) → IsTrue (is_sorted sub_cmp pairs) → IfOk r (IsHit sub_cmp pairs k) → IfErr r (IsGap sub_cmp pairs k)
    → IfOk r (λ at. (p : Sub × Slot) × (slice_get pairs at ≡ Some p) × (find sub_cmp k pairs ≡ Some p.1)) × OnErr r (find sub_cmp k pairs ≡ None)
key-found (Ok i) k [] s hit gap = absurd (omega (arith, hit.in_range))
key-found (Ok i) k (e ∷ es) s hit gap = ((get_or (e ∷ es) i e, got-at (e ∷ es) i e hit.in_range, find_hit sub_cmp sub_total (e ∷ es) k i e s hit), tt)
key-found (Err i) k pairs s hit gap = (tt, find_gap sub_cmp sub_total pairs k i gap)

pub pairs-here : (m : Memory) (n at : ℕ) (pairs slots : List (Sub × Slot)) (all : List Slot) (slot : Slot) → IsArrayAt m n at pairs → all ≡ slots_at m n → slice_get all at ≡ Some slot → slots ≡ pairs_of (out-Slot slot) → slots ≡ pairs
pairs-here m n at pairs slots all slot array here there is =
    let same : all ≡ array.0.slots = here ∙ ap slots_part array.1 in
    let both : Some slot ≡ Some (Map pairs) = sym there ∙ ap (λ ss. slice_get ss at) same ∙ array.2 in
    let one : slot ≡ Map pairs = cc in
    is ∙ ap (λ s. pairs_of (out-Slot s)) one ∙ ap pairs_of (out-Map pairs)

pub no-array : (m : Memory) (n at : ℕ) (pairs : List (Sub × Slot)) (all : List Slot) → IsArrayAt m n at pairs → all ≡ slots_at m n → slice_get all at ≡ None → ⊥
no-array m n at pairs all array here none =
    let same : all ≡ array.0.slots = here ∙ ap slots_part array.1 in
    let both : None ≡ Some (Map pairs) = sym none ∙ ap (λ ss. slice_get ss at) same ∙ array.2 in cc
