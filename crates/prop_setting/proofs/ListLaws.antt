-- What memory is once an item of a list is put, added or taken out.
use Rattle.std.proofs.Common.{◌≡◌, ◌≢◌, ◌<◌, ◌≤◌, ℕ, zero, suc, ◌+◌, ◌==◌, cond, Bool, true, false, Option, None, Some, IfSome, IsSome, Result, Ok, Err, IfErr, OnOk, ℤ, pos, inl, inr, FitsSigned, w64, min, List, [], ◌∷◌, ◌++◌, insert, length, take, drop, slice_get, slice_set, refl, ap, sym, subst, ◌∙◌, arith}
use Rattle.std.specs.List.{remove}
use Rattle.std.proofs.lemmas.Bool.{ne_eqb}
use Rattle.std.proofs.lemmas.Int.{ints}
use Rattle.obj_kinds.specs.declared.error_name.ErrorName.TheVariants.{IllegalValue}
use Rattle.schema_kinds.specs.declared.class.Class.{Class}
use Rattle.obj_kinds.specs.declared.error_name.ErrorName.{ErrorName}
use Rattle.schema_kinds.specs.declared.kind.Kind.{Kind}
use Rattle.schema_kinds.specs.declared.kind.Kind.TheVariants as kind
use Rattle.schema_kinds.specs.declared.kind.Item.{Item}
use Rattle.schema_kinds.specs.Classes.{class_of, props_of}
use Rattle.record_layout.specs.Inverse.{EachGood}
use Rattle.record_layout.specs.Shapes.{Form, form_of, listed}
use Rattle.oref_table.specs.declared.slot.Slot.{Slot}
use Rattle.oref_table.specs.declared.slot.Slot.TheVariants.{Items, rolls-Items}
use Rattle.oref_table.specs.declared.slot.Slot.TheViews.{out-Slot, out-roll-Slot}
use Rattle.oref_table.specs.declared.slot.Slot.TheOpen.{Slot-F}
use Rattle.oref_table.specs.declared.oref.Held.{Held}
use Rattle.oref_table.specs.declared.fill.Fill.{Fill}
use Rattle.oref_table.specs.declared.fill.Fill.TheVariants as fill
use Rattle.oref_table.specs.declared.fill.Place.TheVariants as place
use Rattle.oref_table.specs.Memory.{Object, Memory, object_of, is_numbered, changed, edited, loosen, loosened, loosed, with_mark}
use Rattle.oref_table.specs.Dropping.{dropped}
use Rattle.oref_table.specs.Filling.{HasItems, InsertsItem, slot_from, passed, with_slot, with_slots}
use Rattle.oref_table.specs.Places.{IsAmong, IsFilledTo, IsThere, ItemTakes, MayFill, PartFills, PartTakes, items_filled}
use Rattle.oref_table.proofs.PlaceLaws.{same_items}
use Rattle.obj_shape.specs.Fitting.{IsElement, IsOfForm, IsOfKind, IsOfSomeForm, IsSlotOf, TableFits}
use Rattle.obj_shape.proofs.FitLaws.{fits-at}
use Rattle.obj_props.specs.declared.got.ShapeError.{ShapeError}
use Rattle.obj_props.specs.declared.got.ShapeError.TheVariants.{Script}
use Rattle.obj_props.proofs.ContentLaws.{good-at}
use Rattle.obj_props.proofs.PartLaws.{edited-as, same-slots}
use Rattle.part_copies.specs.Holding.{IsKept}
use Rattle.part_copies.proofs.HoldLaws.{dropped-none}
use Rattle.prop_setting.specs.Elements.{Takes, changed_slot, error_of, given_back, slot_set, standing, stood}
use Rattle.prop_setting.specs.Fits.{IsSlotOfForm, TakesSlot}
use Rattle.prop_setting.specs.Sets.{Tells}
use Rattle.prop_setting.specs.Lists.{HasItemsAt, IsAt, IsList, IsListAt, IsNowhere, ItemRefuses, ListAdds, ListInserts, ListSets}
use Rattle.prop_setting.proofs.SetLaws.{edited-twice}
use Rattle.prop_setting.proofs.TakeLaws.{takes-slot}

-- ---- the list is the one that it is

same-list : (m : Memory) (n at : ℕ) (xs ys : List Slot) → IsListAt m n at xs → IsListAt m n at ys → xs ≡ ys
same-list m n at xs ys a b =
    let same : a.0 ≡ b.0 = let both : Some a.0 ≡ Some b.0 = sym a.1 ∙ b.1 in cc in
    let slots : Some (Items xs) ≡ Some (Items ys) = sym a.2 ∙ ap (λ (o : Object). slice_get o.slots at) same ∙ b.2 in
    same_items (Items xs) xs ys refl (let items : Items xs ≡ Items ys = cc in items)

pub list-marked : (m : Memory) (n at : ℕ) (b : Bool) (items : List Slot) → IsListAt m n at items → IsListAt (edited m n (with_mark b)) n at items
unfolding edited
list-marked m n at b items h =
    let u = same-slots n (with_mark b) (λ o. refl) (λ o. refl) m.objects n h.0 h.1 in
    (u.0, u.1, ap (λ ss. slice_get ss at) u.2 ∙ h.2)

pub list-live : (m : Memory) (n at : ℕ) (items : List Slot) → IsListAt m n at items → IsSome (object_of n m.objects)
list-live m n at items h = subst (λ (x : Option Object). IsSome x) (sym h.1) refl

-- ---- an item may be filled

pub item-may : (m : Memory) (n at k : ℕ) (f : Fill) (items : List Slot) → IsListAt m n at items → k < length items → MayFill m n (place.Item at k) f
unfolding PartTakes ItemTakes
item-may m n at k (fill.Plain v) items h l = (h.0, h.1, (Items items, h.2, (items, refl, omega (arith, l))))
item-may m n at k (fill.Target id) items h l = (h.0, h.1, (Items items, h.2, (items, refl, omega (arith, l))))
item-may m n at k (fill.To o) items h l = (h.0, h.1, (Items items, h.2, (items, refl, omega (arith, l))))
item-may m n at k fill.Nothing items h l = (h.0, h.1, (Items items, h.2, (items, refl, l)))

pub item-there : (m : Memory) (n at k : ℕ) (items : List Slot) → IsListAt m n at items → k < length items → (o : Object) × (object_of n m.objects ≡ Some o) × IsAmong (place.Item at k) o.slots
unfolding IsThere
item-there m n at k items h l = (h.0, h.1, (Items items, h.2, (items, refl, l)))

-- ---- it is filled

pub filled-set : (k : ℕ) (f : Fill) (items : List Slot) → f ≢ fill.Nothing → k < length items → items_filled k f items ≡ slice_set items k (slot_from f)
unfolding items_filled
filled-set k (fill.Plain v) items h l = let off : (k == length items) ≡ false = ne_eqb k (length items) (λ (s : k ≡ length items). omega (arith, s, l)) in rw off refl
filled-set k (fill.Target id) items h l = let off : (k == length items) ≡ false = ne_eqb k (length items) (λ (s : k ≡ length items). omega (arith, s, l)) in rw off refl
filled-set k (fill.To o) items h l = let off : (k == length items) ≡ false = ne_eqb k (length items) (λ (s : k ≡ length items). omega (arith, s, l)) in rw off refl
filled-set k fill.Nothing items h l = absurd (h refl)

filled-removed : (k : ℕ) (items : List Slot) → items_filled k fill.Nothing items ≡ remove items k
unfolding items_filled
filled-removed k items = refl

-- what is filled in a list
pub filled-bare : (m w : Memory) (n at k : ℕ) (f : Fill) (items : List Slot) → IsFilledTo m w n (place.Item at k) f → IsListAt m n at items
    → w ≡ dropped (loosed (edited m n (with_slot at (Items (items_filled k f items)))) (passed f))
unfolding PartFills
filled-bare m w n at k f items h list =
    let o = h.0 in
    let fills = h.3.3 in
    let there : IsListAt m n at fills.0 = (o, h.2, h.3.2 ∙ ap Some fills.1) in
    let same : fills.0 ≡ items = same-list m n at fills.0 items there list in
    let new : h.1 ≡ slice_set o.slots at (Items (items_filled k f items)) = h.3.4 ∙ ap (slice_set o.slots at) (fills.2 ∙ ap (λ xs. Items (items_filled k f xs)) same) in
    h.4 ∙ ap (λ x. dropped (loosed x (passed f))) (edited-as m n (with_slots (λ _. h.1)) (with_slot at (Items (items_filled k f items))) o h.2 (ap (λ ss. record o { slots = ss }) new))

-- it is in the memory before the mark
filled-memory : (m m1 w : Memory) (n at k : ℕ) (f : Fill) (items : List Slot) → m1 ≡ edited m n (with_mark true) → IsFilledTo m1 w n (place.Item at k) f → IsListAt m n at items
    → w ≡ dropped (loosed (edited m n (changed_slot at (Items (items_filled k f items)))) (passed f))
filled-memory m m1 w n at k f items marked h list =
    let mine : IsListAt m1 n at items = subst (λ (x : Memory). IsListAt x n at items) (sym marked) (list-marked m n at true items list) in
    filled-bare m1 w n at k f items h mine
    ∙ ap (λ (x : Memory). dropped (loosed (edited x n (with_slot at (Items (items_filled k f items)))) (passed f))) marked
    ∙ ap (λ x. dropped (loosed x (passed f))) (edited-twice m n (with_mark true) (with_slot at (Items (items_filled k f items))) (λ o. refl))

pub item-put : (m m1 w : Memory) (n at k : ℕ) (f : Fill) (items : List Slot) → m1 ≡ edited m n (with_mark true) → IsFilledTo m1 w n (place.Item at k) f → f ≢ fill.Nothing → IsListAt m n at items → k < length items
    → w ≡ slot_set m n at (Items (slice_set items k (slot_from f))) (passed f)
unfolding slot_set
item-put m m1 w n at k f items marked filled some list l =
    filled-memory m m1 w n at k f items marked filled list ∙ ap (λ xs. dropped (loosed (edited m n (changed_slot at (Items xs))) (passed f))) (filled-set k f items some l)

pub item-taken : (m m1 w : Memory) (n at k : ℕ) (items : List Slot) → m1 ≡ edited m n (with_mark true) → IsFilledTo m1 w n (place.Item at k) fill.Nothing → IsListAt m n at items → w ≡ slot_set m n at (Items (remove items k)) []
unfolding slot_set passed
item-taken m m1 w n at k items marked filled list =
    filled-memory m m1 w n at k fill.Nothing items marked filled list ∙ ap (λ xs. dropped (loosed (edited m n (changed_slot at (Items xs))) [])) (filled-removed k items)

-- ---- one is added

mark-loosened : (n : ℕ) (b : Bool) (ms : List ℕ) (os : List Object) → changed n (with_mark b) (loosened ms os) ≡ loosened ms (changed n (with_mark b) os)
mark-loosened n b ms [] = refl
mark-loosened n b ms (o ∷ os) = by (is_numbered n o) (mark-loosened n b ms os)
  where
    by : (c : Bool) → changed n (with_mark b) (loosened ms os) ≡ loosened ms (changed n (with_mark b) os)
        → cond c (with_mark b (loosen ms o) ∷ loosened ms os) (loosen ms o ∷ changed n (with_mark b) (loosened ms os)) ≡ loosened ms (cond c (with_mark b o ∷ os) (o ∷ changed n (with_mark b) os))
    by true rest = refl
    by false rest = ap (λ xs. loosen ms o ∷ xs) rest

mark-loosed : (m : Memory) (n : ℕ) (b : Bool) (ms : List ℕ) → edited (loosed m ms) n (with_mark b) ≡ loosed (edited m n (with_mark b)) ms
unfolding edited loosed
mark-loosed m n b ms = ap (λ os. record m { objects = os }) (mark-loosened n b ms m.objects)

pub item-added : (m m1 w : Memory) (n at k : ℕ) (f : Fill) (items : List Slot) → InsertsItem m m1 n at k f → w ≡ edited m1 n (with_mark true) → IsKept w → IsListAt m n at items
    → w ≡ slot_set m n at (Items (insert items k (slot_from f))) (passed f)
unfolding slot_set
item-added m m1 w n at k f items added marked kept list =
    let same : added.1 ≡ items = same-list m n at added.1 items (added.0, added.2, added.3) list in
    let slot : Slot = Items (insert items k (slot_from f)) in
    let whole : w ≡ loosed (edited m n (changed_slot at slot)) (passed f) =
    marked
    ∙ ap (λ (x : Memory). edited x n (with_mark true)) (added.4 ∙ ap (λ xs. loosed (edited m n (with_slot at (Items (insert xs k (slot_from f))))) (passed f)) same)
    ∙ mark-loosed (edited m n (with_slot at slot)) n true (passed f)
    ∙ ap (λ x. loosed x (passed f)) (edited-twice m n (with_slot at slot) (with_mark true) (λ o. refl)) in
    whole ∙ sym (ap dropped (sym whole) ∙ dropped-none w kept.held ∙ whole)

-- ---- what fits in a list

pub each-set : {B : Type 0} (P : B → Type 0) (xs : List B) (k : ℕ) (x : B) → EachGood P xs → P x → EachGood P (slice_set xs k x)
each-set P [] k x h p = tt
each-set P (y ∷ ys) zero x h p = (p, h.1)
each-set P (y ∷ ys) (suc k) x h p = (h.0, each-set P ys k x h.1 p)

pub each-both : {B : Type 0} (P : B → Type 0) (xs ys : List B) → EachGood P xs → EachGood P ys → EachGood P (xs ++ ys)
each-both P [] ys h k = k
each-both P (x ∷ xs) ys h k = (h.0, each-both P xs ys h.1 k)

each-take : {B : Type 0} (P : B → Type 0) (xs : List B) (k : ℕ) → EachGood P xs → EachGood P (take k xs)
each-take P [] zero h = tt
each-take P [] (suc k) h = tt
each-take P (x ∷ xs) zero h = tt
each-take P (x ∷ xs) (suc k) h = (h.0, each-take P xs k h.1)

each-drop : {B : Type 0} (P : B → Type 0) (xs : List B) (k : ℕ) → EachGood P xs → EachGood P (drop k xs)
each-drop P [] zero h = tt
each-drop P [] (suc k) h = tt
each-drop P (x ∷ xs) zero h = h
each-drop P (x ∷ xs) (suc k) h = each-drop P xs k h.1

pub each-insert : {B : Type 0} (P : B → Type 0) (xs : List B) (k : ℕ) (x : B) → EachGood P xs → P x → EachGood P (insert xs k x)
each-insert P xs k x h p = each-both P (take k xs) (x ∷ drop k xs) (each-take P xs k h) (p, each-drop P xs k h)

pub each-remove : {B : Type 0} (P : B → Type 0) (xs : List B) (k : ℕ) → EachGood P xs → EachGood P (remove xs k)
each-remove P xs k h = each-both P (take k xs) (drop (suc k) xs) (each-take P xs k h) (each-drop P xs (suc k) h)

pub out-Items : (slots : List Slot) → out-Slot (Items slots) ≡ Slot-F.Items slots
out-Items slots = ap out-Slot (sym (rolls-Items slots)) ∙ out-roll-Slot (Slot-F.Items slots)

takes-items : (classes : List Class) (m : Memory) (n at : ℕ) (i : Item) (items : List Slot) → IsSlotOfForm classes m n at (listed i) → EachGood (λ s. IsElement classes m i (out-Slot s)) items → TakesSlot classes m n at (Items items)
takes-items classes m n at i items slot h = takes-slot classes m n at (listed i) (Items items) slot (subst (λ v. IsOfForm classes m (listed i) v) (sym (out-Items items)) h)

pub takes-set : (classes : List Class) (m : Memory) (n at k : ℕ) (i : Item) (items : List Slot) (s : Slot) → IsSlotOfForm classes m n at (listed i) → EachGood (λ s. IsElement classes m i (out-Slot s)) items → IsElement classes m i (out-Slot s) → TakesSlot classes m n at (Items (slice_set items k s))
takes-set classes m n at k i items s slot h e = takes-items classes m n at i (slice_set items k s) slot (each-set (λ s. IsElement classes m i (out-Slot s)) items k s h e)

pub takes-insert : (classes : List Class) (m : Memory) (n at k : ℕ) (i : Item) (items : List Slot) (s : Slot) → IsSlotOfForm classes m n at (listed i) → EachGood (λ s. IsElement classes m i (out-Slot s)) items → IsElement classes m i (out-Slot s) → TakesSlot classes m n at (Items (insert items k s))
takes-insert classes m n at k i items s slot h e = takes-items classes m n at i (insert items k s) slot (each-insert (λ s. IsElement classes m i (out-Slot s)) items k s h e)

pub takes-remove : (classes : List Class) (m : Memory) (n at k : ℕ) (i : Item) (items : List Slot) → IsSlotOfForm classes m n at (listed i) → EachGood (λ s. IsElement classes m i (out-Slot s)) items → TakesSlot classes m n at (Items (remove items k))
takes-remove classes m n at k i items slot h = takes-items classes m n at i (remove items k) slot (each-remove (λ s. IsElement classes m i (out-Slot s)) items k h)

-- ---- places

pub long-list : (m : Memory) (n at least : ℕ) (items : List Slot) → HasItemsAt m n at least → IsListAt m n at items → least ≤ length items
long-list m n at least items h list = subst (λ (xs : List Slot). least ≤ length xs) (same-list m n at h.0 items h.1 list) h.2

live-changed : (n : ℕ) (f : Object → Object) → ((o : Object) → (f o).number ≡ o.number) → (os : List Object) → IsSome (object_of n os) → IsSome (object_of n (changed n f os))
live-changed n f num [] h = h
live-changed n f num (o ∷ os) h = by (is_numbered n o) refl h (live-changed n f num os)
  where
    by : (b : Bool) → is_numbered n o ≡ b → IsSome (cond b (Some o) (object_of n os)) → (IsSome (object_of n os) → IsSome (object_of n (changed n f os))) → IsSome (object_of n (cond b (f o ∷ os) (o ∷ changed n f os)))
    by true is h rest = let there : is_numbered n (f o) ≡ true = ap (λ j. j == n) (num o) ∙ is in rw there refl
    by false is h rest = rw is (rest h)

live-loosened : (n : ℕ) (ms : List ℕ) (os : List Object) → IsSome (object_of n os) → IsSome (object_of n (loosened ms os))
live-loosened n ms [] h = h
live-loosened n ms (o ∷ os) h = by (is_numbered n o) h (live-loosened n ms os)
  where
    by : (b : Bool) → IsSome (cond b (Some o) (object_of n os)) → (IsSome (object_of n os) → IsSome (object_of n (loosened ms os))) → IsSome (cond b (Some (loosen ms o)) (object_of n (loosened ms os)))
    by true h rest = refl
    by false h rest = rest h

pub inserted-live : (m w : Memory) (n at k : ℕ) (f : Fill) → InsertsItem m w n at k f → IsSome (object_of n w.objects)
unfolding loosed edited
inserted-live m w n at k f h =
    let g : Object → Object = with_slot at (Items (insert h.1 k (slot_from f))) in
    let old : IsSome (object_of n m.objects) = subst (λ (x : Option Object). IsSome x) (sym h.2) refl in
    subst (λ (x : Memory). IsSome (object_of n x.objects)) (sym h.4) (live-loosened n (passed f) (changed n g m.objects) (live-changed n g (λ o. refl) m.objects old))

pub has-items : (m : Memory) (n at k : ℕ) → HasItemsAt m n at k → HasItems m n at k
has-items m n at k h = subst (λ (x : Option Object). IfSome x (λ o. (items : List Slot) × (slice_get o.slots at ≡ Some (Items items)) × (k ≤ length items))) (sym h.1.1) (h.0, h.1.2, h.2)

-- ---- holds that are given back

pub none-back : (m : Memory) (back : Option Held) → ((h : Held) → back ≡ Some h → ⊥) → m ≡ given_back m back
unfolding given_back
none-back m None h = refl
none-back m (Some held) h = absurd (h held refl)

-- ---- the items of a list fit

pub kind-form : (classes : List Class) (m : Memory) (k : Kind) (f : Form) (s : Slot-F Slot) → form_of k ≡ Some f → IsOfKind classes m k s → IsOfForm classes m f s
kind-form classes m kind.Text f s e h = subst (λ g. IsOfSomeForm classes m g s) e h
kind-form classes m kind.Whole f s e h = subst (λ g. IsOfSomeForm classes m g s) e h
kind-form classes m kind.Truth f s e h = subst (λ g. IsOfSomeForm classes m g s) e h
kind-form classes m (kind.Ref c) f s e h = subst (λ g. IsOfSomeForm classes m g s) e h
kind-form classes m (kind.Serial c) f s e h = subst (λ g. IsOfSomeForm classes m g s) e h
kind-form classes m (kind.ListOf i) f s e h = subst (λ g. IsOfSomeForm classes m g s) e h
kind-form classes m (kind.ArrayOf i) f s e h = subst (λ g. IsOfSomeForm classes m g s) e h
kind-form classes m (kind.Many c side) f s e h = absurd (cc)
kind-form classes m (kind.One c side) f s e h = subst (λ g. IsOfSomeForm classes m g s) e h

pub list-elements : (classes : List Class) (m : Memory) (n at : ℕ) (i : Item) (items : List Slot) → TableFits classes m → IsListAt m n at items → IsSlotOfForm classes m n at (listed i) → EachGood (λ s. IsElement classes m i (out-Slot s)) items
list-elements classes m n at i items fits list slot =
    let same : list.0 ≡ slot.0 = let both : Some list.0 ≡ Some slot.0 = sym list.1 ∙ slot.2 in cc in
    let got : slice_get slot.0.slots at ≡ Some (Items items) = sym (ap (λ (o : Object). slice_get o.slots at) same) ∙ list.2 in
    let good : IsOfKind classes m slot.1.kind (out-Slot (Items items)) = good-at (IsSlotOf classes m) (props_of (class_of classes slot.0.class)) slot.0.slots at slot.1 (Items items) (fits-at classes m n slot.0 fits slot.2).slots slot.3 got in
    subst (λ v. IsOfForm classes m (listed i) v) (out-Items items) (kind-form classes m slot.1.kind (listed i) (out-Slot (Items items)) slot.4 good)

pub list-at : (classes : List Class) (m : Memory) (n : ℕ) (name : List ℕ) (at level : ℕ) (i : Item) (items : List Slot) → IsList classes m n name at level i items → IsListAt m n at items
list-at classes m n name at level i items h = (h.object, h.found, h.slot)

-- ---- what the calls answer

pub refused-tells : {X : Type 0} (P : ErrorName → Type 0) (r : Result X ShapeError) (e : ErrorName) (w x : Memory) → r ≡ Err (Script e) → w ≡ x → P e → IfErr r (λ y. (w ≡ x) × Tells P y)
refused-tells P r e w x is same h = subst (λ q. IfErr q (λ y. (w ≡ x) × Tells P y)) (sym is) (same, h)

pub list-set : {X E : Type 0} (classes : List Class) (m w : Memory) (n at at1 level : ℕ) (i i1 : Item) (items : List Slot) (z : ℤ) (k long : ℕ) (f : Fill) (r : Result X E) → at1 ≡ at → i1 ≡ i → long ≡ length items → IsAt z k → k < long → Takes classes m i1 f
    → OnOk r ((lv : ℕ) → w ≡ stood n at1 (λ s. Items (slice_set items k s)) (standing classes m lv i1 f)) → OnOk r (ListSets classes m n at level i items z f w)
list-set classes m w n at at1 level i i1 items z k long f (Err x) a b l is less takes h = tt
list-set classes m w n at at1 level i i1 items z k long f (Ok x) a b l is less takes h = (
  k,
  is,
  omega (arith, l, less),
  subst (λ j. Takes classes m j f) b takes,
  h level ∙ ap (λ p. stood n p (λ s. Items (slice_set items k s)) (standing classes m level i1 f)) a ∙ ap (λ j. stood n at (λ s. Items (slice_set items k s)) (standing classes m level j f)) b,
)

pub list-inserted : {X E : Type 0} (classes : List Class) (m w : Memory) (n at at1 level : ℕ) (i i1 : Item) (items : List Slot) (z : ℤ) (k long : ℕ) (f : Fill) (r : Result X E) → at1 ≡ at → i1 ≡ i → long ≡ length items → IsAt z k → k < long + 1 → Takes classes m i1 f
    → OnOk r ((lv : ℕ) → w ≡ stood n at1 (λ s. Items (insert items k s)) (standing classes m lv i1 f)) → OnOk r (ListInserts classes m n at level i items z f w)
list-inserted classes m w n at at1 level i i1 items z k long f (Err x) a b l is less takes h = tt
list-inserted classes m w n at at1 level i i1 items z k long f (Ok x) a b l is less takes h = (
  k,
  is,
  omega (arith, l, less),
  subst (λ j. Takes classes m j f) b takes,
  h level ∙ ap (λ p. stood n p (λ s. Items (insert items k s)) (standing classes m level i1 f)) a ∙ ap (λ j. stood n at (λ s. Items (insert items k s)) (standing classes m level j f)) b,
)

pub list-added : {X E : Type 0} (classes : List Class) (m w : Memory) (n at at1 level : ℕ) (i i1 : Item) (items : List Slot) (long : ℕ) (f : Fill) (r : Result X E) → at1 ≡ at → i1 ≡ i → long ≡ length items → Takes classes m i1 f
    → OnOk r ((lv : ℕ) → w ≡ stood n at1 (λ s. Items (insert items long s)) (standing classes m lv i1 f)) → OnOk r (ListAdds classes m n at level i items f w)
list-added classes m w n at at1 level i i1 items long f (Err x) a b l takes h = tt
list-added classes m w n at at1 level i i1 items long f (Ok x) a b l takes h = (
  subst (λ j. Takes classes m j f) b takes,
  h level ∙ ap (λ p. stood n p (λ s. Items (insert items long s)) (standing classes m level i1 f)) a ∙ ap (λ j. stood n at (λ s. Items (insert items long s)) (standing classes m level j f)) b ∙ ap (λ k. stood n at (λ s. Items (insert items k s)) (standing classes m level i f)) l,
)

-- ---- positions

pub nowhere-more : (z : ℤ) (long more : ℕ) → more ≡ min (long + 1) 18446744073709551615 → FitsSigned w64 z → IsNowhere z more → IsNowhere z (long + 1)
nowhere-more z long more is fits none = λ k less at.
    let small : FitsSigned w64 (pos (k + 1)) = subst (λ y. FitsSigned w64 y) at fits in
    let most : k + 1 < 9223372036854775808 = omega (arith, ints, small) in
    none k (subst (λ j. k < j) (sym is) (omega (arith, less, most))) at

pub less-more : (k long more : ℕ) → more ≡ min (long + 1) 18446744073709551615 → k < more → k < long + 1
less-more k long more is less = let below : k < min (long + 1) 18446744073709551615 = subst (λ j. k < j) is less in omega (arith, below)

pub refuses-item : (classes : List Class) (m : Memory) (i i1 : Item) (long : ℕ) (z : ℤ) (w : Fill) (e : ErrorName) → i1 ≡ i → (¬ Takes classes m i1 w) → e ≡ error_of i1 → ItemRefuses classes m i long z w e
refuses-item classes m i i1 long z w e same takes is = inl ((λ t. takes (subst (λ j. Takes classes m j w) (sym same) t)), is ∙ ap error_of same)

pub refuses-position : (classes : List Class) (m : Memory) (i i1 : Item) (long : ℕ) (z : ℤ) (w : Fill) → i1 ≡ i → Takes classes m i1 w → IsNowhere z long → ItemRefuses classes m i long z w IllegalValue
refuses-position classes m i i1 long z w same takes none = inr (subst (λ j. Takes classes m j w) same takes, none, refl)
