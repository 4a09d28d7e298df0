-- An item that is added to a list.
use Rattle.std.proofs.Common.{zero, suc, ◌≡◌, ℕ, ◌+◌, Option, Some, None, List, [], ◌∷◌, ◌++◌, length, take, drop, insert, refl, ap, sym, subst, ◌∙◌, arith, slice_set, IfSome}
use Rattle.std.specs.List.{AllByRecursion, slice_get}
use Rattle.std.specs.Option.{IsSome}
use Rattle.std.proofs.lemmas.List.Concat.{flat_map-append}
use Rattle.oref_table.specs.declared.slot.Slot.{Slot}
use Rattle.oref_table.specs.declared.slot.Slot.TheVariants.{Items}
use Rattle.oref_table.specs.declared.fill.Fill.{Fill}
use Rattle.oref_table.specs.declared.obj.Entry.{Entry}
use Rattle.oref_table.specs.declared.obj.Freed.{Freed}
use Rattle.oref_table.specs.Refs.{times, refs_in, refs_of}
use Rattle.oref_table.specs.Memory.{Object, Memory, object_of, edited, loosed, first_that, at_first}
use Rattle.oref_table.specs.Entries.{refs_all, seen_one, seen, is_entry, with_entry_slot, HasHolder}
use Rattle.oref_table.specs.Exchanges.{InsertsFirst}
use Rattle.oref_table.specs.Sound.{IsSound}
use Rattle.oref_table.specs.Stands.{memory_of, IsTable}
use Rattle.oref_table.specs.Filling.{slot_from, passed, IsHeldFor, with_slot, InsertsItem}
use Rattle.oref_table.proofs.Lowered.{times-append, lowered-none}
use Rattle.oref_table.proofs.RefLaws.{refs-items}
use Rattle.oref_table.proofs.EditLaws.{all-at_first, length-at_first, entry-of, object-found}
use Rattle.oref_table.proofs.FillLaws.{fill-any, times-slot, refs-passed, covered-passed, dead-passed}

pub take-drop : {X : Type 0} (xs : List X) (i : ℕ) → take i xs ++ drop i xs ≡ xs
take-drop xs zero = refl
take-drop [] (suc i) = refl
take-drop (x ∷ xs) (suc i) = ap (λ t. x ∷ t) (take-drop xs i)

pub times-inserted : (x : ℕ) (items : List Slot) (i : ℕ) (item : Slot) → times x (refs_in (insert items i item)) ≡ times x (refs_in items) + times x (refs_of item)
times-inserted x items i item =
    let front : List Slot = take i items in
    let back : List Slot = drop i items in
    let whole : times x (refs_in items) ≡ times x (refs_in front) + times x (refs_in back) =
    ap (λ ss. times x (refs_in ss)) (sym (take-drop items i)) ∙ ap (times x) (flat_map-append refs_of front back) ∙ times-append x (refs_in front) (refs_in back) in
    let parts : times x (refs_in (front ++ item ∷ back)) ≡ times x (refs_in front) + times x (refs_in (item ∷ back)) =
    ap (times x) (flat_map-append refs_of front (item ∷ back)) ∙ times-append x (refs_in front) (refs_in (item ∷ back)) in
    omega (arith, whole, parts, times-append x (refs_of item) (refs_in back))

pub record IsInserted (m : Memory) (es : List Entry) (last : ℕ) (fs : List Freed) (places : ℕ) : Type 0 where
  pub is : memory_of es last fs ≡ m
  pub stands : IsTable es last fs places

pub insert-item : (es : List Entry) (last : ℕ) (fs : List Freed) (n places at before : ℕ) (r : Entry) (items : List Slot) (w : Fill) (new : List Entry) → IsTable es last fs places → first_that (is_entry n) es ≡ Some r → slice_get r.obj.slots at ≡ Some (Items items) → IsHeldFor (memory_of es last fs) w → new ≡ at_first (is_entry n) (with_entry_slot at (Items (insert items before (slot_from w)))) es → IsInserted (loosed (edited (memory_of es last fs) n (with_slot at (Items (insert items before (slot_from w))))) (passed w)) new last fs places
unfolding loosed edited
insert-item es last fs n places at before r items w new t found there held so =
    let slot : Slot = Items (insert items before (slot_from w)) in
    let m : Memory = loosed (edited (memory_of es last fs) n (with_slot at slot)) (passed w) in
    let mid : List Entry = at_first (is_entry n) (with_entry_slot at slot) es in
    let f = fill-any es last fs n places r (λ slots. slice_set slots at slot) [] (passed w) new t found
    (covered-passed es last fs places w t held) (λ x e. dead-passed (memory_of es last fs) w x held e)
    (λ x. omega (arith, times-slot x r.obj.slots at slot (Items items) there, ap (times x) (refs-items items), ap (times x) (refs-items (insert items before (slot_from w))), times-inserted x items before (slot_from w), ap (times x) (refs-passed w)))
    (so ∙ sym (lowered-none mid)) in
    let holders : AllByRecursion HasHolder new = subst (λ (xs : List Entry). AllByRecursion HasHolder xs) (sym so) (all-at_first (is_entry n) (with_entry_slot at slot) HasHolder (λ e h. h) es t.held) in
    let long : length new ≡ length es = ap length so ∙ length-at_first (is_entry n) (with_entry_slot at slot) es in
    let memory : memory_of new last fs ≡ m = λ i. record { objects = f.objects i; last = last; freed = fs } in
    record { is = memory; stands = record { counted = f.counted; sound = subst IsSound (sym memory) f.sound; held = holders; room = omega (arith, long, t.room) } }

some-object : (P : Object → Type 0) (f : Option Object) → IfSome f P → IsSome f → (o : Object) × (f ≡ Some o) × P o
some-object P None h s = cc
some-object P (Some o) h s = (o, refl, h)

-- what holds of the slots of a live object holds of its entry
pub slots-of : (P : List Slot → Type 0) (es : List Entry) (n : ℕ) → IsSome (object_of n (seen es)) → IfSome (object_of n (seen es)) (λ o. P o.slots) → (e : Entry) × (first_that (is_entry n) es ≡ Some e) × P e.obj.slots
slots-of P es n live h =
    let o = some-object (λ o. P o.slots) (object_of n (seen es)) h live in
    let e = entry-of n es o.0 o.1 in
    (e.0, e.1, subst (λ (q : Object). P q.slots) e.2 o.2)

-- the item is added, by what the entry's call says
pub inserts-item : (es : List Entry) (last : ℕ) (fs : List Freed) (n places at before : ℕ) (w : Fill) (item : Slot) (new : List Entry) → IsTable es last fs places → IsHeldFor (memory_of es last fs) w → item ≡ slot_from w → InsertsFirst n at before item es new → InsertsItem (memory_of es last fs) (memory_of new last fs) n at before w × IsTable new last fs places
inserts-item es last fs n places at before w item new t held is s =
    let r : Entry = s.0 in
    let items : List Slot = s.1 in
    let made : new ≡ at_first (is_entry n) (with_entry_slot at (Items (insert items before (slot_from w)))) es = s.4 ∙ ap (λ x. at_first (is_entry n) (with_entry_slot at (Items (insert items before x))) es) is in
    let p = insert-item es last fs n places at before r items w new t s.2 s.3 held made in
    ((seen_one (refs_all es) r, items, object-found es n r s.2, s.3, p.is), p.stands)
