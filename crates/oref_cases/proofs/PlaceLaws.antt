-- Which places of collections may be filled.
use Rattle.std.proofs.Common.{◌≡◌, ℕ, ◌<◌, ◌≤◌, Bool, true, false, Option, Some, None, IsSome, IfSome, is_some, slice_get, List, [], ◌∷◌, length, refl, ap, subst, sym, ◌∙◌}
use Rattle.std.specs.FinMap.{find, is_sorted}
use Rattle.obj_kinds.specs.declared.sub.Sub.{Sub}
use Rattle.obj_kinds.specs.SubOrder.{sub_cmp}
use Rattle.oref_table.specs.declared.oref.Oref.{Oref}
use Rattle.oref_table.specs.declared.oref.Held.{Held}
use Rattle.oref_table.specs.declared.slot.Slot.{Slot}
use Rattle.oref_table.specs.declared.slot.Slot.TheVariants.{Items, Map, Members}
use Rattle.oref_table.specs.declared.fill.Fill.TheVariants.{To, Nothing}
use Rattle.oref_table.specs.declared.fill.Place.TheVariants.{Item, Member, Pair}
use Rattle.oref_table.specs.Filling.{is_member, HasItems, HasMember}
use Rattle.oref_table.specs.Memory.{Object, Memory, object_of, first_that, IsLive}
use Rattle.oref_table.specs.Filling.{passed}
use Rattle.oref_table.specs.Refs.{times}
use Rattle.oref_table.specs.Places.{MayFill, PartTakes, ItemTakes, PairTakes}
use Rattle.oref_cases.specs.Collections.{HasSlotAt}

pub item_may : (m : Memory) (n s at : ℕ) (items : List Slot) (h : Held) → HasSlotAt m.objects n s (Items items) → at ≤ length items → MayFill m n (Item s at) (To h)
unfolding PartTakes ItemTakes
item_may m n s at items h i l = (i.0, i.1, (Items items, i.2, (items, refl, l)))

pub item_goes : (m : Memory) (n s at : ℕ) (items : List Slot) → HasSlotAt m.objects n s (Items items) → at < length items → MayFill m n (Item s at) Nothing
unfolding PartTakes ItemTakes
item_goes m n s at items i l = (i.0, i.1, (Items items, i.2, (items, refl, l)))

pub before_may : (m : Memory) (n s at : ℕ) (items : List Slot) → HasSlotAt m.objects n s (Items items) → at ≤ length items → HasItems m n s at
before_may m n s at items i l = subst (λ (o : Option Object). IfSome o (λ o. (items : List Slot) × (slice_get o.slots s ≡ Some (Items items)) × (at ≤ length items))) (sym i.1) (items, i.2, l)

pub pair_may : (m : Memory) (n s : ℕ) (key : Sub) (pairs : List (Sub × Slot)) (h : Held) → HasSlotAt m.objects n s (Map pairs) → is_sorted sub_cmp pairs ≡ true → MayFill m n (Pair s key) (To h)
unfolding PartTakes PairTakes
pair_may m n s key pairs h i l = (i.0, i.1, (Map pairs, i.2, (pairs, refl, l, tt)))

pub pair_goes : (m : Memory) (n s : ℕ) (key : Sub) (pairs : List (Sub × Slot)) → HasSlotAt m.objects n s (Map pairs) → is_sorted sub_cmp pairs ≡ true → is_some (find sub_cmp key pairs) ≡ true → MayFill m n (Pair s key) Nothing
unfolding PartTakes PairTakes
pair_goes m n s key pairs i l f = (i.0, i.1, (Map pairs, i.2, (pairs, refl, l, f)))

absent : {X : Type 0} (o : Option X) → is_some o ≡ false → o ≡ None
absent None e = refl
absent (Some x) e = cc

pub member_may : (m : Memory) (n s k : ℕ) (members : List Oref) (h : Held) → HasSlotAt m.objects n s (Members members) → is_some (first_that (is_member k) members) ≡ false → h.number ≡ k → MayFill m n (Member s) (To h)
unfolding PartTakes
member_may m n s k members h i l e = (i.0, i.1, (Members members, i.2, (members, refl, (h, refl, subst (λ (j : ℕ). first_that (is_member j) members ≡ None) (sym e) (absent (first_that (is_member k) members) l)))))

pub member_goes : (m : Memory) (n s k : ℕ) (members : List Oref) → HasSlotAt m.objects n s (Members members) → is_some (first_that (is_member k) members) ≡ true → HasMember m n s k
member_goes m n s k members i l = subst (λ (o : Option Object). IfSome o (λ o. (members : List Oref) × (slice_get o.slots s ≡ Some (Members members)) × IsSome (first_that (is_member k) members))) (sym i.1) (members, i.2, l)

pub live_at : (m : Memory) (n s : ℕ) (slot : Slot) → HasSlotAt m.objects n s slot → IsLive m n
live_at m n s slot i = subst (λ (o : Option Object). IsSome o) (sym i.1) refl

-- a hold that passes into a place
pub passed_hold : (h : Held) (n : ℕ) → times n (passed (To h)) ≡ times n (h.number ∷ [])
unfolding passed
passed_hold h n = refl

pub passed_none : (n : ℕ) → times n (passed Nothing) ≡ 0
unfolding passed
passed_none n = refl
