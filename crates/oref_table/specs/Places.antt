-- The places of an object: what each may take, and what stands among the slots once it is filled.
use Rattle.std.specs.Prelude.{ℕ, ◌≡◌, ◌+◌, ◌<◌, ◌≤◌, ◌==◌, cond, Bool, IsTrue, Some, None, IsSome, List, [], ◌∷◌, ◌++◌, map, slice_set, slice_get, length}
use Rattle.std.specs.List.{remove}
use Rattle.std.specs.Ordering.{eq_by_cmp}
use Rattle.std.specs.FinMap.{find, put, is_sorted}
use Rattle.obj_kinds.specs.declared.sub.Sub.{Sub}
use Rattle.obj_kinds.specs.SubOrder.{sub_cmp}
use Rattle.oref_table.specs.declared.oref.Oref.{Oref}
use Rattle.oref_table.specs.declared.oref.Held.{Held}
use Rattle.oref_table.specs.declared.slot.Slot.{Slot}
use Rattle.oref_table.specs.declared.slot.Slot.TheVariants.{Items, Map, Members}
use Rattle.oref_table.specs.declared.fill.Fill.{Fill}
use Rattle.oref_table.specs.declared.fill.Fill.TheVariants as fill
use Rattle.oref_table.specs.declared.fill.Place.{Place}
use Rattle.oref_table.specs.declared.fill.Place.TheVariants as place
use Rattle.oref_table.specs.Refs.{times}
use Rattle.oref_table.specs.Memory.{Object, Memory, object_of, first_that, without_first, edited, loosed}
use Rattle.oref_table.specs.Dropping.{dropped}
use Rattle.oref_table.specs.Filling.{slot_from, passed, is_member, with_slots}

-- the items with the item in the place of another, or at the end
abbrev pub item_put : ℕ → Slot → List Slot → List Slot
item_put i item items = cond (i == length items) (items ++ item ∷ []) (slice_set items i item)

-- the items once the place among them is filled; nothing takes the item there out
unfoldable pub items_filled : ℕ → Fill → List Slot → List Slot
items_filled i fill.Nothing items = remove items i
items_filled i with_ items = item_put i (slot_from with_) items

-- an item may be put in the place of each and at the end, and each may be taken out
unfoldable pub ItemTakes : ℕ → Fill → List Slot → Type 0
ItemTakes i fill.Nothing items = i < length items
ItemTakes i _ items = i ≤ length items

abbrev pub has_key : Sub → Sub × Slot → Bool
has_key k p = eq_by_cmp sub_cmp k p.0

-- the elements once the one of the key is filled: it takes the place of the one that has the key, or stands among
-- them in the order of keys; nothing takes the one of the key out
unfoldable pub pairs_filled : Sub → Fill → List (Sub × Slot) → List (Sub × Slot)
pairs_filled k fill.Nothing pairs = without_first (has_key k) pairs
pairs_filled k with_ pairs = put sub_cmp k (slot_from with_) pairs

-- each key may be filled, and each that an element has may be taken out
unfoldable pub PairTakes : Sub → Fill → List (Sub × Slot) → Type 0
PairTakes k fill.Nothing pairs = IsSome (find sub_cmp k pairs)
PairTakes k _ pairs = Unit {0}

-- as many members more as holds that pass into the slot
abbrev pub with_members : Fill → List Oref → List Oref
with_members with_ members = members ++ map (λ n. record { 0 = n }) (passed with_)

-- a member is an object that isn't one yet
abbrev pub MemberTakes : Fill → List Oref → Type 0
MemberTakes with_ members = (held : Held) × (with_ ≡ fill.To held) × (first_that (is_member held.number) members ≡ None)

-- the number of the slot that the place is in
abbrev pub slot_number : Place → ℕ
slot_number (place.Slot s) = s
slot_number (place.Item s i) = s
slot_number (place.Pair s k) = s
slot_number (place.Member s) = s

-- what stands in the slot has the place, and may be filled there so; the elements of an array stand in the order of
-- their keys
unfoldable pub PartTakes : Place → Fill → Slot → Type 0
PartTakes (place.Slot s) with_ old = Unit {0}
PartTakes (place.Item s i) with_ old = (items : List Slot) × (old ≡ Items items) × ItemTakes i with_ items
PartTakes (place.Pair s k) with_ old = (pairs : List (Sub × Slot)) × (old ≡ Map pairs) × IsTrue (is_sorted sub_cmp pairs) × PairTakes k with_ pairs
PartTakes (place.Member s) with_ old = (members : List Oref) × (old ≡ Members members) × MemberTakes with_ members

-- filling the place needs no more room: a slot, an item or an element that is there already
unfoldable pub IsThere : Place → Slot → Type 0
IsThere (place.Slot s) old = Unit {0}
IsThere (place.Item s i) old = (items : List Slot) × (old ≡ Items items) × (i < length items)
IsThere (place.Pair s k) old = (pairs : List (Sub × Slot)) × (old ≡ Map pairs) × IsSome (find sub_cmp k pairs)
IsThere (place.Member s) old = ⊥

-- what stands in the slot then
unfoldable pub PartFills : Place → Fill → Slot → Slot → Type 0
PartFills (place.Slot s) with_ old new = new ≡ slot_from with_
PartFills (place.Item s i) with_ old new = (items : List Slot) × (old ≡ Items items) × (new ≡ Items (items_filled i with_ items))
PartFills (place.Pair s k) with_ old new = (pairs : List (Sub × Slot)) × (old ≡ Map pairs) × (new ≡ Map (pairs_filled k with_ pairs))
PartFills (place.Member s) with_ old new = (members : List Oref) × (old ≡ Members members) × (new ≡ Members (with_members with_ members))

-- the place is among the slots, and may be filled so
abbrev pub Takes : Place → Fill → List Slot → Type 0
Takes at with_ slots = (old : Slot) × (slice_get slots (slot_number at) ≡ Some old) × PartTakes at with_ old

-- what stands among the slots then
abbrev pub Fills : Place → Fill → List Slot → List Slot → Type 0
Fills at with_ slots new = (old : Slot) × (part : Slot) × (slice_get slots (slot_number at) ≡ Some old) × PartFills at with_ old part × (new ≡ slice_set slots (slot_number at) part)

-- the OREFs after a change and those that it gives up are the OREFs before it and those that it puts there
abbrev pub IsExchange : List ℕ → List ℕ → List ℕ → List ℕ → Type 0
IsExchange before put_ after given_up = (x : ℕ) → times x after + times x given_up ≡ times x before + times x put_

-- the object of the number is live, and the place of it may be filled so
abbrev pub MayFill : Memory → ℕ → Place → Fill → Type 0
MayFill m n at with_ = (o : Object) × (object_of n m.objects ≡ Some o) × Takes at with_ o.slots

-- the place filled, and then all released that nothing holds
abbrev pub IsFilledTo : Memory → Memory → ℕ → Place → Fill → Type 0
IsFilledTo m w n at with_ = (o : Object) × (slots : List Slot) × (object_of n m.objects ≡ Some o) × Fills at with_ o.slots slots × (w ≡ dropped (loosed (edited m n (with_slots (λ _. slots))) (passed with_)))

-- what stands among the slots has the place already
abbrev pub IsAmong : Place → List Slot → Type 0
IsAmong at slots = (old : Slot) × (slice_get slots (slot_number at) ≡ Some old) × IsThere at old
