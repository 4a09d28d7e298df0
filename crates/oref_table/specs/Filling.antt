-- What stands at a place once it is filled.
use Rattle.std.specs.Prelude.{ℕ, ◌≡◌, ◌<◌, ◌≤◌, ◌==◌, Bool, Some, None, IfSome, IsSome, List, [], ◌∷◌, slice_set, slice_get, insert, length}
use Rattle.oref_table.specs.declared.oref.Oref.{Oref}
use Rattle.oref_table.specs.declared.slot.Slot.{Slot}
use Rattle.oref_table.specs.declared.slot.Slot.TheVariants.{Plain, Target, To, Items, Members}
use Rattle.oref_table.specs.declared.fill.Fill.{Fill}
use Rattle.oref_table.specs.declared.fill.Fill.TheVariants as fill
use Rattle.oref_table.specs.Memory.{Object, Memory, object_of, outside_of, edited, loosed, first_that, without_first}
use Rattle.oref_table.specs.Dropping.{dropped}

unfoldable pub slot_from : Fill → Slot
slot_from (fill.Plain v) = Plain v
slot_from (fill.Target id) = Target id
slot_from (fill.To h) = To (record { 0 = h.number })
slot_from fill.Nothing = Target None

-- the hold that passes from outside into the slot
unfoldable pub passed : Fill → List ℕ
passed (fill.To h) = h.number ∷ []
passed _ = []

-- there is such a hold
unfoldable pub IsHeldFor : Memory → Fill → Type 0
IsHeldFor m (fill.To h) = 0 < outside_of m h.number
IsHeldFor m _ = Unit {0}

-- the slot of the object is a list of so many items at least
abbrev pub HasItems : Memory → ℕ → ℕ → ℕ → Type 0
HasItems m n s least = IfSome (object_of n m.objects) (λ o. (items : List Slot) × (slice_get o.slots s ≡ Some (Items items)) × (least ≤ length items))

abbrev pub is_member : ℕ → Oref → Bool
is_member k o = o.0 == k

-- the slot of the object has members, and the number is one of them
abbrev pub HasMember : Memory → ℕ → ℕ → ℕ → Type 0
HasMember m n s k = IfSome (object_of n m.objects) (λ o. (members : List Oref) × (slice_get o.slots s ≡ Some (Members members)) × IsSome (first_that (is_member k) members))

abbrev pub with_slots : (List Slot → List Slot) → Object → Object
with_slots h o = record o { slots = h o.slots }

abbrev pub with_slot : ℕ → Slot → Object → Object
with_slot s slot o = record o { slots = slice_set o.slots s slot }

-- an item is put before the one at the place in the list in the slot, and its hold passes into it
abbrev pub InsertsItem : Memory → Memory → ℕ → ℕ → ℕ → Fill → Type 0
InsertsItem m w n s before with_ = (o : Object) × (items : List Slot) × (object_of n m.objects ≡ Some o) × (slice_get o.slots s ≡ Some (Items items)) × (w ≡ loosed (edited m n (with_slot s (Items (insert items before (slot_from with_))))) (passed with_))

-- the member is taken out of the slot, and then all released that nothing holds
abbrev pub DropsMember : Memory → Memory → ℕ → ℕ → ℕ → Type 0
DropsMember m w n s k = (o : Object) × (members : List Oref) × (object_of n m.objects ≡ Some o) × (slice_get o.slots s ≡ Some (Members members)) × (w ≡ dropped (edited m n (with_slot s (Members (without_first (is_member k) members)))))
