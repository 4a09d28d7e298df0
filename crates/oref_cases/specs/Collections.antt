-- What stands in the slot of a live object.
use Rattle.std.specs.Prelude.{ℕ, ◌≡◌, Some, List, slice_get}
use Rattle.oref_table.specs.declared.slot.Slot.{Slot}
use Rattle.oref_table.specs.Memory.{Object, object_of}

abbrev pub HasSlotAt : List Object → ℕ → ℕ → Slot → Type 0
HasSlotAt os n s slot = (o : Object) × (object_of n os ≡ Some o) × (slice_get o.slots s ≡ Some slot)
