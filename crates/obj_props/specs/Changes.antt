-- What a set or a new part needs of memory.
use Rattle.std.specs.Prelude.{◌≡◌, ℕ, [], ◌∷◌, slice_get, Some}
use Rattle.oref_table.specs.declared.slot.Slot.{Slot}
use Rattle.oref_table.specs.declared.fill.Fill.{Fill}
use Rattle.oref_table.specs.declared.fill.Fill.TheVariants as fill
use Rattle.oref_table.specs.Memory.{Object, Memory, object_of, loosed}
use Rattle.oref_table.specs.Dropping.{dropped}

-- the object of the number is live and has the slot
abbrev pub HasSlot : Memory → ℕ → ℕ → Type 0
HasSlot m n at = (o : Object) × (s : Slot) × (object_of n m.objects ≡ Some o) × (slice_get o.slots at ≡ Some s)

-- the hold of what was to be stored is given back
unfoldable pub let_gone : Memory → Fill → Memory
let_gone m (fill.To h) = dropped (loosed m (h.number ∷ []))
let_gone m _ = m
