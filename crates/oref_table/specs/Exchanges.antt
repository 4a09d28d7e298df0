-- What a change of the slots of the object of a number leaves.
use Rattle.std.specs.Prelude.{ℕ, ◌≡◌, ◌≤◌, Some, List, insert, length, slice_get}
use Rattle.oref_table.specs.declared.oref.Oref.{Oref}
use Rattle.oref_table.specs.declared.slot.Slot.{Slot}
use Rattle.oref_table.specs.declared.slot.Slot.TheVariants.{Items, Members}
use Rattle.oref_table.specs.declared.fill.Fill.{Fill}
use Rattle.oref_table.specs.declared.fill.Place.{Place}
use Rattle.oref_table.specs.declared.obj.Entry.{Entry}
use Rattle.oref_table.specs.declared.obj.Obj.{Obj}
use Rattle.std.specs.Map.{lookup}
use Rattle.std.specs.BTreeMap.{is_at}
use Rattle.std.specs.Ordering.{nat_cmp}
use Rattle.oref_table.specs.Rows.{IsRowEdit}
use Rattle.oref_table.specs.Refs.{refs_in}
use Rattle.oref_table.specs.Memory.{at_first, first_that, without_first}
use Rattle.oref_table.specs.Entries.{is_entry, with_entry_slot, with_entry_slots}
use Rattle.oref_table.specs.Filling.{is_member, passed}
use Rattle.oref_table.specs.Places.{Fills, IsExchange}

-- the place among the slots is filled, and these OREFs are given up
abbrev pub IsFilling : Place → Fill → List Slot → List Slot → List ℕ → Type 0
IsFilling at with_ slots new out = Fills at with_ slots new × IsExchange (refs_in slots) (passed with_) (refs_in new) out

-- its place is filled, and these OREFs are given up
abbrev pub FillsFirst : Place → Fill → ℕ → List Entry → List Entry → List ℕ → Type 0
FillsFirst at with_ n es new out = (e : Entry) × (slots : List Slot) × (first_that (is_entry n) es ≡ Some e) × IsFilling at with_ e.obj.slots slots out × (new ≡ at_first (is_entry n) (with_entry_slots (λ _. slots)) es)

-- the slot has a list of so many items at least
abbrev pub HasItemsAt : ℕ → ℕ → List Slot → Type 0
HasItemsAt at least slots = (items : List Slot) × (slice_get slots at ≡ Some (Items items)) × (least ≤ length items)

-- an item is added before another in the list in its slot
abbrev pub InsertsFirst : ℕ → ℕ → ℕ → Slot → List Entry → List Entry → Type 0
InsertsFirst n at before item es new = (e : Entry) × (items : List Slot) × (first_that (is_entry n) es ≡ Some e) × (slice_get e.obj.slots at ≡ Some (Items items)) × (new ≡ at_first (is_entry n) (with_entry_slot at (Items (insert items before item))) es)

-- the slot has members
abbrev pub HasMembersAt : ℕ → List Slot → Type 0
HasMembersAt at slots = (members : List Oref) × (slice_get slots at ≡ Some (Members members))

-- a member is taken out of its slot
abbrev pub DropsFirst : ℕ → ℕ → ℕ → List Entry → List Entry → Type 0
DropsFirst n at k es new = (e : Entry) × (members : List Oref) × (first_that (is_entry n) es ≡ Some e) × (slice_get e.obj.slots at ≡ Some (Members members)) × (new ≡ at_first (is_entry n) (with_entry_slot at (Members (without_first (is_member k) members))) es)

-- ---- the same of the rows

abbrev pub FillsRow : Place → Fill → ℕ → List (ℕ × Obj) → List (ℕ × Obj) → List ℕ → Type 0
FillsRow at with_ n old new out = (v : Obj) × (slots : List Slot) × (lookup (is_at (nat_cmp n)) old ≡ Some v) × IsFilling at with_ v.slots slots out × IsRowEdit n (with_entry_slots (λ _. slots)) old new

abbrev pub InsertsRow : ℕ → ℕ → ℕ → Slot → List (ℕ × Obj) → List (ℕ × Obj) → Type 0
InsertsRow n at before item old new = (v : Obj) × (items : List Slot) × (lookup (is_at (nat_cmp n)) old ≡ Some v) × (slice_get v.slots at ≡ Some (Items items)) × IsRowEdit n (with_entry_slot at (Items (insert items before item))) old new

abbrev pub DropsRow : ℕ → ℕ → ℕ → List (ℕ × Obj) → List (ℕ × Obj) → Type 0
DropsRow n at k old new = (v : Obj) × (members : List Oref) × (lookup (is_at (nat_cmp n)) old ≡ Some v) × (slice_get v.slots at ≡ Some (Members members)) × IsRowEdit n (with_entry_slot at (Members (without_first (is_member k) members))) old new
