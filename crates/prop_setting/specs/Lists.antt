-- What the calls of lists leave, and where they are refused. Positions are counted from 1.
use Rattle.std.specs.Prelude.{◌≡◌, ◌<◌, ◌≤◌, ◌+◌, ◌⊎◌, ℕ, ℤ, pos, List, [], insert, length, slice_get, slice_set, Option, None, Some}
use Rattle.std.specs.List.{remove}
use Rattle.obj_kinds.specs.declared.error_name.ErrorName.{ErrorName}
use Rattle.obj_kinds.specs.declared.error_name.ErrorName.TheVariants.{IllegalValue}
use Rattle.schema_kinds.specs.declared.class.Class.{Class}
use Rattle.schema_kinds.specs.declared.prop.Prop.{Prop}
use Rattle.schema_kinds.specs.declared.kind.Kind.{Kind}
use Rattle.schema_kinds.specs.declared.kind.Kind.TheVariants as kind
use Rattle.schema_kinds.specs.declared.kind.Item.{Item}
use Rattle.oref_table.specs.declared.slot.Slot.{Slot}
use Rattle.oref_table.specs.declared.slot.Slot.TheVariants.{Items}
use Rattle.oref_table.specs.declared.fill.Fill.{Fill}
use Rattle.oref_table.specs.Memory.{Object, Memory, object_of}
use Rattle.oref_table.specs.declared.slot.Slot.TheViews.{out-Slot}
use Rattle.obj_kinds.specs.declared.value.Value.TheVariants as value
use Rattle.obj_props.specs.declared.got.Got.{Got}
use Rattle.obj_props.specs.declared.got.Got.TheVariants as got
use Rattle.obj_props.specs.Properties.{alone, element_content, gives, prop_place, read_of}
use Rattle.record_layout.specs.Shapes.{listed}
use Rattle.prop_setting.specs.Elements.{Takes, error_of, slot_set, standing, stood}
use Rattle.prop_setting.specs.Fits.{IsSlotOfForm}
use Rattle.prop_setting.specs.Sets.{props_in}
use Rattle.prop_setting.specs.Standings.{IsNoCopy}

-- the slot of the object of the number is a list of these items
abbrev pub IsListAt : Memory → ℕ → ℕ → List Slot → Type 0
IsListAt m n at items = (o : Object) × (object_of n m.objects ≡ Some o) × (slice_get o.slots at ≡ Some (Items items))

-- it is a list of so many items at least
abbrev pub HasItemsAt : Memory → ℕ → ℕ → ℕ → Type 0
HasItemsAt m n at least = (items : List Slot) × IsListAt m n at items × (least ≤ length items)

-- the property of the object of the number that has the name is a list of such items
pub record IsList (classes : List Class) (m : Memory) (n : ℕ) (name : List ℕ) (at level : ℕ) (i : Item) (items : List Slot) : Type 0 where
  pub object : Object
  pub prop : Prop
  pub found : object_of n m.objects ≡ Some object
  pub place : prop_place name (props_in classes object) ≡ Some at
  pub there : slice_get (props_in classes object) at ≡ Some prop
  pub kind_is : prop.kind ≡ kind.ListOf i
  pub slot : slice_get object.slots at ≡ Some (Items items)
  pub level_is : level ≡ object.level

-- some property is
abbrev pub HasList : List Class → Memory → ℕ → List ℕ → Type 0
HasList classes m n name = (at : ℕ) × (level : ℕ) × (i : Item) × (items : List Slot) × IsList classes m n name at level i items

-- the position is that of the place, which is counted from 0; or there is none
abbrev pub IsAt : ℤ → ℕ → Type 0
IsAt z k = z ≡ pos (k + 1)

abbrev pub IsNowhere : ℤ → ℕ → Type 0
IsNowhere z long = (k : ℕ) → k < long → ¬ IsAt z k

-- an element takes no such thing, or else the position is none of so many
abbrev pub ItemRefuses : List Class → Memory → Item → ℕ → ℤ → Fill → ErrorName → Type 0
ItemRefuses classes m i long z w e = ((¬ Takes classes m i w) × (e ≡ error_of i)) ⊎ (Takes classes m i w × IsNowhere z long × (e ≡ IllegalValue))

-- the slot of the object of the number is that of a list of so many such items
abbrev pub IsListOf : List Class → Memory → ℕ → ℕ → Item → ℕ → Type 0
IsListOf classes m n at i long = (items : List Slot) × IsListAt m n at items × (long ≡ length items) × IsSlotOfForm classes m n at (listed i)

-- the item of a list
abbrev pub item_of_list : Kind → Option Item
item_of_list (kind.ListOf i) = Some i
item_of_list _ = None

-- an item is set; put before another one, or behind the last; or taken out
abbrev pub ListSets : List Class → Memory → ℕ → ℕ → ℕ → Item → List Slot → ℤ → Fill → Memory → Type 0
ListSets classes m n at level i items z w new =
    (k : ℕ) × IsAt z k × (k < length items) × Takes classes m i w × (new ≡ stood n at (λ s. Items (slice_set items k s)) (standing classes m level i w))

abbrev pub ListInserts : List Class → Memory → ℕ → ℕ → ℕ → Item → List Slot → ℤ → Fill → Memory → Type 0
ListInserts classes m n at level i items z w new =
    (k : ℕ) × IsAt z k × (k < length items + 1) × Takes classes m i w × (new ≡ stood n at (λ s. Items (insert items k s)) (standing classes m level i w))

abbrev pub ListAdds : List Class → Memory → ℕ → ℕ → ℕ → Item → List Slot → Fill → Memory → Type 0
ListAdds classes m n at level i items w new = Takes classes m i w × (new ≡ stood n at (λ s. Items (insert items (length items) s)) (standing classes m level i w))

abbrev pub ListRemoves : Memory → ℕ → ℕ → List Slot → ℤ → Memory → Type 0
ListRemoves m n at items z new = (k : ℕ) × IsAt z k × (k < length items) × (new ≡ slot_set m n at (Items (remove items k)) [])

-- no part is copied
abbrev pub CopiesNoPart : List Class → Memory → ℕ → List ℕ → Fill → Type 0
CopiesNoPart classes m n name w = (at level : ℕ) (i : Item) (items : List Slot) → IsList classes m n name at level i items → IsNoCopy i w

-- an item is read: what is there, and a part without an object gets one; outside of the list the empty text is
abbrev pub ListReads : List Class → Memory → ℕ → ℕ → ℕ → Item → List Slot → ℤ → Got → Memory → Type 0
ListReads classes m n at level i items z g new =
    ((k : ℕ) × (s : Slot) × IsAt z k × (slice_get items k ≡ Some s) × (read_of classes m n level at (λ q. Items (slice_set items k (alone q))) (element_content classes i (out-Slot s)) ≡ gives g new))
    ⊎ (IsNowhere z (length items) × (g ≡ got.Plain (value.Str [])) × (new ≡ m))
