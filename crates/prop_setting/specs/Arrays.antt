-- What the calls of arrays leave, and where they are refused. The elements of an array stand in the order of their keys.
use Rattle.std.specs.Prelude.{◌≡◌, ℕ, Bool, true, false, IsTrue, IsSome, List, length, slice_get, Option, None, Some, []}
use Rattle.std.specs.Ordering.{is_lt}
use Rattle.std.specs.FinMap.{find, is_sorted, put}
use Rattle.obj_kinds.specs.declared.sub.Sub.{Sub}
use Rattle.obj_kinds.specs.SubOrder.{sub_cmp}
use Rattle.schema_kinds.specs.declared.class.Class.{Class}
use Rattle.schema_kinds.specs.declared.prop.Prop.{Prop}
use Rattle.schema_kinds.specs.declared.kind.Kind.{Kind}
use Rattle.schema_kinds.specs.declared.kind.Kind.TheVariants as kind
use Rattle.schema_kinds.specs.declared.kind.Item.{Item}
use Rattle.record_layout.specs.Shapes.{keyed}
use Rattle.oref_table.specs.declared.slot.Slot.{Slot}
use Rattle.oref_table.specs.declared.slot.Slot.TheVariants.{Map}
use Rattle.oref_table.specs.declared.fill.Fill.{Fill}
use Rattle.oref_table.specs.Memory.{Object, Memory, first_that, object_of, without_first}
use Rattle.oref_table.specs.Places.{has_key}
use Rattle.oref_table.specs.declared.slot.Slot.TheViews.{out-Slot}
use Rattle.obj_kinds.specs.declared.value.Value.TheVariants as value
use Rattle.obj_props.specs.declared.got.Got.{Got}
use Rattle.obj_props.specs.declared.got.Got.TheVariants as got
use Rattle.obj_props.specs.Properties.{alone, element_content, gives, prop_place, read_of}
use Rattle.prop_setting.specs.Elements.{Takes, slot_set, standing, stood}
use Rattle.prop_setting.specs.Fits.{IsSlotOfForm}
use Rattle.prop_setting.specs.Sets.{props_in}
use Rattle.prop_setting.specs.Standings.{IsNoCopy}

-- the slot of the object of the number is an array of these elements
abbrev pub IsArrayAt : Memory → ℕ → ℕ → List (Sub × Slot) → Type 0
IsArrayAt m n at pairs = (o : Object) × (object_of n m.objects ≡ Some o) × (slice_get o.slots at ≡ Some (Map pairs))

-- some array, in the order of its keys
abbrev pub HasPairsAt : Memory → ℕ → ℕ → Type 0
HasPairsAt m n at = (pairs : List (Sub × Slot)) × IsArrayAt m n at pairs × IsTrue (is_sorted sub_cmp pairs)

-- the property of the object of the number that has the name is an array of such elements
pub record IsArray (classes : List Class) (m : Memory) (n : ℕ) (name : List ℕ) (at level : ℕ) (i : Item) (pairs : List (Sub × Slot)) : Type 0 where
  pub object : Object
  pub prop : Prop
  pub found : object_of n m.objects ≡ Some object
  pub place : prop_place name (props_in classes object) ≡ Some at
  pub there : slice_get (props_in classes object) at ≡ Some prop
  pub kind_is : prop.kind ≡ kind.ArrayOf i
  pub slot : slice_get object.slots at ≡ Some (Map pairs)
  pub level_is : level ≡ object.level

-- some property is
abbrev pub HasArray : List Class → Memory → ℕ → List ℕ → Type 0
HasArray classes m n name = (at : ℕ) × (level : ℕ) × (i : Item) × (pairs : List (Sub × Slot)) × IsArray classes m n name at level i pairs

-- the slot of the object of the number is that of an array of so many such elements
abbrev pub IsArrayOf : List Class → Memory → ℕ → ℕ → Item → ℕ → Type 0
IsArrayOf classes m n at i long = (pairs : List (Sub × Slot)) × IsArrayAt m n at pairs × (long ≡ length pairs) × IsSlotOfForm classes m n at (keyed i)

-- the element of an array
abbrev pub item_of_array : Kind → Option Item
item_of_array (kind.ArrayOf i) = Some i
item_of_array _ = None

-- the element of the key is set, whether there was one or not
abbrev pub ArraySets : List Class → Memory → ℕ → ℕ → ℕ → Item → List (Sub × Slot) → Sub → Fill → Memory → Type 0
ArraySets classes m n at level i pairs k w new = Takes classes m i w × (new ≡ stood n at (λ s. Map (put sub_cmp k s pairs)) (standing classes m level i w))

-- the element of the key is taken out, where there is one; whether there was is answered
abbrev pub ArrayRemoves : Memory → ℕ → ℕ → List (Sub × Slot) → Sub → Bool → Memory → Type 0
ArrayRemoves m n at pairs k true new = IsSome (find sub_cmp k pairs) × (new ≡ slot_set m n at (Map (without_first (has_key k) pairs)) [])
ArrayRemoves m n at pairs k false new = (find sub_cmp k pairs ≡ None) × (new ≡ m)

-- the element of a key is read: what is there, and a part without an object gets one; where there is none the empty text is
abbrev pub PairReads : List Class → Memory → ℕ → ℕ → ℕ → Item → List (Sub × Slot) → Sub → Option Slot → Got → Memory → Type 0
PairReads classes m n at level i pairs k (Some s) g new = read_of classes m n level at (λ q. Map (put sub_cmp k (alone q) pairs)) (element_content classes i (out-Slot s)) ≡ gives g new
PairReads classes m n at level i pairs k None g new = (g ≡ got.Plain (value.Str [])) × (new ≡ m)

abbrev pub ArrayReads : List Class → Memory → ℕ → ℕ → ℕ → Item → List (Sub × Slot) → Sub → Got → Memory → Type 0
ArrayReads classes m n at level i pairs k g new = PairReads classes m n at level i pairs k (find sub_cmp k pairs) g new

-- the first key behind one, or the first of all
abbrev pub is_behind : Sub → Sub × Slot → Bool
is_behind k p = is_lt (sub_cmp k p.0)

abbrev pub key_part : Option (Sub × Slot) → Option Sub
key_part None = None
key_part (Some p) = Some p.0

abbrev pub next_key : Option Sub → List (Sub × Slot) → Option Sub
next_key None pairs = key_part (slice_get pairs 0)
next_key (Some k) pairs = key_part (first_that (is_behind k) pairs)

-- no part is copied
abbrev pub ArrayCopiesNoPart : List Class → Memory → ℕ → List ℕ → Fill → Type 0
ArrayCopiesNoPart classes m n name w = (at level : ℕ) (i : Item) (pairs : List (Sub × Slot)) → IsArray classes m n name at level i pairs → IsNoCopy i w
