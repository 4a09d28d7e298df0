-- The members of a list property. A list counts from 1; each change marks its object.
use Rattle.std.specs.Prelude.{ℕ, zero, suc, ◌+◌, ◌-◌, pos, Bool, true, false, nat_le, ◌&&◌, List, [], ◌∷◌, ◌++◌, insert, length, slice_get, slice_set, Option, None, Some}
use Rattle.std.specs.List.{remove}
use Rattle.obj_kinds.specs.declared.value.Value.TheVariants as value
use Rattle.obj_kinds.specs.declared.error_name.ErrorName.TheVariants as error
use Rattle.schema_kinds.specs.declared.class.Class.{Class}
use Rattle.schema_kinds.specs.declared.kind.Item.{Item}
use Rattle.os_kinds.specs.declared.val.Val.{Val}
use Rattle.os_meaning.specs.Values.{number_value, number_of}
use Rattle.oref_table.specs.declared.slot.Slot.{Slot}
use Rattle.oref_table.specs.declared.slot.Slot.TheVariants.{Items}
use Rattle.oref_table.specs.declared.slot.Slot.TheViews.{out-Slot}
use Rattle.oref_table.specs.Memory.{Object, Memory}
use Rattle.obj_props.specs.Properties.{Read, gives, alone, element_content, read_of}
use Rattle.obj_props.specs.declared.got.Got.TheVariants as got
use Rattle.prop_setting.specs.Elements.{Standing, slot_set, stood, error_of}
use Rattle.host_meaning.specs.Objects.{ObjectCall}
use Rattle.object_members.specs.Ends.{with_memory, yes, answers, errs}
use Rattle.object_members.specs.Arguments.{without_args, with_arg, with_args, checks, position_of}
use Rattle.object_members.specs.Standing.{stands}
use Rattle.object_members.specs.Reads.{reads}
use Rattle.object_members.specs.ItemMembers.{ItemMember, Count, GetAt, SetAt, Insert, InsertAt, RemoveAt}

-- the item at a place is read, like a property; there is nothing outside the list
abbrev pub item_read : List Class → Memory → Object → ℕ → List Slot → Item → ℕ → Option Slot → Read
item_read classes m o at items i k None = gives (got.Plain (value.Str [])) m
item_read classes m o at items i k (Some s) = read_of classes m o.number o.level at (λ n. Items (slice_set items k (alone n))) (element_content classes i (out-Slot s))

-- the item at a position; there is none at 0
abbrev pub item_at : List Slot → ℕ → Option Slot
item_at items zero = None
item_at items (suc k) = slice_get items k

-- a position of the list, and one where an item may be put before the one that stands there, or at the end
abbrev pub is_position : List Slot → ℕ → Bool
is_position items position = nat_le 1 position && nat_le position (length items)

abbrev pub is_new_position : List Slot → ℕ → Bool
is_new_position items position = nat_le 1 position && nat_le position (length items + 1)

-- the list of such elements in the slot at the place of an object
module _ (classes : List Class) (tries most : ℕ) (o : Object) (at : ℕ) (items : List Slot) (i : Item) where
  abbrev pub item_placed : ℕ → ℕ → Slot
  item_placed position n = Items (slice_set items (position - 1) (alone n))

  abbrev pub get_at : ℕ → ObjectCall Memory
  get_at position s = reads classes tries most o at (item_placed position) (item_read classes s.memory o at items i (position - 1) (item_at items position)) s

  -- the items, once one stands there; outside the list it is refused
  abbrev pub puts : Bool → (Slot → List Slot) → Standing → ObjectCall Memory
  puts true change st s = answers (with_memory (stood o.number at (λ t. Items (change t)) st) s) yes
  puts false change st s = errs s error.IllegalValue

  -- a fault of the element comes before one of the position
  abbrev pub puts_standing : Option Standing → (Standing → ObjectCall Memory) → ObjectCall Memory
  puts_standing None go s = errs s (error_of i)
  puts_standing (Some st) go s = go st s

  abbrev pub with_standing : Val → (Standing → ObjectCall Memory) → ObjectCall Memory
  with_standing v go s = puts_standing (stands classes s.memory o.level i v) go s

  abbrev pub set_at : Val → Val → ObjectCall Memory
  set_at v p s = with_standing v (λ st. checks (number_of p) (λ z. puts (is_position items (position_of z)) (λ t. slice_set items (position_of z - 1) t) st)) s

  abbrev pub put_before : Val → Val → ObjectCall Memory
  put_before v p s = with_standing v (λ st. checks (number_of p) (λ z. puts (is_new_position items (position_of z)) (λ t. insert items (position_of z - 1) t) st)) s

  abbrev pub put_last : Val → ObjectCall Memory
  put_last v s = with_standing v (puts true (λ t. items ++ t ∷ [])) s

  abbrev pub takes : ℕ → Bool → ObjectCall Memory
  takes position true s = answers (with_memory (slot_set s.memory o.number at (Items (remove items (position - 1))) []) s) yes
  takes position false s = errs s error.IllegalValue

  abbrev pub take_out : Val → ObjectCall Memory
  take_out p s = checks (number_of p) (λ z. takes (position_of z) (is_position items (position_of z))) s

  unfoldable pub on_list : ItemMember → List Val → ObjectCall Memory
  on_list Count args s = without_args args (λ s. answers s (number_value (pos (length items)))) s
  on_list GetAt args s = with_arg args (λ p. checks (number_of p) (λ z. get_at (position_of z))) s
  on_list SetAt args s = with_args args set_at s
  on_list Insert args s = with_arg args put_last s
  on_list InsertAt args s = with_args args put_before s
  on_list RemoveAt args s = with_arg args take_out s
  on_list _ args s = errs s error.MethodDoesNotExist
