-- The members of an array property. Its elements stand in the order of their keys; each change marks its object.
use Rattle.std.specs.Prelude.{ℕ, pos, Bool, true, false, List, [], length, Option, None, Some, is_some}
use Rattle.std.specs.FinMap.{find, put}
use Rattle.obj_kinds.specs.declared.value.Value.TheVariants as value
use Rattle.obj_kinds.specs.declared.error_name.ErrorName.TheVariants as error
use Rattle.obj_kinds.specs.declared.sub.Sub.{Sub}
use Rattle.obj_kinds.specs.SubOrder.{sub_cmp}
use Rattle.schema_kinds.specs.declared.class.Class.{Class}
use Rattle.schema_kinds.specs.declared.kind.Item.{Item}
use Rattle.os_kinds.specs.declared.val.Val.{Val}
use Rattle.os_meaning.specs.Values.{number_value, after_of, sub_value}
use Rattle.oref_table.specs.declared.slot.Slot.{Slot}
use Rattle.oref_table.specs.declared.slot.Slot.TheVariants.{Map}
use Rattle.oref_table.specs.declared.slot.Slot.TheViews.{out-Slot}
use Rattle.oref_table.specs.Memory.{Object, Memory, without_first}
use Rattle.oref_table.specs.Places.{has_key}
use Rattle.obj_props.specs.Properties.{Read, gives, alone, element_content, read_of}
use Rattle.obj_props.specs.declared.got.Got.TheVariants as got
use Rattle.prop_setting.specs.Arrays.{next_key}
use Rattle.prop_setting.specs.Elements.{Standing, slot_set, stood}
use Rattle.host_meaning.specs.Objects.{ObjectCall}
use Rattle.object_members.specs.Ends.{with_memory, nothing, yes, no, answers, errs}
use Rattle.object_members.specs.Arguments.{without_args, with_arg, with_args, checks, key_from}
use Rattle.object_members.specs.Reads.{reads}
use Rattle.object_members.specs.Lists.{with_standing}
use Rattle.object_members.specs.ItemMembers.{ItemMember, Count, GetAt, SetAt, RemoveAt, Next}

-- the element of the key is read, like a property; there is nothing at a key that no element has
abbrev pub pair_read : List Class → Memory → Object → ℕ → List (Sub × Slot) → Item → Sub → Option Slot → Read
pair_read classes m o at pairs i k None = gives (got.Plain (value.Str [])) m
pair_read classes m o at pairs i k (Some s) = read_of classes m o.number o.level at (λ n. Map (put sub_cmp k (alone n) pairs)) (element_content classes i (out-Slot s))

-- the array without the element of the key
abbrev pub array_removed : Memory → Object → ℕ → List (Sub × Slot) → Sub → Memory
array_removed m o at pairs k = slot_set m o.number at (Map (without_first (has_key k) pairs)) []

abbrev pub key_or : Option Sub → Val
key_or None = nothing
key_or (Some k) = sub_value k

-- the array of such elements in the slot at the place of an object
module _ (classes : List Class) (tries most : ℕ) (o : Object) (at : ℕ) (pairs : List (Sub × Slot)) (i : Item) where
  abbrev pub pair_placed : Sub → ℕ → Slot
  pair_placed k n = Map (put sub_cmp k (alone n) pairs)

  abbrev pub get_by : Sub → ObjectCall Memory
  get_by k s = reads classes tries most o at (pair_placed k) (pair_read classes s.memory o at pairs i k (find sub_cmp k pairs)) s

  abbrev pub puts_by : Sub → Standing → ObjectCall Memory
  puts_by k st s = answers (with_memory (stood o.number at (λ t. Map (put sub_cmp k t pairs)) st) s) yes

  -- a fault of the element comes before one of the key
  abbrev pub set_by : Val → Val → ObjectCall Memory
  set_by v k s = with_standing classes tries most o at [] i v (λ st. checks (key_from k) (λ key. puts_by key st)) s

  abbrev pub takes_by : Sub → Bool → ObjectCall Memory
  takes_by k true s = answers (with_memory (array_removed s.memory o at pairs k) s) yes
  takes_by k false s = answers s no

  unfoldable pub on_array : ItemMember → List Val → ObjectCall Memory
  on_array Count args s = without_args args (λ s. answers s (number_value (pos (length pairs)))) s
  on_array GetAt args s = with_arg args (λ k. checks (key_from k) get_by) s
  on_array SetAt args s = with_args args set_by s
  on_array RemoveAt args s = with_arg args (λ k. checks (key_from k) (λ key. takes_by key (is_some (find sub_cmp key pairs)))) s
  on_array Next args s = with_arg args (λ k. checks (after_of 0 k) (λ behind s. answers s (key_or (next_key behind pairs)))) s
  on_array _ args s = errs s error.MethodDoesNotExist
