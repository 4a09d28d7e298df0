-- What calls of objects take from the memory of a process, and leave in it.
use Rattle.std.specs.Prelude.{ℕ, ◌+◌, Bool, false, not, ◌&&◌, ◌==◌, List, [], ◌∷◌, ◌++◌, map, position, slice_get, Option, None, Some, option_map, unwrap_or, cond}
use Rattle.std.specs.Option.{option_and_then}
use Rattle.std.specs.List.{flat_map, list_any}
use Rattle.std.specs.Ordering.{nat_cmp}
use Rattle.std.specs.Map.{lookup}
use Rattle.std.specs.BTreeMap.{is_at}
use Rattle.obj_kinds.specs.declared.name.ClassName.{ClassName}
use Rattle.obj_kinds.specs.declared.cause.Cause.{Cause}
use Rattle.obj_kinds.specs.Texts.{same_text}
use Rattle.schema_kinds.specs.declared.class.Class.{Class}
use Rattle.schema_kinds.specs.declared.prop.Prop.{Prop}
use Rattle.schema_kinds.specs.declared.record.Record.{Record}
use Rattle.schema_kinds.specs.Classes.{class_of, props_of}
use Rattle.oref_table.specs.declared.oref.Oref.{Oref}
use Rattle.oref_table.specs.declared.slot.Slot.{Slot}
use Rattle.oref_table.specs.declared.slot.Slot.TheVariants.{Members}
use Rattle.oref_table.specs.declared.slot.Slot.TheOpen.{Slot-F}
use Rattle.oref_table.specs.declared.slot.Slot.TheViews.{out-Slot}
use Rattle.oref_table.specs.Refs.{refs_in}
use Rattle.oref_table.specs.Memory.{Object, Memory, object_of, edited, tighten, fresh, with_object, with_level}
use Rattle.oref_table.specs.Filling.{with_slot}
use Rattle.obj_shape.specs.Records.{drawn_part, id_part, record_at}
use Rattle.obj_shape.specs.Slots.{slots_of}
use Rattle.obj_props.specs.Properties.{alone, prop_place}
use Rattle.obj_validity.specs.Faults.{first_fault, cause_of}
use Rattle.object_calls.specs.Keys.{ManySide, many_side_in}
use Rattle.object_calls.specs.Loads.{LoadCall}
use Rattle.object_calls.specs.Reach.{is_among}
use Rattle.object_calls.specs.Saves.{Drawn}
use Rattle.object_calls.specs.Memories.{Seen, Memories}
use Rattle.object_members.specs.Parts.{with_parts}

-- ---- what is seen of an object

abbrev pub class_name_part : Option Object → Option ClassName
class_name_part None = None
class_name_part (Some o) = Some o.class

-- the class of the object of a number
abbrev pub class_at : Memory → ℕ → Option ClassName
class_at m n = class_name_part (object_of n m.objects)

abbrev pub seen_part : Option Object → Option Seen
seen_part None = None
seen_part (Some o) = Some (record { class = o.class; extent = o.extent; id = o.id; level = o.level })

abbrev pub refs_part : Option Object → List ℕ
refs_part None = []
refs_part (Some o) = refs_in o.slots

abbrev pub mark_part : Option Object → Bool
mark_part None = false
mark_part (Some o) = o.modified

abbrev pub numbers_of : Memory → List ℕ
numbers_of m = map (λ o. o.number) m.objects

-- ---- slots by the names of properties

-- the members that were touched
abbrev pub members_in : Slot-F Slot → List Oref
members_in (Slot-F.Members orefs) = orefs
members_in _ = []

-- the property is the many side of these members
abbrev pub is_many : ManySide → Option ManySide → Bool
is_many side None = false
is_many side (Some m) = same_text m.class.0 side.class.0 && same_text m.side side.side

abbrev pub is_member_number : ℕ → Oref → Bool
is_member_number n o = o.0 == n

-- one more member, which isn't one yet
abbrev pub with_member_oref : ℕ → List Oref → List Oref
with_member_oref n orefs = cond (list_any (is_member_number n) orefs) orefs (orefs ++ record { 0 = n } ∷ [])

abbrev pub slot_put : ℕ → (Slot → Slot) → Option Slot → Object → Object
slot_put at f None o = o
slot_put at f (Some s) o = with_slot at (f s) o

-- what stands in the slot at the place changed
abbrev pub slot_changed : (Slot → Slot) → Option ℕ → Object → Object
slot_changed f None o = o
slot_changed f (Some at) o = slot_put at f (slice_get o.slots at) o

module _ (classes : List Class) where
  abbrev pub props_at : ClassName → List Prop
  props_at class = props_of (class_of classes class)

  -- the slot of the property of that name of an object
  abbrev pub slot_named : List ℕ → Object → Option Slot
  slot_named name o = option_and_then (λ at. slice_get o.slots at) (prop_place name (props_at o.class))

  -- the place of the many side of these members
  abbrev pub many_place : ManySide → ClassName → Option ℕ
  many_place side class = position (λ p. is_many side (many_side_in p.kind)) (props_at class)

  -- the object is one more of the touched members of its holder
  abbrev pub member_added : ManySide → ℕ → Object → Object
  member_added side member o = slot_changed (λ s. Members (with_member_oref member (members_in (out-Slot s)))) (many_place side o.class) o

  -- the one side of a member has its holder
  abbrev pub holder_put : ManySide → ℕ → Object → Object
  holder_put side holder o = slot_changed (λ s. alone holder) (prop_place side.side (props_at o.class)) o

  -- ---- whether a member names its holder, by its OREF or its id

  abbrev pub same_id : Option (List ℕ) → Option (List ℕ) → Bool
  same_id (Some a) (Some b) = same_text a b
  same_id _ _ = false

  abbrev pub names_slot : ℕ → Option (List ℕ) → Slot-F Slot → Bool
  names_slot holder id (Slot-F.To o) = o.0 == holder
  names_slot holder id (Slot-F.Target target) = same_id target id
  names_slot holder id _ = false

  abbrev pub names_in : ℕ → Option (List ℕ) → Option Slot → Bool
  names_in holder id None = false
  names_in holder id (Some s) = names_slot holder id (out-Slot s)

  abbrev pub names : Memory → ManySide → ℕ → ℕ → Bool
  names m side holder member = names_in holder (id_part (object_of holder m.objects)) (option_and_then (slot_named side.side) (object_of member m.objects))

  -- ---- what saves and loads leave

  -- the drawn id, where one was drawn for the object, and no mark, where the object is among those that were saved
  abbrev pub saved_object : Drawn → List ℕ → Object → Object
  saved_object drawn numbers o = record o { id = drawn_part (lookup (is_at (nat_cmp o.number)) drawn) o.id; modified = o.modified && not (is_among o.number numbers) }

  -- parts of an object lose their marks with it
  unfoldable pub with_saved : Drawn → List ℕ → Memory → Memory
  with_saved drawn numbers m = record m { objects = map (saved_object drawn (flat_map (with_parts classes m) numbers)) m.objects }

  unfoldable pub with_loaded : LoadCall → Record → Memory → Memory × ℕ
  with_loaded l r m = (with_object m (fresh m r.class (Some l.key.extent) (Some l.key.id) l.level (slots_of (props_at r.class) r.fields)), m.last + 1)

  unfoldable pub with_member : ManySide → ℕ → ℕ → Memory → Memory
  with_member side holder member m = edited (edited m member (holder_put side holder)) holder (member_added side member)

  -- ---- marks, faults and records

  unfoldable pub is_marked : Memory → ℕ → Bool
  is_marked m n = list_any (λ k. mark_part (object_of k m.objects)) (with_parts classes m n)

  abbrev pub fault_by : Memory → ℕ → Option ClassName → Option Cause
  fault_by m n None = None
  fault_by m n (Some class) = option_map (cause_of classes class) (first_fault classes m n)

  unfoldable pub fault_of : Memory → ℕ → Option Cause
  fault_of m n = fault_by m n (class_at m n)

  abbrev pub no_record : Record
  no_record = record { class = record { 0 = [] }; fields = [] }

  unfoldable pub record_in : Memory → Drawn → ℕ → Record
  record_in m drawn n = unwrap_or (record_at classes m drawn n) no_record

  -- what calls of stored objects take from memory and leave in it
  abbrev pub memories : Memories Memory
  memories = record {
    live = numbers_of;
    seen = λ m n. seen_part (object_of n m.objects);
    refs = λ m n. refs_part (object_of n m.objects);
    is_marked = is_marked;
    fault = fault_of;
    record_of = record_in;
    with_loaded = with_loaded;
    held = λ n m. edited m n tighten;
    with_level = λ n level m. edited m n (with_level level);
    with_saved = with_saved;
    names_holder = names;
    with_member = with_member;
  }
