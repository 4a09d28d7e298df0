-- The members that no class declares: of classes, of objects, and of collections and many sides.
use Rattle.std.specs.Prelude.{ℕ, ◌+◌, cond, List, [], codes, slice_get, Option, None, Some, option_map}
use Rattle.std.specs.Str.{bytes_eq}
use Rattle.obj_kinds.specs.declared.name.ClassName.{ClassName}
use Rattle.obj_kinds.specs.declared.error_name.ErrorName.TheVariants as error
use Rattle.obj_kinds.specs.Ids.{id_text}
use Rattle.schema_kinds.specs.declared.class.Class.{Class}
use Rattle.schema_kinds.specs.declared.class.Sort.{Sort}
use Rattle.schema_kinds.specs.declared.class.Sort.TheVariants.{Persistent, Serial, Registered}
use Rattle.schema_kinds.specs.declared.kind.Kind.{Kind}
use Rattle.schema_kinds.specs.declared.kind.Kind.TheVariants as kind
use Rattle.schema_kinds.specs.Classes.{class_of, extent_of}
use Rattle.os_kinds.specs.declared.val.Val.{Val}
use Rattle.os_kinds.specs.declared.val.Val.TheVariants.{Ref}
use Rattle.os_meaning.specs.Values.{text_of, text_value, bit}
use Rattle.os_meaning.specs.Syntax.{Name}
use Rattle.oref_table.specs.declared.slot.Slot.{Slot}
use Rattle.oref_table.specs.declared.slot.Slot.TheViews.{out-Slot}
use Rattle.oref_table.specs.Memory.{Object, Memory, object_of, fresh, with_object}
use Rattle.obj_shape.specs.Records.{items_of, pairs_of}
use Rattle.obj_shape.specs.Slots.{initial_slots}
use Rattle.obj_props.specs.Properties.{prop_place}
use Rattle.object_calls.specs.Memories.{is_modified}
use Rattle.object_calls.specs.ObjectCalls.{open_id, delete_id, save_object}
use Rattle.host_meaning.specs.Objects.{ObjectCall}
use Rattle.object_members.specs.Seeing.{memories, props_at}
use Rattle.object_members.specs.Ends.{with_memory, with_error, nothing, answers, errs, opens, stores}
use Rattle.object_members.specs.Arguments.{without_args, with_args, checks, level_of}
use Rattle.object_members.specs.ItemMembers.{ItemMember, item_member}
use Rattle.object_members.specs.Lists.{on_list}
use Rattle.object_members.specs.Arrays.{on_array}
use Rattle.object_members.specs.ManySides.{on_members}

-- ---- names

pub data ClassMember : Type 0 where
  New : ClassMember
  OpenId : ClassMember
  DeleteId : ClassMember
  OtherOfClass : ClassMember

abbrev pub class_member : Name → ClassMember
class_member name =
    cond (bytes_eq name (codes "%New")) New
    (cond (bytes_eq name (codes "%OpenId")) OpenId
    (cond (bytes_eq name (codes "%DeleteId")) DeleteId OtherOfClass))

pub data ObjectMember : Type 0 where
  Save : ObjectMember
  Id : ObjectMember
  IsModified : ObjectMember
  OfClass : ObjectMember

abbrev pub object_member : Name → ObjectMember
object_member name =
    cond (bytes_eq name (codes "%Save")) Save
    (cond (bytes_eq name (codes "%Id")) Id
    (cond (bytes_eq name (codes "%IsModified")) IsModified OfClass))

module _ (classes : List Class) (tries most : ℕ) where
  -- ---- of classes

  -- a new object of level 2 has its initial values; the last failure is forgotten
  abbrev pub news : ClassName → ObjectCall Memory
  news class s =
      answers (with_error [] (with_memory (with_object s.memory (fresh s.memory class (extent_of classes class) None 2 (initial_slots (props_at classes class)))) s)) (Ref (s.memory.last + 1) class)

  -- the text of an id and then a level
  abbrev pub with_id_and_level : List Val → (List ℕ → ℕ → ObjectCall Memory) → ObjectCall Memory
  with_id_and_level args go s = with_args args (λ id level. checks (text_of id) (λ text. checks (level_of level) (go text))) s

  abbrev pub opens_id : ClassName → List Val → ObjectCall Memory
  opens_id class args s = with_id_and_level args (λ text level s. opens s (open_id (memories classes) classes tries most s.memory class level text)) s

  abbrev pub deletes_id : ClassName → List Val → ObjectCall Memory
  deletes_id class args s = with_id_and_level args (λ text level s. stores s (delete_id (memories classes) classes tries most s.memory class level text)) s

  -- objects are made of any class but a plain one, and stored ones are of a persistent class
  abbrev pub by_sort : Sort → ClassMember → ClassName → List Val → ObjectCall Memory
  by_sort Persistent New class args s = without_args args (news class) s
  by_sort Persistent OpenId class args s = opens_id class args s
  by_sort Persistent DeleteId class args s = deletes_id class args s
  by_sort Serial New class args s = without_args args (news class) s
  by_sort Registered New class args s = without_args args (news class) s
  by_sort _ _ class args s = errs s error.MethodDoesNotExist

  abbrev pub of_class : Option Class → Name → List Val → ObjectCall Memory
  of_class None name args s = errs s error.ClassDoesNotExist
  of_class (Some c) name args s = by_sort c.sort (class_member name) c.name args s

  unfoldable pub on_class : ClassName → Name → List Val → ObjectCall Memory
  on_class class name args s = of_class (class_of classes class) name args s

  -- ---- of objects; a class method may be called through one

  abbrev pub id_or : Option (List ℕ) → Val
  id_or None = nothing
  id_or (Some id) = text_value (id_text id)

  abbrev pub of_stored : ObjectMember → Object → Name → List Val → ObjectCall Memory
  of_stored Save o name args s = without_args args (λ s. stores s (save_object (memories classes) classes tries most s.memory o.number)) s
  of_stored Id o name args s = without_args args (λ s. answers s (id_or o.id)) s
  of_stored IsModified o name args s = without_args args (λ s. answers s (bit (is_modified (memories classes) s.memory o.number))) s
  of_stored OfClass o name args s = on_class o.class name args s

  abbrev pub of_object : Option ClassName → Object → Name → List Val → ObjectCall Memory
  of_object None o name args s = on_class o.class name args s
  of_object (Some extent) o name args s = of_stored (object_member name) o name args s

  abbrev pub of_number : Option Object → Name → List Val → ObjectCall Memory
  of_number None name args s = errs s error.InvalidOref
  of_number (Some o) name args s = of_object o.extent o name args s

  unfoldable pub on_object : ℕ → Name → List Val → ObjectCall Memory
  on_object n name args s = of_number (object_of n s.memory.objects) name args s

  -- ---- of collections and many sides

  abbrev pub of_kind : Object → ℕ → Name → Kind → Slot → ItemMember → List Val → ObjectCall Memory
  of_kind o at property (kind.ListOf i) slot member args s = on_list classes tries most o at (items_of (out-Slot slot)) i member args s
  of_kind o at property (kind.ArrayOf i) slot member args s = on_array classes tries most o at (pairs_of (out-Slot slot)) i member args s
  of_kind o at property (kind.Many class side) slot member args s = on_members classes tries most o (record { class = class; side = side }) property member args s
  of_kind o at property _ slot member args s = errs s error.InvalidOref

  abbrev pub of_slot : Object → ℕ → Name → Option Kind → Option Slot → ItemMember → List Val → ObjectCall Memory
  of_slot o at property (Some kind) (Some slot) member args s = of_kind o at property kind slot member args s
  of_slot o at property _ _ member args s = errs s error.PropertyDoesNotExist

  abbrev pub of_place : Object → Name → Option ℕ → ItemMember → List Val → ObjectCall Memory
  of_place o property None member args s = errs s error.PropertyDoesNotExist
  of_place o property (Some at) member args s =
      of_slot o at property (option_map (λ p. p.kind) (slice_get (props_at classes o.class) at)) (slice_get o.slots at) member args s

  abbrev pub of_items : Option Object → Name → ItemMember → List Val → ObjectCall Memory
  of_items None property member args s = errs s error.InvalidOref
  of_items (Some o) property member args s = of_place o property (prop_place property (props_at classes o.class)) member args s

  unfoldable pub on_items : ℕ → Name → Name → List Val → ObjectCall Memory
  on_items n property name args s = of_items (object_of n s.memory.objects) property (item_member name) args s
