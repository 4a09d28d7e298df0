-- Whole calls of objects that ask nothing, by the names of members.
use Rattle.std.proofs.Common.{◌≡◌, ◌≢◌, ℕ, List, Option, None, Some, slice_get, option_map, refl, sym, subst}
use Rattle.obj_kinds.specs.declared.name.ClassName.{ClassName}
use Rattle.obj_kinds.specs.declared.error_name.ErrorName.TheVariants as error
use Rattle.schema_kinds.specs.declared.class.Class.{Class}
use Rattle.schema_kinds.specs.declared.class.Sort.{Sort}
use Rattle.schema_kinds.specs.declared.class.Sort.TheVariants.{Persistent, Serial, Registered, Plain}
use Rattle.schema_kinds.specs.declared.prop.Prop.{Prop}
use Rattle.schema_kinds.specs.declared.kind.Kind.{Kind}
use Rattle.schema_kinds.specs.declared.kind.Kind.TheVariants as kind
use Rattle.schema_kinds.specs.Classes.{class_of}
use Rattle.world_images.proofs.EntryLaws.{class_listed}
use Rattle.os_kinds.specs.declared.val.Val.{Val}
use Rattle.os_meaning.specs.Values.{bit}
use Rattle.os_meaning.specs.Syntax.{Name}
use Rattle.oref_table.specs.declared.slot.Slot.{Slot}
use Rattle.oref_table.specs.Memory.{Object, Memory, object_of}
use Rattle.obj_props.specs.Properties.{prop_place}
use Rattle.object_calls.specs.Memories.{is_modified}
use Rattle.host_meaning.specs.Objects.{Known}
use Rattle.object_members.specs.Seeing.{memories, props_at}
use Rattle.object_members.specs.ItemMembers.{ItemMember, Count, GetAt, SetAt, Insert, InsertAt, RemoveAt, Next, Unknown, item_member}
use Rattle.object_members.specs.ManySides.{on_members}
use Rattle.object_members.specs.Members.{ClassMember, New, OpenId, DeleteId, OtherOfClass, class_member, ObjectMember, Save, Id, IsModified, OfClass, object_member, by_sort, of_class, on_class, of_stored, of_object, of_number, on_object, of_kind, of_slot, of_place, of_items, on_items, id_or}
use Rattle.memory_laws.proofs.WritesKept.{numbered}
use Rattle.known_objects.specs.Classed.{Classed}
use Rattle.quiet_members.specs.Quiet.{IsFine, EndsFine, IsSchemaOfMembers}
use Rattle.quiet_members.specs.Laws.{ClassesAreQuiet, ObjectsAreQuiet, ItemsAreQuiet}
use Rattle.quiet_members.proofs.Calls.{news_quiet}
use Rattle.quiet_members.proofs.Ends.{ends-answer, ends-error, ends-without}
use Rattle.quiet_members.proofs.ListMembers.{lists_quiet}
use Rattle.quiet_members.proofs.ArrayMembers.{arrays_quiet}
use Rattle.quiet_members.proofs.ManyMembers.{inserts_quiet}

module _ (classes : List Class) (known : Classed) (tries most : ℕ) (schema : IsSchemaOfMembers classes) (s : Known Memory) (fine : IsFine classes known s.memory) where
  -- ---- of classes

  ends-new : (c : Class) → class_of classes c.name ≡ Some c → (args : List Val) → EndsFine classes known (by_sort classes tries most Persistent New c.name args s)
  ends-new c there args = ends-without classes known s fine args _ (news_quiet classes known tries most c.name c schema there s fine)

  ends-sort : (sort : Sort) (member : ClassMember) (c : Class) → class_of classes c.name ≡ Some c → (args : List Val) → member ≢ OpenId → member ≢ DeleteId → EndsFine classes known (by_sort classes tries most sort member c.name args s)
  ends-sort Persistent New c there args no_open no_delete = ends-new c there args
  ends-sort Persistent OpenId c there args no_open no_delete = absurd (no_open refl)
  ends-sort Persistent DeleteId c there args no_open no_delete = absurd (no_delete refl)
  ends-sort Persistent OtherOfClass c there args no_open no_delete = ends-error classes known s fine error.MethodDoesNotExist
  ends-sort Serial New c there args no_open no_delete = ends-new c there args
  ends-sort Serial OpenId c there args no_open no_delete = ends-error classes known s fine error.MethodDoesNotExist
  ends-sort Serial DeleteId c there args no_open no_delete = ends-error classes known s fine error.MethodDoesNotExist
  ends-sort Serial OtherOfClass c there args no_open no_delete = ends-error classes known s fine error.MethodDoesNotExist
  ends-sort Registered New c there args no_open no_delete = ends-new c there args
  ends-sort Registered OpenId c there args no_open no_delete = ends-error classes known s fine error.MethodDoesNotExist
  ends-sort Registered DeleteId c there args no_open no_delete = ends-error classes known s fine error.MethodDoesNotExist
  ends-sort Registered OtherOfClass c there args no_open no_delete = ends-error classes known s fine error.MethodDoesNotExist
  ends-sort Plain member c there args no_open no_delete = ends-error classes known s fine error.MethodDoesNotExist

  ends-of-class : (class : ClassName) (x : Option Class) → class_of classes class ≡ x → (name : Name) (args : List Val) → class_member name ≢ OpenId → class_member name ≢ DeleteId → EndsFine classes known (of_class classes tries most x name args s)
  ends-of-class class None e name args no_open no_delete = ends-error classes known s fine error.ClassDoesNotExist
  ends-of-class class (Some c) e name args no_open no_delete =
      ends-sort c.sort (class_member name) c (subst (λ n. class_of classes n ≡ Some c) (sym (class_listed classes class c e).named) e) args no_open no_delete

  pub ends-class : (class : ClassName) (name : Name) (args : List Val) → class_member name ≢ OpenId → class_member name ≢ DeleteId → EndsFine classes known (on_class classes tries most class name args s)
  unfolding on_class
  ends-class class name args no_open no_delete = ends-of-class class (class_of classes class) refl name args no_open no_delete

  -- ---- of objects

  ends-stored : (member : ObjectMember) (o : Object) (name : Name) (args : List Val) → member ≢ Save → class_member name ≢ OpenId → class_member name ≢ DeleteId → EndsFine classes known (of_stored classes tries most member o name args s)
  ends-stored Save o name args no_save no_open no_delete = absurd (no_save refl)
  ends-stored Id o name args no_save no_open no_delete = ends-without classes known s fine args _ (ends-answer classes known s fine (id_or classes tries most o.id))
  ends-stored IsModified o name args no_save no_open no_delete = ends-without classes known s fine args _ (ends-answer classes known s fine (bit (is_modified (memories classes) s.memory o.number)))
  ends-stored OfClass o name args no_save no_open no_delete = ends-class o.class name args no_open no_delete

  ends-extent : (extent : Option ClassName) (o : Object) (name : Name) (args : List Val) → object_member name ≢ Save → class_member name ≢ OpenId → class_member name ≢ DeleteId → EndsFine classes known (of_object classes tries most extent o name args s)
  ends-extent None o name args no_save no_open no_delete = ends-class o.class name args no_open no_delete
  ends-extent (Some e) o name args no_save no_open no_delete = ends-stored (object_member name) o name args no_save no_open no_delete

  pub ends-object : (n : ℕ) (name : Name) (args : List Val) → object_member name ≢ Save → class_member name ≢ OpenId → class_member name ≢ DeleteId → EndsFine classes known (on_object classes tries most n name args s)
  unfolding on_object
  ends-object n name args no_save no_open no_delete = by (object_of n s.memory.objects)
    where
      by : (x : Option Object) → EndsFine classes known (of_number classes tries most x name args s)
      by None = ends-error classes known s fine error.InvalidOref
      by (Some o) = ends-extent o.extent o name args no_save no_open no_delete

  -- ---- of collections and many sides

  module _ (o : Object) (live : object_of o.number s.memory.objects ≡ Some o) (property : Name) (at : ℕ) (place : prop_place property (props_at classes o.class) ≡ Some at) (p : Prop) (there : slice_get (props_at classes o.class) at ≡ Some p)
      (slot : Slot) (stands : slice_get o.slots at ≡ Some slot) (args : List Val) where
    ends-many : (c : ClassName) (side : List ℕ) → p.kind ≡ kind.Many c side → (member : ItemMember) → member ≢ GetAt → member ≢ Next → EndsFine classes known (on_members classes tries most o (record { class = c; side = side }) property member args s)
    unfolding on_members
    ends-many c side is Insert no_get no_next =
        inserts_quiet classes known tries most s o (record { class = c; side = side }) property args schema fine (record { at = at; prop = p; live = live; place = place; there = there; kind = is })
    ends-many c side is GetAt no_get no_next = absurd (no_get refl)
    ends-many c side is Next no_get no_next = absurd (no_next refl)
    ends-many c side is Count no_get no_next = ends-error classes known s fine error.MethodDoesNotExist
    ends-many c side is SetAt no_get no_next = ends-error classes known s fine error.MethodDoesNotExist
    ends-many c side is InsertAt no_get no_next = ends-error classes known s fine error.MethodDoesNotExist
    ends-many c side is RemoveAt no_get no_next = ends-error classes known s fine error.MethodDoesNotExist
    ends-many c side is Unknown no_get no_next = ends-error classes known s fine error.MethodDoesNotExist

    ends-kind : (kd : Kind) → p.kind ≡ kd → (member : ItemMember) → member ≢ GetAt → member ≢ Next → EndsFine classes known (of_kind classes tries most o at property kd slot member args s)
    ends-kind (kind.ListOf i) is member no_get no_next =
        lists_quiet classes known tries most s o at i slot member args schema fine (record { prop = p; live = live; there = there; kind = is; stands = stands }) no_get
    ends-kind (kind.ArrayOf i) is member no_get no_next =
        arrays_quiet classes known tries most s o at i slot member args schema fine (record { prop = p; live = live; there = there; kind = is; stands = stands }) no_get
    ends-kind (kind.Many c side) is member no_get no_next = ends-many c side is member no_get no_next
    ends-kind kind.Text is member no_get no_next = ends-error classes known s fine error.InvalidOref
    ends-kind kind.Whole is member no_get no_next = ends-error classes known s fine error.InvalidOref
    ends-kind kind.Truth is member no_get no_next = ends-error classes known s fine error.InvalidOref
    ends-kind (kind.Ref c) is member no_get no_next = ends-error classes known s fine error.InvalidOref
    ends-kind (kind.Serial c) is member no_get no_next = ends-error classes known s fine error.InvalidOref
    ends-kind (kind.One c side) is member no_get no_next = ends-error classes known s fine error.InvalidOref

  module _ (o : Object) (live : object_of o.number s.memory.objects ≡ Some o) (property : Name) (args : List Val) (member : ItemMember) (no_get : member ≢ GetAt) (no_next : member ≢ Next) where
    ends-slot : (at : ℕ) → prop_place property (props_at classes o.class) ≡ Some at → (p : Option Prop) → slice_get (props_at classes o.class) at ≡ p → (slot : Option Slot) → slice_get o.slots at ≡ slot
        → EndsFine classes known (of_slot classes tries most o at property (option_map (λ q. q.kind) p) slot member args s)
    ends-slot at place (Some p) there (Some slot) stands = ends-kind o live property at place p there slot stands args p.kind refl member no_get no_next
    ends-slot at place None there (Some slot) stands = ends-error classes known s fine error.PropertyDoesNotExist
    ends-slot at place None there None stands = ends-error classes known s fine error.PropertyDoesNotExist
    ends-slot at place (Some p) there None stands = ends-error classes known s fine error.PropertyDoesNotExist

    ends-place : (x : Option ℕ) → prop_place property (props_at classes o.class) ≡ x → EndsFine classes known (of_place classes tries most o property x member args s)
    ends-place None e = ends-error classes known s fine error.PropertyDoesNotExist
    ends-place (Some at) e = ends-slot at e (slice_get (props_at classes o.class) at) refl (slice_get o.slots at) refl

  pub ends-items : (n : ℕ) (property name : Name) (args : List Val) → item_member name ≢ GetAt → item_member name ≢ Next → EndsFine classes known (on_items classes tries most n property name args s)
  unfolding on_items
  ends-items n property name args no_get no_next = by (object_of n s.memory.objects) refl
    where
      by : (x : Option Object) → object_of n s.memory.objects ≡ x → EndsFine classes known (of_items classes tries most x property (item_member name) args s)
      by None e = ends-error classes known s fine error.InvalidOref
      by (Some o) e =
          ends-place o (subst (λ k. object_of k s.memory.objects ≡ Some o) (sym (numbered n s.memory.objects o e)) e) property args (item_member name) no_get no_next (prop_place property (props_at classes o.class)) refl

pub classes_quiet : ClassesAreQuiet
classes_quiet classes known tries most class name args schema no_open no_delete s fine = ends-class classes known tries most schema s fine class name args no_open no_delete

pub objects_quiet : ObjectsAreQuiet
objects_quiet classes known tries most n name args schema no_save no_open no_delete s fine = ends-object classes known tries most schema s fine n name args no_save no_open no_delete

pub items_quiet : ItemsAreQuiet
items_quiet classes known tries most n property name args schema no_get no_next s fine = ends-items classes known tries most schema s fine n property name args no_get no_next
