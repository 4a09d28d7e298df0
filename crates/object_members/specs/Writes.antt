-- A property is set, and a one side keeps the touched members of its targets in step.
use Rattle.std.specs.Prelude.{ℕ, List, filter, not, slice_get, Option, None, Some}
use Rattle.obj_kinds.specs.declared.error_name.ErrorName.TheVariants as error
use Rattle.schema_kinds.specs.declared.class.Class.{Class}
use Rattle.schema_kinds.specs.declared.prop.Prop.{Prop}
use Rattle.schema_kinds.specs.declared.kind.Kind.{Kind}
use Rattle.schema_kinds.specs.declared.kind.Kind.TheVariants as kind
use Rattle.schema_kinds.specs.declared.kind.Item.{Item}
use Rattle.record_layout.specs.Shapes.{Form, single, form_of}
use Rattle.os_kinds.specs.declared.val.Val.{Val}
use Rattle.os_kinds.specs.declared.call.Answer.TheVariants as answer
use Rattle.os_meaning.specs.Syntax.{Name}
use Rattle.oref_table.specs.declared.oref.Oref.{Oref}
use Rattle.oref_table.specs.declared.slot.Slot.{Slot}
use Rattle.oref_table.specs.declared.slot.Slot.TheVariants.{Members}
use Rattle.oref_table.specs.declared.slot.Slot.TheOpen.{Slot-F}
use Rattle.oref_table.specs.declared.slot.Slot.TheViews.{out-Slot}
use Rattle.oref_table.specs.Memory.{Object, Memory, object_of, edited, loosed}
use Rattle.oref_table.specs.Dropping.{dropped}
use Rattle.oref_table.specs.Filling.{slot_from, passed}
use Rattle.obj_props.specs.Properties.{prop_place}
use Rattle.prop_setting.specs.Elements.{Standing, changed_slot, stood, given_back, error_of}
use Rattle.store_calls.specs.Calls.{Give}
use Rattle.host_meaning.specs.Objects.{ObjectCall}
use Rattle.object_members.specs.Seeing.{members_in, is_member_number, with_member_oref, slot_changed, props_at}
use Rattle.object_members.specs.Ends.{with_memory, errs}
use Rattle.object_members.specs.Standing.{stands}

-- ---- touched members

abbrev pub without_member_oref : ℕ → List Oref → List Oref
without_member_oref n orefs = filter (λ o. not (is_member_number n o)) orefs

module _ (classes : List Class) where
  -- the members in the many side of that name changed
  abbrev pub members_changed : Name → (List Oref → List Oref) → Object → Object
  members_changed side f o = slot_changed (λ s. Members (f (members_in (out-Slot s)))) (prop_place side (props_at classes o.class)) o

  -- what a slot names has the object as a member no more, and from then on
  abbrev pub member_left : Name → ℕ → Slot-F Slot → Memory → Memory
  member_left side n (Slot-F.To q) m = edited m q.0 (members_changed side (without_member_oref n))
  member_left side n _ m = m

  abbrev pub member_joined : Name → ℕ → Slot-F Slot → Memory → Memory
  member_joined side n (Slot-F.To q) m = edited m q.0 (members_changed side (with_member_oref n))
  member_joined side n _ m = m

  abbrev pub left_by : Name → ℕ → Option Slot → Memory → Memory
  left_by side n None m = m
  left_by side n (Some s) m = member_left side n (out-Slot s) m

  -- The slot of a one side has this from then on, in which these holds pass: the object leaves the members of what the slot named, and
  -- is one of those of what it names then. Then all goes that nothing holds.
  unfoldable pub one_side_set : Memory → Object → ℕ → Name → Slot → List ℕ → Memory
  one_side_set m o at side slot passed =
      dropped (loosed (member_joined side o.number (out-Slot slot) (left_by side o.number (slice_get o.slots at) (edited m o.number (changed_slot at slot)))) passed)

  -- the memory once it stands in the slot of a property of that kind
  abbrev pub prop_set : Object → ℕ → Kind → Standing → Memory
  prop_set o at (kind.One class side) st = given_back (one_side_set st.memory o at side (slot_from st.filling) (passed st.filling)) st.back
  prop_set o at kind st = stood o.number at (λ s. s) st

  -- ---- a set

  abbrev pub writes_standing : Object → ℕ → Kind → Item → Option Standing → ObjectCall Memory
  writes_standing o at kind i None s = errs s (error_of i)
  writes_standing o at kind i (Some st) s = Give (with_memory (prop_set o at kind st) s, answer.Done)

  abbrev pub writes_form : Object → ℕ → Kind → Option Form → Val → ObjectCall Memory
  writes_form o at kind (Some (single i)) v s = writes_standing o at kind i (stands classes s.memory o.level i v) s
  writes_form o at kind _ v s = errs s error.CannotSetThisProperty

  abbrev pub writes_prop : Object → ℕ → Option Prop → Val → ObjectCall Memory
  writes_prop o at None v s = errs s error.PropertyDoesNotExist
  writes_prop o at (Some p) v s = writes_form o at p.kind (form_of p.kind) v s

  abbrev pub writes_place : Object → Option ℕ → Val → ObjectCall Memory
  writes_place o None v s = errs s error.PropertyDoesNotExist
  writes_place o (Some at) v s = writes_prop o at (slice_get (props_at classes o.class) at) v s

  abbrev pub writes_of : Name → Val → Option Object → ObjectCall Memory
  writes_of name v None s = errs s error.InvalidOref
  writes_of name v (Some o) s = writes_place o (prop_place name (props_at classes o.class)) v s

  -- the property of that name of the object of the number
  unfoldable pub write_prop : ℕ → Name → Val → ObjectCall Memory
  write_prop n name v s = writes_of name v (object_of n s.memory.objects) s
