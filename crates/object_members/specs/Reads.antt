-- A property, an item or an element is read: an id that stands there is opened first.
use Rattle.std.specs.Prelude.{ℕ, true, List, Option, None, Some, unwrap_or}
use Rattle.obj_kinds.specs.declared.name.ClassName.{ClassName}
use Rattle.obj_kinds.specs.declared.error_name.ErrorName.TheVariants as error
use Rattle.schema_kinds.specs.declared.class.Class.{Class}
use Rattle.schema_kinds.specs.declared.key.Key.{Key}
use Rattle.os_kinds.specs.declared.val.Val.TheVariants.{Data}
use Rattle.os_kinds.specs.declared.call.Answer.TheVariants as answer
use Rattle.os_meaning.specs.Syntax.{Name}
use Rattle.oref_table.specs.declared.slot.Slot.{Slot}
use Rattle.oref_table.specs.Memory.{Object, Memory, object_of, edited}
use Rattle.oref_table.specs.Filling.{with_slot}
use Rattle.obj_props.specs.declared.got.Got.TheVariants as got
use Rattle.obj_props.specs.Properties.{Read, gives, fails, alone, prop_place, prop_read}
use Rattle.store_calls.specs.Calls.{Give}
use Rattle.object_calls.specs.Loads.{LoadCall}
use Rattle.object_calls.specs.ObjectCalls.{open_object}
use Rattle.host_meaning.specs.Objects.{ObjectCall}
use Rattle.object_members.specs.Seeing.{memories, props_at}
use Rattle.object_members.specs.Ends.{with_memory, nothing, ref_at, answers, errs, answered_by}

module _ (classes : List Class) (tries most : ℕ) where
  -- the load of what stands in the slot of an object, at its level
  abbrev pub touch_of : Object → Key → ClassName → LoadCall
  touch_of o key class = record { key = key; class = class; level = o.level; touch = true }

  -- the object is opened and stands in the slot from then on; where it fails the id stays
  abbrev pub touches : Object → ℕ → (ℕ → Slot) → Key → ClassName → ObjectCall Memory
  touches o at whole key class s =
      answered_by s (λ m n. (edited m o.number (with_slot at (whole n)), ref_at m n)) (λ x. nothing)
      (open_object (memories classes) classes tries most s.memory (touch_of o key class))

  -- what a read of a slot comes to; `whole` is the slot once an object stands where the id stood
  abbrev pub reads : Object → ℕ → (ℕ → Slot) → Read → ObjectCall Memory
  reads o at whole (gives (got.Plain v) m) s = answers (with_memory m s) (Data v)
  reads o at whole (gives (got.To h) m) s = answers (with_memory m s) (ref_at m h.number)
  reads o at whole (gives (got.Touch key class) m) s = touches o at whole key class (with_memory m s)
  reads o at whole (gives got.Coll m) s = Give (with_memory m s, answer.Items)
  reads o at whole (fails e) s = errs s e

  abbrev pub reads_of : Name → Option Object → ObjectCall Memory
  reads_of name None s = errs s error.InvalidOref
  reads_of name (Some o) s = reads o (unwrap_or (prop_place name (props_at classes o.class)) 0) alone (prop_read classes s.memory o.number name) s

  -- the property of that name of the object of the number
  unfoldable pub read_prop : ℕ → Name → ObjectCall Memory
  read_prop n name s = reads_of name (object_of n s.memory.objects) s
