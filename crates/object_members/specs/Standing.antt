-- Whether a set takes a value, and what stands there then: the rules of sets as functions.
use Rattle.std.specs.Prelude.{ℕ, Bool, true, false, cond, List, [], Option, None, Some}
use Rattle.obj_kinds.specs.declared.name.ClassName.{ClassName}
use Rattle.obj_kinds.specs.declared.value.Value.{Value}
use Rattle.obj_kinds.specs.declared.value.Value.TheOpen.{Value-F}
use Rattle.obj_kinds.specs.declared.value.Value.TheViews.{out-Value}
use Rattle.obj_kinds.specs.Limits.{is_legal_text}
use Rattle.obj_kinds.specs.Texts.{same_text}
use Rattle.schema_kinds.specs.declared.class.Class.{Class}
use Rattle.schema_kinds.specs.declared.kind.Item.{Item}
use Rattle.schema_kinds.specs.declared.kind.Item.TheVariants as of
use Rattle.os_kinds.specs.declared.val.Val.{Val}
use Rattle.os_kinds.specs.declared.val.Val.TheVariants.{Data, Ref}
use Rattle.oref_table.specs.declared.fill.Fill.{Fill}
use Rattle.oref_table.specs.declared.fill.Fill.TheVariants as fill
use Rattle.oref_table.specs.Memory.{Memory, edited, tighten}
use Rattle.prop_setting.specs.Elements.{Standing, standing, oref_text}
use Rattle.object_calls.specs.Extents.{is_at_or_below}
use Rattle.object_members.specs.Seeing.{class_at}

-- what is set: a value, or an object with a hold of its own, since the frame keeps its place until the call has ended
abbrev pub fill_with : Val → Fill
fill_with (Data v) = fill.Plain v
fill_with (Ref number class) = fill.To (record { number = number })

abbrev pub held_for : Val → Memory → Memory
held_for (Data v) m = m
held_for (Ref number class) m = edited m number tighten

-- ---- what an element takes

-- a text within the limits
abbrev pub is_text : Value-F Value → Bool
is_text (Value-F.Str text) = is_legal_text text
is_text (Value-F.List vs) = false

abbrev pub is_empty_text : Value-F Value → Bool
is_empty_text (Value-F.Str []) = true
is_empty_text _ = false

-- an object of a class at or below the declared one may be named, and one of the serial class itself may be a part
abbrev pub is_class_for : List Class → Item → Option ClassName → Bool
is_class_for classes i None = false
is_class_for classes (of.Ref c) (Some name) = is_at_or_below classes name c
is_class_for classes (of.Serial c) (Some name) = same_text name.0 c.0
is_class_for classes _ (Some name) = false

-- a value takes a text, and an OREF, as its text
abbrev pub value_takes : Memory → Fill → Bool
value_takes m (fill.Plain v) = is_text (out-Value v)
value_takes m (fill.To h) = is_legal_text (oref_text m h.number)
value_takes m _ = false

-- a reference and a part take an object of a class for them, and the empty text
abbrev pub object_takes : List Class → Memory → Item → Fill → Bool
object_takes classes m i (fill.Plain v) = is_empty_text (out-Value v)
object_takes classes m i (fill.To h) = is_class_for classes i (class_at m h.number)
object_takes classes m i _ = false

abbrev pub takes : List Class → Memory → Item → Fill → Bool
takes classes m of.Text w = value_takes m w
takes classes m of.Whole w = value_takes m w
takes classes m of.Truth w = value_takes m w
takes classes m (of.Ref c) w = object_takes classes m (of.Ref c) w
takes classes m (of.Serial c) w = object_takes classes m (of.Serial c) w

-- ---- what stands there then

-- as an element, with the level of its holder
abbrev pub element_stands : List Class → Memory → ℕ → Item → Fill → Option Standing
element_stands classes m level i w = cond (takes classes m i w) (Some (standing classes m level i w)) None

-- as an element of an object with this level
abbrev pub stands : List Class → Memory → ℕ → Item → Val → Option Standing
stands classes m level i v = element_stands classes (held_for v m) level i (fill_with v)
