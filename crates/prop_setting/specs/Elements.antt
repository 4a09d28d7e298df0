-- What an element takes, what stands there then, and what memory is once it does.
use Rattle.std.specs.Prelude.{◌≡◌, ℕ, true, List, [], ◌∷◌, ◌++◌, slice_set, IsSomeAnd, Option, None, Some}
use Rattle.std.specs.Fmt.{decimal}
use Rattle.obj_kinds.specs.declared.name.ClassName.{ClassName}
use Rattle.obj_kinds.specs.declared.value.Value.{Value}
use Rattle.obj_kinds.specs.declared.value.Value.TheVariants as value
use Rattle.obj_kinds.specs.declared.value.Value.TheOpen.{Value-F}
use Rattle.obj_kinds.specs.declared.value.Value.TheViews.{out-Value}
use Rattle.obj_kinds.specs.declared.error_name.ErrorName.{ErrorName}
use Rattle.obj_kinds.specs.declared.error_name.ErrorName.TheVariants as error
use Rattle.schema_kinds.specs.declared.class.Class.{Class}
use Rattle.schema_kinds.specs.declared.kind.Item.{Item}
use Rattle.schema_kinds.specs.declared.kind.Item.TheVariants as of
use Rattle.oref_table.specs.declared.slot.Slot.{Slot}
use Rattle.oref_table.specs.declared.oref.Held.{Held}
use Rattle.oref_table.specs.declared.fill.Fill.{Fill}
use Rattle.oref_table.specs.declared.fill.Fill.TheVariants as fill
use Rattle.oref_table.specs.Memory.{Object, Memory, object_of, edited, loosed}
use Rattle.oref_table.specs.Dropping.{dropped}
use Rattle.oref_table.specs.Filling.{slot_from, passed}
use Rattle.obj_shape.specs.Records.{slots_at}
use Rattle.obj_shape.specs.Fitting.{IsClassFor}
use Rattle.part_copies.specs.Copies.{Copies, copy_part, with_copies}

-- ---- what an element takes

abbrev pub IsText : Value-F Value → Type 0
IsText (Value-F.Str text) = Unit {0}
IsText (Value-F.List vs) = ⊥

abbrev pub IsEmptyText : Value-F Value → Type 0
IsEmptyText (Value-F.Str text) = text ≡ []
IsEmptyText (Value-F.List vs) = ⊥

-- a value takes a text, and an OREF, as its text
abbrev pub ValueTakes : Fill → Type 0
ValueTakes (fill.Plain v) = IsText (out-Value v)
ValueTakes (fill.To h) = Unit {0}
ValueTakes _ = ⊥

-- the object of the number is of a class that may stand as the element
abbrev pub MayStand : List Class → Memory → Item → ℕ → Type 0
MayStand classes m i n = IsSomeAnd (object_of n m.objects) (λ o. IsClassFor classes i o.class)

-- a reference takes an object of a class at or below the declared one, a part one of its class itself, and both nothing
abbrev pub ObjectTakes : List Class → Memory → Item → Fill → Type 0
ObjectTakes classes m i (fill.Plain v) = IsEmptyText (out-Value v)
ObjectTakes classes m i (fill.To h) = MayStand classes m i h.number
ObjectTakes classes m i _ = ⊥

abbrev pub Takes : List Class → Memory → Item → Fill → Type 0
Takes classes m of.Text w = ValueTakes w
Takes classes m of.Whole w = ValueTakes w
Takes classes m of.Truth w = ValueTakes w
Takes classes m (of.Ref c) w = ObjectTakes classes m (of.Ref c) w
Takes classes m (of.Serial c) w = ObjectTakes classes m (of.Serial c) w

-- the error of what it doesn't take: a list in the place of a text, or what the property can't hold
abbrev pub error_of : Item → ErrorName
error_of of.Text = error.List
error_of of.Whole = error.List
error_of of.Truth = error.List
error_of (of.Ref c) = error.CannotSetThisProperty
error_of (of.Serial c) = error.CannotSetThisProperty

-- ---- what stands there then

abbrev pub class_part : Option Object → List ℕ
class_part None = []
class_part (Some o) = o.class.0

-- an OREF as a text: its number and its class
abbrev pub oref_text : Memory → ℕ → List ℕ
oref_text m n = decimal n ++ 64 ∷ class_part (object_of n m.objects)

-- what the place is filled with, the memory with what was made for it, and the hold that is given back once it stands there
pub record Standing : Type 0 where
  pub filling : Fill
  pub memory : Memory
  pub back : Option Held

abbrev pub plainly : Memory → Fill → Standing
plainly m w = record { filling = w; memory = m; back = None }

abbrev pub value_standing : Memory → Fill → Standing
value_standing m (fill.To h) = record { filling = fill.Plain (value.Str (oref_text m h.number)); memory = m; back = Some h }
value_standing m w = plainly m w

abbrev pub reference_standing : Memory → Fill → Standing
reference_standing m (fill.Plain v) = plainly m (fill.Target None)
reference_standing m w = plainly m w

-- the copy of a part stands there, and the part that was given is given back
abbrev pub copy_standing : Memory → Copies ℕ → Held → Standing
copy_standing m copies h = record { filling = fill.To (record { number = copies.copy }); memory = with_copies m copies; back = Some h }

abbrev pub part_standing : List Class → Memory → ℕ → ClassName → Fill → Standing
part_standing classes m level c (fill.Plain v) = plainly m (fill.Target None)
part_standing classes m level c (fill.To h) = copy_standing m (copy_part 4 classes m level c (slots_at m h.number) m.last) h
part_standing classes m level c w = plainly m w

-- in an object of that level
abbrev pub standing : List Class → Memory → ℕ → Item → Fill → Standing
standing classes m level of.Text w = value_standing m w
standing classes m level of.Whole w = value_standing m w
standing classes m level of.Truth w = value_standing m w
standing classes m level (of.Ref c) w = reference_standing m w
standing classes m level (of.Serial c) w = part_standing classes m level c w

-- ---- what memory is once it does

-- the slot has this from now on, and the object is marked
abbrev pub changed_slot : ℕ → Slot → Object → Object
changed_slot at slot o = record o { slots = slice_set o.slots at slot; modified = true }

-- so it is changed, these holds pass into the slot, and then all goes that nothing holds
unfoldable pub slot_set : Memory → ℕ → ℕ → Slot → List ℕ → Memory
slot_set m n at slot holds = dropped (loosed (edited m n (changed_slot at slot)) holds)

-- the hold is given back, and then all goes that nothing holds
unfoldable pub given_back : Memory → Option Held → Memory
given_back m None = m
given_back m (Some h) = dropped (loosed m (h.number ∷ []))

-- the slot has what stands there as a part of a whole, as the slot itself or as a list with it
abbrev pub stood : ℕ → ℕ → (Slot → Slot) → Standing → Memory
stood n at whole st = given_back (slot_set st.memory n at (whole (slot_from st.filling)) (passed st.filling)) st.back
