-- What a set of a property leaves, and where it is refused.
use Rattle.std.specs.Prelude.{◌≡◌, ℕ, IsTrue, List, slice_get, Option, None, Some}
use Rattle.obj_kinds.specs.declared.error_name.ErrorName.{ErrorName}
use Rattle.obj_kinds.specs.declared.error_name.ErrorName.TheVariants.{PropertyDoesNotExist, CannotSetThisProperty}
use Rattle.obj_kinds.specs.Limits.{is_legal_value}
use Rattle.schema_kinds.specs.declared.class.Class.{Class}
use Rattle.schema_kinds.specs.declared.prop.Prop.{Prop}
use Rattle.schema_kinds.specs.Classes.{class_of, props_of}
use Rattle.record_layout.specs.Shapes.{Form, single, form_of}
use Rattle.oref_table.specs.declared.fill.Fill.{Fill}
use Rattle.oref_table.specs.declared.fill.Fill.TheVariants as fill
use Rattle.oref_table.specs.Memory.{Object, Memory, object_of}
use Rattle.obj_props.specs.declared.got.ShapeError.{ShapeError}
use Rattle.obj_props.specs.declared.got.ShapeError.TheVariants.{Script, Lack}
use Rattle.obj_props.specs.Properties.{prop_place}
use Rattle.prop_setting.specs.Elements.{Takes, error_of, standing, stood}

-- what may be given: a value within the limits, or an object
unfoldable pub IsGiven : Fill → Type 0
IsGiven (fill.Plain v) = IsTrue (is_legal_value v)
IsGiven (fill.To h) = Unit {0}
IsGiven _ = ⊥

-- an element in the slot of an object of that level is set, and leaves this memory
abbrev pub FormSets : List Class → Memory → ℕ → ℕ → ℕ → Option Form → Fill → Memory → Type 0
FormSets classes m n at level (Some (single i)) w new = Takes classes m i w × (new ≡ stood n at (λ s. s) (standing classes m level i w))
FormSets classes m n at level _ w new = ⊥

-- it is refused: an element takes no such thing, and a collection or a many side takes nothing
abbrev pub FormRefuses : List Class → Memory → Option Form → Fill → ErrorName → Type 0
FormRefuses classes m (Some (single i)) w e = (¬ Takes classes m i w) × (e ≡ error_of i)
FormRefuses classes m _ w e = e ≡ CannotSetThisProperty

-- the property at a place
abbrev pub prop_at : List Prop → Option ℕ → Option Prop
prop_at props None = None
prop_at props (Some at) = slice_get props at

abbrev pub props_in : List Class → Object → List Prop
props_in classes o = props_of (class_of classes o.class)

-- the property of the object that has the name
abbrev pub named_prop : List Class → Object → List ℕ → Option Prop
named_prop classes o name = prop_at (props_in classes o) (prop_place name (props_in classes o))

-- a set of the property of the object of the number leaves this memory
abbrev pub PropSets : List Class → Memory → ℕ → List ℕ → Fill → Memory → Type 0
PropSets classes m n name w new =
    (o : Object) × (at : ℕ) × (p : Prop) × (object_of n m.objects ≡ Some o) × (prop_place name (props_in classes o) ≡ Some at) × (slice_get (props_in classes o) at ≡ Some p)
    × FormSets classes m n at o.level (form_of p.kind) w new

abbrev pub PlaceRefuses : List Class → Memory → Option Prop → Fill → ErrorName → Type 0
PlaceRefuses classes m None w e = e ≡ PropertyDoesNotExist
PlaceRefuses classes m (Some p) w e = FormRefuses classes m (form_of p.kind) w e

-- it is refused by this error
abbrev pub PropRefuses : List Class → Memory → ℕ → List ℕ → Fill → ErrorName → Type 0
PropRefuses classes m n name w e = (o : Object) × (object_of n m.objects ≡ Some o) × PlaceRefuses classes m (named_prop classes o name) w e

-- an error of the script is the one that is meant; for want of memory, or of a number, nothing more is said
abbrev pub Tells : (ErrorName → Type 0) → ShapeError → Type 0
Tells Refuses (Script e) = Refuses e
Tells Refuses (Lack l) = Unit {0}
