-- What may be read: an object that is held is live, and the fields of a part name no object.
use Rattle.std.specs.Prelude.{◌≡◌, ℕ, IsSome, List, [], Option, None, Some, slice_get}
use Rattle.oref_table.specs.Refs.{refs_in}
use Rattle.oref_table.specs.Memory.{Memory, IsLive}
use Rattle.obj_kinds.specs.declared.error_name.ErrorName.TheVariants.{PropertyDoesNotExist}
use Rattle.schema_kinds.specs.declared.class.Class.{Class}
use Rattle.schema_kinds.specs.declared.prop.Prop.{Prop}
use Rattle.oref_table.specs.declared.obj.Obj.{Obj}
use Rattle.oref_table.specs.declared.slot.Slot.{Slot}
use Rattle.oref_table.specs.declared.slot.Slot.TheViews.{out-Slot}
use Rattle.obj_props.specs.declared.content.Content.{Content}
use Rattle.obj_props.specs.declared.content.Content.TheVariants as holds
use Rattle.obj_props.specs.declared.got.ShapeError.{ShapeError}
use Rattle.obj_props.specs.declared.got.ShapeError.TheVariants.{Script, Lack}
use Rattle.obj_props.specs.Properties.{Read, fails, kind_content}

abbrev pub MayBeRead : Memory → Content → Type 0
MayBeRead m (holds.Object q) = IsLive m q.0
MayBeRead m (holds.Part c slots) = refs_in slots ≡ []
MayBeRead m _ = Unit {0}

-- an error of the script is the one that is meant; for want of memory, or of a number, nothing more is said
abbrev pub Tells : Read → ShapeError → Type 0
Tells r (Script e) = r ≡ fails e
Tells r (Lack l) = Unit {0}

-- no error of the script
abbrev pub IsLack : ShapeError → Type 0
IsLack (Script e) = ⊥
IsLack (Lack l) = Unit {0}

-- the place has a property and a slot, and holds this
abbrev pub IsFound : List Class → List Prop → Obj → Option ℕ → ℕ → ℕ → Content → Type 0
IsFound classes props obj place at level content =
    (p : Prop) × (s : Slot) × (place ≡ Some at) × (slice_get props at ≡ Some p) × (slice_get obj.slots at ≡ Some s) × (level ≡ obj.level)
    × (content ≡ kind_content classes p.kind (out-Slot s))

-- the place has a property and a slot
abbrev pub HasPlace : List Prop → Obj → Option ℕ → Type 0
HasPlace props obj None = ⊥
HasPlace props obj (Some at) = IsSome (slice_get props at) × IsSome (slice_get obj.slots at)

-- there is no such place; or something is lacking
abbrev pub IsMissing : List Prop → Obj → Option ℕ → ShapeError → Type 0
IsMissing props obj place (Script e) = (e ≡ PropertyDoesNotExist) × (¬ HasPlace props obj place)
IsMissing props obj place (Lack l) = Unit {0}
