use Rattle.std.proofs.Common.{◌≡◌, ◌∷◌, [], map, take}
use Rattle.obj_kinds.specs.declared.value.Value.TheVariants.{Str}
use Rattle.first_path.proofs.imaging.row_value.Given as goal

-- the marker, and the fields so far
abbrev pub invariant-loop-field : goal.invariant-loop-field
invariant-loop-field l = l.items ≡ Str [] ∷ map Str (take l.field-index l.fields)
