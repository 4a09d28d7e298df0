-- How long the marker of a row is.
use Rattle.std.proofs.Common.{◌≡◌, ℕ, ◌+◌, cond, Bool, true, false, arith, List, [], ◌∷◌, ◌++◌, length, refl, length-append}
use Rattle.obj_kinds.specs.declared.name.ClassName.{ClassName}
use Rattle.schema_kinds.specs.Hierarchy.{same_text}
use Rattle.record_layout.specs.Rows.{marker}

pub marker_length : (e c : ClassName) → length (marker e c) ≡ cond (same_text c.0 e.0) 0 (length c.0 + 2)
unfolding marker
marker_length e c = by (same_text c.0 e.0)
  where
    by : (b : Bool) → length (cond b [] (126 ∷ c.0 ++ 126 ∷ [])) ≡ cond b 0 (length c.0 + 2)
    by true = refl
    by false = omega (arith, length-append c.0 (126 ∷ []))
