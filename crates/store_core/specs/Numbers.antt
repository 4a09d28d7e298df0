-- What an increment makes of a node's value.
use Rattle.std.specs.Prelude.{ℤ, pos, ◌+ℤ◌, cond, ◌&&◌, Option, None, Some}
use Rattle.obj_kinds.specs.declared.value.Value.{Value}
use Rattle.obj_kinds.specs.declared.value.Value.TheOpen.{Value-F}
use Rattle.obj_kinds.specs.declared.value.Value.TheFolds.{fold-Value}
use Rattle.obj_kinds.specs.LeadingNumber.{leading_number}
pub use Rattle.obj_kinds.specs.Subscript.{is_whole}
pub use Rattle.obj_kinds.specs.Values.{as_value}

-- the leading number of a text; a list counts 0
abbrev pub number_step : Value-F ℤ → ℤ
number_step (Value-F.Str text) = leading_number text
number_step (Value-F.List numbers) = pos 0

-- a missing value counts 0
abbrev pub number_at : Option Value → ℤ
number_at None = pos 0
number_at (Some v) = fold-Value ℤ number_step v

-- the sum, where it and the number that is there are whole
unfoldable pub incremented : Option Value → ℤ → Option ℤ
incremented before k = let n = number_at before in cond (is_whole n && is_whole (n +ℤ k)) (Some (n +ℤ k)) None
