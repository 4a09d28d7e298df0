-- The functions on lists.
use Rattle.std.specs.Prelude.{zero, suc, ℤ, pos, negsuc, cond, List, [], ◌∷◌, length, slice_get, Option, ok_or, Result, Ok, Err}
use Rattle.obj_kinds.specs.declared.value.Value.{Value}
use Rattle.obj_kinds.specs.declared.value.Value.TheVariants.{List as Listed}
use Rattle.obj_kinds.specs.declared.value.Value.TheOpen.{Value-F}
use Rattle.obj_kinds.specs.declared.value.Value.TheViews.{out-Value}
use Rattle.obj_kinds.specs.declared.error_name.ErrorName.{ErrorName}
use Rattle.obj_kinds.specs.declared.error_name.ErrorName.TheVariants.{List as ListError, MaxString, NullValue}
use Rattle.obj_kinds.specs.Limits.{is_legal_value}
use Rattle.os_value.specs.Answers.{and_then, stored}
use Rattle.os_value.specs.Places.{place_or}

-- a list within the limits of a value
abbrev pub built : List Value → Result Value ErrorName
built items = cond (is_legal_value (Listed items)) (Ok (Listed items)) (Err MaxString)

abbrev pub items_by : Value-F Value → Result (List Value) ErrorName
items_by (Value-F.Str []) = Ok []
items_by (Value-F.Str (byte ∷ rest)) = Err ListError
items_by (Value-F.List items) = Ok items

-- the empty text is the empty list, any other text is no list
abbrev pub items_in : Value → Result (List Value) ErrorName
items_in v = items_by (out-Value v)

-- counted from 1
abbrev pub item_at : ℤ → List Value → Result Value ErrorName
item_at (pos zero) items = Err NullValue
item_at (pos (suc n)) items = ok_or (slice_get items n) NullValue
item_at (negsuc n) items = Err NullValue

abbrev pub item_of : Value → Option Value → Result Value ErrorName
item_of l i = and_then (items_in l) (λ items. and_then (place_or i (pos 1)) (λ place. item_at place items))

abbrev pub count_of : Value → Result Value ErrorName
count_of l = and_then (items_in l) (λ items. stored (Ok (pos (length items))))
