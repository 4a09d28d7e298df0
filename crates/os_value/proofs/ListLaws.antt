-- A list has as many items as it was built of.
use Rattle.std.proofs.Common.{◌≡◌, ℕ, Bool, true, false, cond, ℤ, pos, List, length, Result, Ok, Err, refl, sym, ap, ◌∙◌}
use Rattle.obj_kinds.specs.declared.value.Value.{Value}
use Rattle.obj_kinds.specs.declared.value.Value.TheVariants.{List as Listed}
use Rattle.obj_kinds.specs.declared.error_name.ErrorName.{ErrorName}
use Rattle.obj_kinds.specs.declared.error_name.ErrorName.TheVariants.{MaxString}
use Rattle.obj_kinds.specs.Limits.{is_legal_value}
use Rattle.obj_kinds.specs.Values.{as_value}
use Rattle.obj_kinds.proofs.ValueLaws.{out-List}
use Rattle.os_value.specs.Answers.{and_then, stored}
use Rattle.os_value.specs.Lists.{built, items_by, items_in, count_of}

-- what a value is in an answer, or another one
abbrev value_or : Value → Result Value ErrorName → Value
value_or other (Ok v) = v
value_or other (Err e) = other

items_are : (items : List Value) → items_in (Listed items) ≡ Ok items
items_are items = ap items_by (out-List items)

pub counted : (items : List Value) (list : Value) → built items ≡ Ok list → count_of list ≡ Ok (as_value (pos (length items)))
counted items list e = by (is_legal_value (Listed items)) e
  where
    by : (b : Bool) → cond b (Ok (Listed items)) (Err MaxString) ≡ Ok list → count_of list ≡ Ok (as_value (pos (length items)))
    by true h = ap count_of (sym (ap (value_or list) h)) ∙ ap (λ r. and_then r (λ many. stored (Ok (pos (length many))))) (items_are items)
    by false h = cc
