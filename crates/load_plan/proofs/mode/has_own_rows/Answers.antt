use Rattle.std.proofs.Common.{ap, sym, ◌∙◌, ◌++◌, ◌∷◌, []}
use Rattle.std.specs.Prelude.{map, nat_lt, length}
use Rattle.record_layout.specs.Shapes.{row_forms}
use Rattle.record_layout.specs.Layout.{own_props}
use Rattle.object_calls.specs.Extents.{is_filled, last_own}
use Rattle.load_plan.proofs.ModeLaws.{last_two, count_filled}
use Rattle.load_plan.proofs.mode.has_own_rows.Goals as goal

pub returns-in-Some-split_last : goal.returns-in-Some-split_last
returns-in-Some-split_last c =
    ap (λ n. nat_lt 0 n) c.count_rows.ensures.value
    ∙ ap (λ props. nat_lt 0 (length (row_forms props))) c.own_props.ensures
    ∙ count_filled (row_forms (own_props c.in-Some-split_last.above.now.now c.in-Some.class.now.now))
    ∙ ap is_filled (sym (last_two (λ class. class.now) c.in-Some-split_last.field-0-1.now c.in-Some-split_last.above.now c.in-Some.class.now))
    ∙ ap (λ line. is_filled (last_own (map (λ class. class.now) line))) (sym (c.in-Some.ensures.cases.0 ∙ ap (λ front. front ++ c.in-Some.class.now ∷ []) c.in-Some-split_last.ensures.cases.0))
