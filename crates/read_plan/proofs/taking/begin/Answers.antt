use Rattle.std.proofs.Common.{◌∙◌, sym, ap}
use Rattle.std.specs.Option.{option_copied}
use Rattle.record_layout.specs.Inverse.{each_read}
use Rattle.record_layout.specs.Items.{row_field}
use Rattle.read_plan.specs.declared.phase.Begun.{Begun}
use Rattle.read_plan.specs.Reads.{lists_left}
use Rattle.read_plan.proofs.ReadLaws.{begun}
use Rattle.read_plan.proofs.taking.begin.Goals as goal

pub returns-clause-left : goal.returns-clause-left
returns-clause-left c tag most =
    let b : Begun = record { class = c.args.class; steps = c.in_ok-steps.steps; first = c.in-Some.first; lists = c.new-lists.result } in
    c.next_list.ensures.left c.args.call.schema.now c.args.call.key.now (option_copied c.args.call.wanted) tag most
    ∙ ap (λ lists. lists_left c.args.call.schema.now c.args.call.key.now tag most b lists) c.new-lists.ensures
    ∙ begun c.args.call.schema.now c.args.call.key.now tag most b c.args.items.now c.in_ok-steps.ensures
    (sym (ap (λ layout. each_read (row_field c.args.call.schema.now) layout.root c.args.items.now) c.in_ok-steps.ensures) ∙ sym c.in_ok-row_fields.ensures ∙ c.in-Some.is)
