use Rattle.std.proofs.Common.{◌∙◌, ap, sym}
use Rattle.std.specs.Prelude.{slice_get}
use Rattle.std.specs.Option.{option_copied}
use Rattle.read_plan.specs.Reads.{to_come_within, arrays_left}
use Rattle.read_plan.proofs.ReadLaws.{list_comes, lists_end}
use Rattle.read_plan.proofs.taking.next_list.Goals as goal

pub returns-in-None-clause-left : goal.returns-in-None-clause-left
returns-in-None-clause-left c classes key wanted tag most =
    c.next_array.ensures.left classes key wanted tag most
    ∙ ap (λ maps. arrays_left classes key tag most c.args.begun maps) c.new.ensures
    ∙ lists_end classes key tag most c.args.begun
    (sym (ap (λ n. slice_get c.args.begun.steps.lists.items n) c.len.ensures) ∙ sym (ap (λ xs. slice_get xs c.len.result) c.as_slice.ensures.value) ∙ sym c.at.ensures ∙ ap option_copied c.in-None.is)

pub returns-in-Some-clause-left : goal.returns-in-Some-clause-left
unfolding to_come_within
returns-in-Some-clause-left c classes key wanted tag most =
    list_comes classes key tag most c.args.begun c.in-Some.list.now
    (sym (ap (λ n. slice_get c.args.begun.steps.lists.items n) c.len.ensures) ∙ sym (ap (λ xs. slice_get xs c.len.result) c.as_slice.ensures.value) ∙ sym c.at.ensures ∙ ap option_copied c.in-Some.is)
