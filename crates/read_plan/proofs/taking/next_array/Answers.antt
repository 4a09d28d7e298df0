use Rattle.std.proofs.Common.{◌∙◌, ap, sym}
use Rattle.std.specs.Prelude.{slice_get}
use Rattle.std.specs.Option.{option_copied}
use Rattle.read_plan.specs.Reads.{to_come_within}
use Rattle.read_plan.proofs.ReadLaws.{array_comes, arrays_end}
use Rattle.read_plan.proofs.taking.next_array.Goals as goal

pub returns-in-None-clause-left : goal.returns-in-None-clause-left
unfolding to_come_within
returns-in-None-clause-left c classes key wanted tag most =
    arrays_end classes key tag most c.args.begun c.args.maps
    (sym (ap (λ n. slice_get c.args.begun.steps.arrays.items n) c.len.ensures) ∙ sym (ap (λ xs. slice_get xs c.len.result) c.as_slice.ensures.value) ∙ sym c.at.ensures ∙ ap option_copied c.in-None.is)

pub returns-in-Some-clause-left : goal.returns-in-Some-clause-left
unfolding to_come_within
returns-in-Some-clause-left c classes key wanted tag most =
    rw c.new-pairs.ensures (array_comes classes key tag most c.args.begun c.args.maps c.in-Some.array.now
    (sym (ap (λ n. slice_get c.args.begun.steps.arrays.items n) c.len.ensures) ∙ sym (ap (λ xs. slice_get xs c.len.result) c.as_slice.ensures.value) ∙ sym c.at.ensures ∙ ap option_copied c.in-Some.is))
