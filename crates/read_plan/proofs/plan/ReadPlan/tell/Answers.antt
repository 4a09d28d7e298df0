use Rattle.std.proofs.Common.{◌∙◌, ap}
use Rattle.read_plan.specs.Reads.{gathered}
use Rattle.read_plan.proofs.ReadLaws.{tells}
use Rattle.read_plan.proofs.plan.ReadPlan.tell.Goals as goal

pub returns-in-Full-clause-says : goal.returns-in-Full-clause-says
returns-in-Full-clause-says c =
    tells c.args.call c.args.self.now.phase c.in-Full.begun c.in-Full.maps c.in_ok-outcome.outcome c.in-Full.is
    (λ tag most. c.in_ok-outcome.ensures tag most ∙ ap (λ maps. gathered c.args.call.schema.now c.args.call.key.now tag most c.in-Full.begun c.in-Full.begun.lists maps) c.as_slice.ensures)
