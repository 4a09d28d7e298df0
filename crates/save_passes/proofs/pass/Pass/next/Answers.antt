use Rattle.std.proofs.Common.{subst}
use Rattle.asking_plan.specs.Asked.{Says}
use Rattle.save_passes.specs.Passes.{asked_of}
use Rattle.save_passes.proofs.PassLaws.{said_some}
use Rattle.save_passes.proofs.pass.Pass.next.Goals as goal

-- what the list of the object asks
pub returns-in-Some-clause-says : goal.returns-in-Some-clause-says
returns-in-Some-clause-says c =
    said_some (asked_of c.args.of.now) c.args.self.now c.loop-self.self c.in-Some.op c.loop-self.invariant.0
    (subst (λ x. Says c.loop-self.self.asking x) c.in-Some.is c.in_ok-op.ensures)
