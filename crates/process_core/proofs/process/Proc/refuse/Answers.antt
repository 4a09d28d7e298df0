use Rattle.std.proofs.Common.{ap, ◌∙◌}
use Rattle.store_calls.specs.Calls.{Give}
use Rattle.process_core.specs.Ends.{ending_by}
use Rattle.process_core.proofs.Turns.{closed_left}
use Rattle.process_core.proofs.process.Proc.refuse.Goals as goal

pub returns-clause-ends : goal.returns-clause-ends
returns-clause-ends c =
    closed_left c.end_refused.result c.close.result c.close.new.self c.args.self.now c.close.ensures ∙ ap (λ e. Give (ending_by e)) c.end_refused.ensures
