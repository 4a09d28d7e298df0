use Rattle.run_rules.proofs.Weave.{keeps_structure}
use Rattle.run_rules.proofs.laws.entries_keep_the_structure.Goals as goal

pub returns : goal.returns
returns c = keeps_structure
