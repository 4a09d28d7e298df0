use Rattle.saving_rules.proofs.Sampled.{worked_can_be_saved}
use Rattle.saving_rules.proofs.laws.worked_objects_can_be_saved.Goals as goal

pub returns : goal.returns
returns c = worked_can_be_saved
