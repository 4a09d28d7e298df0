use Rattle.world_audit.proofs.OpeningLaws.{faultless_is_opening}
use Rattle.world_audit.proofs.law.faultless_nodes_are_openings.Goals as goal

pub returns : goal.returns
returns c = faultless_is_opening
