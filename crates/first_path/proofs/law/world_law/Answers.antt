use Rattle.first_path.proofs.Standing.{world_law_lem}
use Rattle.first_path.proofs.law.world_law.Goals as goal

pub returns : goal.returns
returns c = world_law_lem
