use Rattle.world_images.proofs.ImageLaws.{nodes_apart}
use Rattle.world_images.proofs.law.nodes_are_apart.Goals as goal

pub returns : goal.returns
returns c = nodes_apart
