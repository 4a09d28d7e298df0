use Rattle.world_images.proofs.ImageLaws.{nodes_belong}
use Rattle.world_images.proofs.law.nodes_belong_to_their_key.Goals as goal

pub returns : goal.returns
returns c = nodes_belong
