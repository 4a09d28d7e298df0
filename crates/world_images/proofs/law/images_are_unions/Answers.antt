use Rattle.world_images.proofs.ImageLaws.{image_is}
use Rattle.world_images.proofs.law.images_are_unions.Goals as goal

pub returns : goal.returns
returns c = image_is
