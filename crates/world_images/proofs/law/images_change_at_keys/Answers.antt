use Rattle.world_images.proofs.ImageLaws.{image_with, image_without}
use Rattle.world_images.proofs.law.images_change_at_keys.Goals as goal

pub returns : goal.returns
returns c = λ classes w key r n. (image_with classes w key r n, image_without classes w key n)
