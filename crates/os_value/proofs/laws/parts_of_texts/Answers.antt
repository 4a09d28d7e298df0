use Rattle.os_value.proofs.PartLaws.{part_all, part_neighbours}
use Rattle.os_value.proofs.laws.parts_of_texts.Goals as goal

pub returns : goal.returns
returns c = record { all = part_all; beside = part_neighbours }
