use Rattle.world_images.proofs.ImageLaws.{entries_turn}
use Rattle.world_images.proofs.law.changes_turn_entries.Goals as goal

pub returns : goal.returns
returns c = entries_turn
