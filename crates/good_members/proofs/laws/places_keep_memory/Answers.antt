use Rattle.good_members.proofs.Kept.{places_keep_memory}
use Rattle.good_members.proofs.laws.places_keep_memory.Goals as goal

pub returns : goal.returns
returns c = places_keep_memory
