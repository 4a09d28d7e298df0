use Rattle.storage_map.proofs.OwnerLaws.{keys_apart}
use Rattle.storage_map.proofs.law.keys_are_apart.Goals as goal

pub returns : goal.returns
returns c = keys_apart
