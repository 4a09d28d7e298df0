use Rattle.storage_map.proofs.OwnerLaws.{rows_belong}
use Rattle.storage_map.proofs.law.rows_belong_to_their_key.Goals as goal

pub returns : goal.returns
returns c = rows_belong
