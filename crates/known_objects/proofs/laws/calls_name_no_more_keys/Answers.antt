use Rattle.known_objects.proofs.Changes.{calls_name}
use Rattle.known_objects.proofs.laws.calls_name_no_more_keys.Goals as goal

pub returns : goal.returns
returns c = calls_name
