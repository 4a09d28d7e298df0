use Rattle.known_objects.proofs.Sets.{writes_name}
use Rattle.known_objects.proofs.laws.writes_name_no_more_keys.Goals as goal

pub returns : goal.returns
returns c = writes_name
