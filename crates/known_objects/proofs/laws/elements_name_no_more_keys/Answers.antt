use Rattle.known_objects.proofs.Sets.{elements_name}
use Rattle.known_objects.proofs.laws.elements_name_no_more_keys.Goals as goal

pub returns : goal.returns
returns c = elements_name
