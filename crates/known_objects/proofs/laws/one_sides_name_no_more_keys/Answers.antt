use Rattle.known_objects.proofs.Sets.{sides_name}
use Rattle.known_objects.proofs.laws.one_sides_name_no_more_keys.Goals as goal

pub returns : goal.returns
returns c = sides_name
