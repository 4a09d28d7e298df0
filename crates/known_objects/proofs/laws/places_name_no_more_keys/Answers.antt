use Rattle.known_objects.proofs.Changes.{places_name}
use Rattle.known_objects.proofs.laws.places_name_no_more_keys.Goals as goal

pub returns : goal.returns
returns c = places_name
