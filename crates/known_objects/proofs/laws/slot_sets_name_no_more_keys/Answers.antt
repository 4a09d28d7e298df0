use Rattle.known_objects.proofs.Changes.{slots_name}
use Rattle.known_objects.proofs.laws.slot_sets_name_no_more_keys.Goals as goal

pub returns : goal.returns
returns c = slots_name
