use Rattle.linked_storage.proofs.ClassLaws.{linked_extents_even}
use Rattle.linked_storage.proofs.linked_extents_are_even.Goals as goal

pub returns : goal.returns
returns c = linked_extents_even
