use Rattle.linked_storage.proofs.ClassLaws.{linked_storable}
use Rattle.linked_storage.proofs.linked_classes_are_storable.Goals as goal

pub returns : goal.returns
returns c = linked_storable
