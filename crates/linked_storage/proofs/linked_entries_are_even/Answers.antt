use Rattle.linked_storage.proofs.ClassLaws.{linked_even}
use Rattle.linked_storage.proofs.linked_entries_are_even.Goals as goal

pub returns : goal.returns
returns c = linked_even
