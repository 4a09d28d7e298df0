use Rattle.linked_names.proofs.Distinct.{linked_indexes_differ}
use Rattle.linked_names.proofs.laws.linked_indexes_differ.Goals as goal

pub returns : goal.returns
returns c = linked_indexes_differ
