use Rattle.linked_runs.proofs.Storable.{linked_schemas_are_storable}
use Rattle.linked_runs.proofs.laws.linked_schemas_are_storable.Goals as goal

pub returns : goal.returns
returns c = linked_schemas_are_storable
