use Rattle.linked_shapes.proofs.Whole.{linked_whole}
use Rattle.linked_shapes.proofs.laws.linked_schemas_are_whole.Goals as goal

pub returns : goal.returns
returns c = linked_whole
