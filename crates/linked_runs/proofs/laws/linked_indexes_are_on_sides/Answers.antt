use Rattle.linked_runs.proofs.OnSide.{linked_indexes_are_on_sides}
use Rattle.linked_runs.proofs.laws.linked_indexes_are_on_sides.Goals as goal

pub returns : goal.returns
returns c = linked_indexes_are_on_sides
