use Rattle.linked_runs.proofs.Paired.{linked_sides_are_paired}
use Rattle.linked_runs.proofs.laws.linked_sides_are_paired.Goals as goal

pub returns : goal.returns
returns c = linked_sides_are_paired
