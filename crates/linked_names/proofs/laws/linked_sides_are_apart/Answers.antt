use Rattle.linked_names.proofs.Apart.{linked_sides_are_apart}
use Rattle.linked_names.proofs.laws.linked_sides_are_apart.Goals as goal

pub returns : goal.returns
returns c = linked_sides_are_apart
