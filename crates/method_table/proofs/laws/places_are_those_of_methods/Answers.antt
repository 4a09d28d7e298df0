use Rattle.method_table.proofs.Leading.{places_are_methods}
use Rattle.method_table.proofs.laws.places_are_those_of_methods.Goals as goal

pub returns : goal.returns
returns c = places_are_methods
