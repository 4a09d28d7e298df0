use Rattle.oref_table.proofs.ElementLaws.{filled-in-order}
use Rattle.oref_table.proofs.laws.elements_stay_in_order.Goals as goal

pub returns : goal.returns
returns c = filled-in-order
