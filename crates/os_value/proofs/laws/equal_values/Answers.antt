use Rattle.os_value.proofs.EqualLaws.{equal_values}
use Rattle.os_value.proofs.laws.equal_values.Goals as goal

pub returns : goal.returns
returns c = equal_values
