use Rattle.os_value.proofs.ListLaws.{counted}
use Rattle.os_value.proofs.laws.lists_of_items.Goals as goal

pub returns : goal.returns
returns c = counted
