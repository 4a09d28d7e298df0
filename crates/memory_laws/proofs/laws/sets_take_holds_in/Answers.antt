use Rattle.memory_laws.proofs.Keeping.{slot_sets_keep}
use Rattle.memory_laws.proofs.laws.sets_take_holds_in.Goals as goal

pub returns : goal.returns
returns c = slot_sets_keep
