use Rattle.good_members.proofs.Kept.{entries_keep_memory}
use Rattle.good_members.proofs.laws.entries_keep_memory.Goals as goal

pub returns : goal.returns
returns c = entries_keep_memory
