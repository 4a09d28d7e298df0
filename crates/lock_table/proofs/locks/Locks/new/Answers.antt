use Rattle.lock_table.proofs.TableLaws.{holds_of_none}
use Rattle.lock_table.proofs.locks.Locks.new.Goals as goal

pub returns : goal.returns
returns c = holds_of_none _ c.new.ensures.empty
