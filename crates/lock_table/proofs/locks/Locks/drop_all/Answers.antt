use Rattle.lock_table.proofs.TableLaws.{is_dropped}
use Rattle.lock_table.proofs.locks.Locks.drop_all.Goals as goal

pub returns : goal.returns
returns c = is_dropped c.args.self.now c.change_all.new.self c.args.pid c.change_all.ensures.held c.change_all.ensures.at
