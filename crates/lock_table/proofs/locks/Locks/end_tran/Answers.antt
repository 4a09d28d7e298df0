use Rattle.lock_table.proofs.TableLaws.{is_tran_ended}
use Rattle.lock_table.proofs.locks.Locks.end_tran.Goals as goal

pub returns : goal.returns
returns c = is_tran_ended c.args.self.now c.change_all.new.self c.args.pid c.change_all.ensures.held c.change_all.ensures.at
