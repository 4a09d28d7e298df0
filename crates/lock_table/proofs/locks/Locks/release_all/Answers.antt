use Rattle.lock_table.proofs.TableLaws.{is_given_back}
use Rattle.lock_table.proofs.locks.Locks.release_all.Goals as goal

pub returns : goal.returns
returns c = is_given_back c.args.self.now c.change_all.new.self c.args.pid c.change_all.ensures.held c.args.owner c.args.in_tran c.change_all.ensures.at
