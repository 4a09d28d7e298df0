use Rattle.std.proofs.Common.{sym, subst}
use Rattle.process_core.specs.Left.{Settles}
use Rattle.process_core.proofs.Turns.{stores_replied, locks_replied}
use Rattle.process_core.proofs.process.Proc.take_reply.Goals as goal

pub returns-in-Stores-clause-takes : goal.returns-in-Stores-clause-takes
returns-in-Stores-clause-takes c =
    subst (λ x. Settles x c.settle.new.self) (stores_replied c.args.self.now c.in-Stores.moved (sym c.in-Stores.ensures.value) c.args.reply c.put_level.new.kept c.put_level.ensures) c.settle.ensures.takes

pub returns-in-Locks-clause-takes : goal.returns-in-Locks-clause-takes
returns-in-Locks-clause-takes c =
    subst (λ x. Settles x c.take_lock.new.self) (locks_replied c.args.self.now c.in-Locks.claim (sym c.in-Locks.ensures.value) c.args.reply) c.take_lock.ensures.takes
