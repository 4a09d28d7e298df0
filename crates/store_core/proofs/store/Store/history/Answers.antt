use Rattle.store_core.proofs.StoreLaws.{sound_is, history_within}
use Rattle.store_core.proofs.store.Store.history.Goals as goal

pub returns-clause-sound : goal.returns-clause-sound
returns-clause-sound c = sound_is c.self.invariant c.args.self.now c.self.view_is

pub returns-clause-limits : goal.returns-clause-limits
returns-clause-limits c = history_within c.self.invariant c.args.self.now c.self.view_is
