use Rattle.oref_cases.proofs.ParkedLaws.{parked-cleared}
use Rattle.oref_cases.proofs.player.Player.clear_released.Goals as goal

pub invariant_of-self : goal.invariant_of-self
invariant_of-self c = parked-cleared c.self.inside.table c.clear_released.new.self c.self.inside.held.items c.self.invariant c.clear_released.ensures
