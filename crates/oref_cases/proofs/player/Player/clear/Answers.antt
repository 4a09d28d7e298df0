use Rattle.oref_cases.proofs.ParkedLaws.{nothing-for, parked-kept}
use Rattle.oref_cases.proofs.player.Player.clear.Goals as goal

pub fill_slot-requires : goal.fill_slot-requires
fill_slot-requires c = nothing-for c.self.inside.table

pub invariant_of-self : goal.invariant_of-self
invariant_of-self c = parked-kept c.self.inside.table c.fill_slot.new.table c.self.inside.held.items c.self.invariant c.fill_slot.ensures
