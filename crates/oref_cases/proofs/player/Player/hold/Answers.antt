use Rattle.oref_cases.proofs.ParkedLaws.{parked-more}
use Rattle.oref_cases.proofs.player.Player.hold.Goals as goal

pub invariant_of-self-2 : goal.invariant_of-self-2
invariant_of-self-2 c =
    parked-more c.self.inside.table c.hold.new.self c.park-parked.new.self c.self.inside.held.items c.reserve.new.self.items c.push_reserved.new.self.items c.park-parked.result c.in_ok-hold.hold.number
    c.self.invariant c.reserve.ensures.items c.push_reserved.ensures.items c.in_ok-hold.ensures.holds c.park-parked.ensures.oref c.park-parked.ensures.same
