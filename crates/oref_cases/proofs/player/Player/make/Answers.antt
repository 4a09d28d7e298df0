use Rattle.oref_cases.proofs.ParkedLaws.{parked-more}
use Rattle.oref_cases.proofs.player.Player.make.Goals as goal

pub invariant_of-self-2 : goal.invariant_of-self-2
invariant_of-self-2 c =
    parked-more c.self.inside.table c.make.new.self c.park-oref.new.self c.self.inside.held.items c.reserve.new.self.items c.push_reserved.new.self.items c.park-oref.result c.in_ok-made.made.number
    c.self.invariant c.reserve.ensures.items c.push_reserved.ensures.items c.in_ok-made.ensures.holds c.park-oref.ensures.oref c.park-oref.ensures.same
