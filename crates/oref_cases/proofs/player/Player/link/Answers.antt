use Rattle.std.proofs.Common.{arith, refl}
use Rattle.oref_table.specs.declared.fill.Fill.TheVariants.{To}
use Rattle.oref_cases.proofs.ParkedLaws.{held-for, parked-passed}
use Rattle.oref_cases.proofs.player.Player.link.Goals as goal

pub fill_slot-requires : goal.fill_slot-requires
fill_slot-requires c = held-for c.hold.new.self c.in_ok-held.held (let e = c.in_ok-held.ensures.outside in omega (arith, e))

pub invariant_of-self-2 : goal.invariant_of-self-2
invariant_of-self-2 c =
    parked-passed c.self.inside.table c.hold.new.self c.fill_slot.new.table c.self.inside.held.items (To c.in_ok-held.held) c.in_ok-held.held.number c.self.invariant refl c.in_ok-held.ensures.holds c.fill_slot.ensures
