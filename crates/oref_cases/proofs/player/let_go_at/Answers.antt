use Rattle.std.proofs.Common.{arith}
use Rattle.oref_cases.proofs.ParkedLaws.{parked-held, parked-less, parked-back}
use Rattle.oref_cases.proofs.player.let_go_at.Goals as goal

pub unpark-hold-requires : goal.unpark-hold-requires
unpark-hold-requires c = parked-held c.args.table.now c.args.held.now.items c.args.at c.remove-oref.result c.requires.parked c.remove-oref.ensures.value (omega (arith, c.requires.within))

pub let_go-requires : goal.let_go-requires
let_go-requires c = parked-back c.args.table.now c.unpark-hold.new.self c.args.held.now.items c.args.at c.remove-oref.result c.unpark-hold.result.number c.requires.parked c.remove-oref.ensures.value (omega (arith, c.requires.within)) c.unpark-hold.ensures.same c.unpark-hold.ensures.held

pub returns : goal.returns
returns c = parked-less c.args.table.now c.unpark-hold.new.self c.let_go.new.self c.args.held.now.items c.remove-oref.new.self.items c.args.at c.remove-oref.result c.unpark-hold.result.number c.requires.parked c.remove-oref.ensures.value (omega (arith, c.requires.within)) c.remove-oref.ensures.items c.unpark-hold.ensures.same c.unpark-hold.ensures.held c.let_go.ensures.holds
