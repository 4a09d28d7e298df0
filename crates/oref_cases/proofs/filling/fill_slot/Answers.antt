use Rattle.oref_cases.proofs.ParkedLaws.{slot-may}
use Rattle.oref_cases.proofs.filling.fill_slot.Goals as goal

pub put-requires-clause-place : goal.put-requires-clause-place
put-requires-clause-place c = slot-may c.args.table.now c.args.oref.0 c.args.slot c.args.with (c.has_slot.ensures c.if-not-has_slot.false)
