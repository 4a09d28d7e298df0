use Rattle.obj_kinds.proofs.IdTexts.{part_of_bits}
use Rattle.obj_kinds.proofs.id.part_at.Goals as goal

pub returns-clause-part : goal.returns-clause-part
returns-clause-part c = part_of_bits c.in_ok-number.number _ c.unsigned_abs.result c.in_ok-number.ensures c.unsigned_abs.ensures.value c.if-number-lt1.false
