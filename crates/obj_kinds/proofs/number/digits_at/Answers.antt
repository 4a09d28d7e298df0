use Rattle.std.proofs.Common.{arith}
use Rattle.std.proofs.lemmas.Grind.{common_steps}
use Rattle.obj_kinds.proofs.NumberLaws.{digits_from-grows}
use Rattle.obj_kinds.proofs.number.digits_at.Goals as goal

pub returns-then-value-ge-TOO_LARGE-clause-err : goal.returns-then-value-ge-TOO_LARGE-clause-err
returns-then-value-ge-TOO_LARGE-clause-err c = grind (arith, common_steps, digits_from-grows)
