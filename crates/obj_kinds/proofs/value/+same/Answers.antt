use Rattle.std.proofs.Common.{sym}
use Rattle.obj_kinds.proofs.ValueLaws.{lengths-apart}
use Rattle.obj_kinds.proofs.value.+same.Goals as goal

pub same_values-returns-then-left-right : goal.same_values-returns-then-left-right
same_values-returns-then-left-right t c = sym (lengths-apart c.args.left.now c.args.right.now c.if-left-right.true)
