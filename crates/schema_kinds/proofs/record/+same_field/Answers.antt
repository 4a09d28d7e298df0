use Rattle.std.proofs.Common.{sym}
use Rattle.schema_kinds.proofs.FieldLaws.{lengths-apart, pairs-apart}
use Rattle.schema_kinds.proofs.record.+same_field.Goals as goal

pub same_fields-returns-then-left-right : goal.same_fields-returns-then-left-right
same_fields-returns-then-left-right t c = sym (lengths-apart c.args.left.now c.args.right.now c.if-left-right.true)

pub same_pairs-returns-then-left-right : goal.same_pairs-returns-then-left-right
same_pairs-returns-then-left-right t c = sym (pairs-apart c.args.left.now c.args.right.now c.if-left-right.true)
