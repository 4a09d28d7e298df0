use Rattle.std.proofs.Common.{rules}
use Rattle.save_set.proofs.Parts.{old_modified}
use Rattle.save_set.proofs.modified.is_modified.Goals as goal

pub returns-else-is_none-2 : goal.returns-else-is_none-2
returns-else-is_none-2 c =
    old_modified c.args.of.now.schema.now c.args.of.now.table.now c.args.oref.0 c.in-Some.obj.now (search rules) (search rules) (search rules) c.is_marked.result c.is_marked.ensures
