use Rattle.std.proofs.Common.{◌∙◌}
use Rattle.oref_table.proofs.RowLaws.{seen-lookup}
use Rattle.oref_table.proofs.objects.Objects.get.Goals as goal

pub returns : goal.returns
returns c = c.get.ensures.value ∙ seen-lookup c.args.number c.self.inside.rows.entries c.args.self.now c.self.view_is
