use Rattle.std.proofs.Common.{ap, ◌∙◌}
use Rattle.indexmap.specs.IndexMap.{insert_entry}
use Rattle.obj_kinds.specs.Texts.{same_text}
use Rattle.method_table.proofs.Tables.{put_new}
use Rattle.method_table.proofs.table.PlaceTable.put.Goals as goal

pub returns-in_ok-put_new-in-None : goal.returns-in_ok-put_new-in-None
returns-in_ok-put_new-in-None c =
    c.in_ok-put_new-in-None.ensures ∙ ap (λ n. insert_entry same_text c.args.self.now n c.args.place) c.in_ok-copy-in-None.ensures
    ∙ put_new c.args.self.now c.args.name.now c.args.place c.in-None.ensures
