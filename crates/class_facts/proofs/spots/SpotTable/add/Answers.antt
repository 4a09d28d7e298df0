use Rattle.std.proofs.Common.{ap, ◌∙◌}
use Rattle.class_facts.specs.Spots.{put_spot}
use Rattle.class_facts.proofs.SpotLists.{put-new}
use Rattle.class_facts.proofs.spots.SpotTable.add.Goals as goal

pub returns-in_ok-put-in-None : goal.returns-in_ok-put-in-None
returns-in_ok-put-in-None c =
    c.in_ok-put-in-None.ensures ∙ ap (λ n. put_spot c.args.self.now (n, c.args.spot)) c.in_ok-copy-in-None.ensures
    ∙ put-new c.args.self.now c.args.name.now c.args.spot c.in-None.ensures
