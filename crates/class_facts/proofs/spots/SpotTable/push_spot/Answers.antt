use Rattle.std.proofs.Common.{slice_get, ap, ◌∙◌}
use Rattle.class_facts.proofs.SpotLists.{no-spot}
use Rattle.class_facts.proofs.spots.SpotTable.push_spot.Goals as goal

pub returns-in-None : goal.returns-in-None
returns-in-None c = no-spot c.args.self.now c.args.place c.args.spots.now (c.in-None.ensures.entry ∙ ap (λ es. slice_get es c.args.place) c.self.view_is)
