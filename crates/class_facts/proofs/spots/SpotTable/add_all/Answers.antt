use Rattle.std.proofs.Common.{ap, option_to_list, slice_get, ◌∙◌}
use Rattle.class_facts.specs.Spots.{add_spot, add_spots}
use Rattle.class_facts.proofs.SpotLists.{fold-turn}
use Rattle.class_facts.proofs.spots.SpotTable.add_all.Goals as goal

pub loop-place-preserved : goal.loop-place-preserved
loop-place-preserved c =
    c.in_ok-add_from.ensures ∙ ap (λ s. add_spots s (option_to_list (slice_get c.args.other.now c.loop-place.place))) c.loop-place.invariant
    ∙ fold-turn add_spot c.args.self.now c.args.other.now c.loop-place.place
