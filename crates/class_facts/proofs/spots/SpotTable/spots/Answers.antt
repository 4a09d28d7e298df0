use Rattle.std.proofs.Common.{◌++◌, ap, option_to_list, slice_get, ◌∙◌}
use Rattle.class_facts.specs.Trees.{spots_in}
use Rattle.class_facts.proofs.SpotLists.{take-turn}
use Rattle.class_facts.proofs.spots.SpotTable.spots.Goals as goal

pub loop-place-preserved : goal.loop-place-preserved
loop-place-preserved c =
    c.in_ok-push_spot.ensures ∙ ap (λ spots. spots ++ option_to_list (slice_get (spots_in c.args.self.now) c.loop-place.place)) c.loop-place.invariant
    ∙ take-turn (spots_in c.args.self.now) c.loop-place.place
