use Rattle.std.proofs.Common.{◌+◌, ap, drop, fold, filter_map, slice_get, ◌∙◌}
use Rattle.class_facts.specs.Spots.{add_spots}
use Rattle.class_facts.proofs.SpotLists.{fold-found}
use Rattle.class_facts.proofs.members.inherit_props.Goals as goal

pub loop-class-preserved : goal.loop-class-preserved
loop-class-preserved c =
    ap (λ t. fold (λ spots m. add_spots spots m.props) t (filter_map (slice_get c.args.done.now) (drop (c.loop-class.class-index + 1) c.args.supers.now)))
    c.in_ok-inherit_props_of.ensures
    ∙ fold-found (λ spots m. add_spots spots m.props) (slice_get c.args.done.now) c.loop-class.table c.args.supers.now c.loop-class.class-index 0 c.loop-class-test.true
    ∙ c.loop-class.invariant
