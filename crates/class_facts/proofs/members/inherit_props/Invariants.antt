use Rattle.std.proofs.Common.{◌≡◌, drop, fold, filter_map, slice_get}
use Rattle.class_facts.specs.Spots.{add_spots}
use Rattle.class_facts.proofs.members.inherit_props.Given as goal

abbrev pub invariant-loop-class : goal.invariant-loop-class
invariant-loop-class l =
    fold (λ spots m. add_spots spots m.props) l.table (filter_map (slice_get l.done) (drop l.class-index l.supers))
    ≡ fold (λ spots m. add_spots spots m.props) l.initial.table (filter_map (slice_get l.done) l.supers)
