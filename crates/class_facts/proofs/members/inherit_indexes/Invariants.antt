use Rattle.std.proofs.Common.{◌≡◌, drop, fold, filter_map, slice_get}
use Rattle.class_facts.specs.Spots.{gather_spots, HaveSameNames}
use Rattle.class_facts.proofs.members.inherit_indexes.Given as goal

abbrev pub invariant-loop-class : goal.invariant-loop-class
invariant-loop-class l =
    (fold (λ spots m. gather_spots spots m.indexes) l.pairs (filter_map (slice_get l.done) (drop l.class-index l.supers))
    ≡ fold (λ spots m. gather_spots spots m.indexes) l.initial.pairs (filter_map (slice_get l.done) l.supers)) × HaveSameNames l.names l.pairs
