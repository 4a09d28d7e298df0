use Rattle.std.proofs.Common.{◌+◌, ap, drop, fold, filter_map, slice_get, ◌∙◌}
use Rattle.class_facts.specs.Spots.{gather_spots}
use Rattle.class_facts.proofs.SpotLists.{fold-found}
use Rattle.class_facts.proofs.members.inherit_indexes.Goals as goal

pub loop-class-preserved : goal.loop-class-preserved
loop-class-preserved c = (
  ap (λ t. fold (λ spots m. gather_spots spots m.indexes) t (filter_map (slice_get c.args.done.now) (drop (c.loop-class.class-index + 1) c.args.supers.now)))
      c.in_ok-inherit_indexes_of.ensures.gathered
      ∙ fold-found (λ spots m. gather_spots spots m.indexes) (slice_get c.args.done.now) c.loop-class.pairs c.args.supers.now c.loop-class.class-index 0 c.loop-class-test.true
      ∙ c.loop-class.invariant.0,
  c.in_ok-inherit_indexes_of.ensures.named,
)
