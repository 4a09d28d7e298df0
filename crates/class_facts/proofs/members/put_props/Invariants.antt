use Rattle.std.proofs.Common.{◌≡◌, drop}
use Rattle.class_facts.specs.Trees.{prop_spots}
use Rattle.class_facts.specs.Spots.{put_spots}
use Rattle.class_facts.proofs.members.put_props.Given as goal

abbrev pub invariant-loop-place : goal.invariant-loop-place
invariant-loop-place l = put_spots l.table (prop_spots l.class l.place (drop l.place l.props)) ≡ put_spots l.initial.table (prop_spots l.class 0 l.props)
