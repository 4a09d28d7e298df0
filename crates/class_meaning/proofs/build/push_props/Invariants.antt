use Rattle.std.proofs.Common.{◌≡◌, ◌++◌, drop, filter_map, option_and_then}
use Rattle.class_facts.specs.Trees.{prop_at}
use Rattle.class_facts.specs.Facts.{seen}
use Rattle.class_meaning.specs.Meaning.{prop_of}
use Rattle.class_meaning.proofs.build.push_props.Given as goal

abbrev pub invariant-loop-spot : goal.invariant-loop-spot
invariant-loop-spot l =
    l.props ++ filter_map (λ s. option_and_then (prop_of (seen l.hierarchy l.tables)) (prop_at l.trees s)) (drop l.spot-index l.spots)
    ≡ l.initial.props ++ filter_map (λ s. option_and_then (prop_of (seen l.hierarchy l.tables)) (prop_at l.trees s)) l.spots
