use Rattle.std.proofs.Common.{◌≡◌, ◌++◌, drop, filter_map, option_and_then}
use Rattle.class_facts.specs.Trees.{prop_at}
use Rattle.class_facts.specs.Facts.{seen}
use Rattle.class_checks.specs.Reasons.{part_of}
use Rattle.class_checks.proofs.climbing.find_parts.Given as goal

abbrev pub invariant-loop-spot : goal.invariant-loop-spot
invariant-loop-spot l =
    l.parts ++ filter_map (λ s. option_and_then (part_of (seen l.hierarchy l.tables)) (prop_at l.trees s)) (drop l.spot-index l.spots)
    ≡ filter_map (λ s. option_and_then (part_of (seen l.hierarchy l.tables)) (prop_at l.trees s)) l.spots
