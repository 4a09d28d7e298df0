use Rattle.std.proofs.Common.{◌≡◌, map}
use Rattle.class_facts.specs.Facts.{seen, count_from}
use Rattle.class_checks.specs.Reasons.{parts_in}
use Rattle.class_checks.proofs.parts.find_part_links.Given as goal

abbrev pub invariant-loop-class : goal.invariant-loop-class
invariant-loop-class l = l.links ≡ map (parts_in l.trees (seen l.hierarchy l.tables)) (count_from 0 l.class)
