use Rattle.std.proofs.Common.{◌≡◌, drop}
use Rattle.class_facts.specs.Facts.{seen}
use Rattle.class_checks.specs.Reasons.{inherited_spot}
use Rattle.class_checks.proofs.checks.find_inherited.Given as goal

abbrev pub invariant-loop-class : goal.invariant-loop-class
invariant-loop-class l = inherited_spot (seen l.hierarchy l.tables) l.name (drop l.class-index l.supers) ≡ inherited_spot (seen l.hierarchy l.tables) l.name l.supers
