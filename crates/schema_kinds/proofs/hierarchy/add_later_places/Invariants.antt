use Rattle.std.proofs.Common.{◌≡◌, ◌++◌, drop}
use Rattle.schema_kinds.specs.Hierarchy.{later_places}
use Rattle.schema_kinds.proofs.hierarchy.add_later_places.Given as goal

abbrev pub invariant-loop-name : goal.invariant-loop-name
invariant-loop-name l = l.places ++ later_places l.names (drop l.name-index l.supers) ≡ l.initial.places ++ later_places l.names l.supers
