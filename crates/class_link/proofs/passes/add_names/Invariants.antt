use Rattle.std.proofs.Common.{◌≡◌, ◌++◌, drop}
use Rattle.schema_kinds.specs.Hierarchy.{names_of}
use Rattle.class_link.specs.Passes.{first_repeated}
use Rattle.class_link.proofs.passes.add_names.Given as goal

abbrev pub invariant-loop-class : goal.invariant-loop-class
invariant-loop-class l =
    (l.names ++ names_of (drop l.class l.headers) ≡ l.initial.names ++ names_of l.headers)
    × (first_repeated l.class l.names (names_of (drop l.class l.headers)) ≡ first_repeated 0 l.initial.names (names_of l.headers))
