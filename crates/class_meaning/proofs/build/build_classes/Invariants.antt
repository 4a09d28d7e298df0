use Rattle.std.proofs.Common.{◌≡◌, ◌++◌, drop}
use Rattle.class_facts.specs.Facts.{seen}
use Rattle.class_meaning.specs.Meaning.{classes_from, classes_of}
use Rattle.class_meaning.proofs.build.build_classes.Given as goal

abbrev pub invariant-loop-place : goal.invariant-loop-place
invariant-loop-place l =
    l.classes ++ classes_from l.trees (seen l.hierarchy l.tables) l.place (drop l.place l.trees) ≡ classes_of l.trees (seen l.hierarchy l.tables)
