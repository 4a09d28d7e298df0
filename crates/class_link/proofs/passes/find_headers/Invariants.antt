use Rattle.std.proofs.Common.{◌≡◌, take}
use Rattle.class_facts.specs.Trees.{headers_of}
use Rattle.class_link.proofs.passes.find_headers.Given as goal

abbrev pub invariant-loop-tree : goal.invariant-loop-tree
invariant-loop-tree l = l.headers ≡ headers_of (take l.tree-index l.trees)
