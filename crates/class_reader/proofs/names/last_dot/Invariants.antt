use Rattle.std.proofs.Common.{◌≡◌, ◌≤◌, length}
use Rattle.class_reader.specs.ClassNames.{last_dot}
use Rattle.class_reader.proofs.names.last_dot.Given as goal

abbrev pub invariant-loop-n : goal.invariant-loop-n
invariant-loop-n l = (last_dot l.n l.name ≡ last_dot (length l.name) l.name) × (l.n ≤ length l.name)

abbrev pub decreases-loop-n : goal.decreases-loop-n
decreases-loop-n l = l.n
