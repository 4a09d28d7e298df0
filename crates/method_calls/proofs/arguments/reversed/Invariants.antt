use Rattle.std.proofs.Common.{◌≡◌, ◌++◌, reverse, length}
use Rattle.method_calls.proofs.arguments.reversed.Given as goal

-- what was taken, and then what is left from its end on
abbrev pub invariant-loop-value : goal.invariant-loop-value
invariant-loop-value l = l.turned ++ reverse l.values ≡ reverse l.fn.values

abbrev pub decreases-loop-value : goal.decreases-loop-value
decreases-loop-value l = length l.values
