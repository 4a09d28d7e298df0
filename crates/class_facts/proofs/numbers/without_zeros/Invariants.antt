use Rattle.std.proofs.Common.{◌≡◌, length}
use Rattle.class_facts.specs.Numbers.{skip_zeros}
use Rattle.class_facts.proofs.numbers.without_zeros.Given as goal

abbrev pub invariant-loop-digit : goal.invariant-loop-digit
invariant-loop-digit l = skip_zeros l.left ≡ skip_zeros l.digits

abbrev pub decreases-loop-digit : goal.decreases-loop-digit
decreases-loop-digit l = length l.left
