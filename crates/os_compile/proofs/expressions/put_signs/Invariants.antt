use Rattle.std.proofs.Common.{◌≡◌, length}
use Rattle.os_compile.specs.Chains.{signs_code}
use Rattle.os_compile.proofs.expressions.put_signs.Given as goal

abbrev pub decreases-loop-sign : goal.decreases-loop-sign
decreases-loop-sign l = length l.rest

abbrev pub invariant-loop-sign : goal.invariant-loop-sign
invariant-loop-sign l = signs_code l.line l.rest l.out ≡ signs_code l.line l.signs l.fn.out
