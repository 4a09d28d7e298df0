use Rattle.std.proofs.Common.{◌≡◌, map, reverse, ◌+◌, length}
use Rattle.os_meaning.specs.Tree.{expr_of}
use Rattle.os_code.specs.Coding.{meets_code}
use Rattle.os_compile.proofs.conditions.put_tests.Given as goal

abbrev pub invariant-loop-condition : goal.invariant-loop-condition
invariant-loop-condition l = l.out ≡ meets_code l.line (length l.fn.out + 1) (map expr_of (map (λ b. b.now) (reverse l.yielded))) l.fn.out
