use Rattle.std.proofs.Common.{◌≡◌, map, reverse}
use Rattle.os_meaning.specs.Tree.{output_of}
use Rattle.os_code.specs.Coding.{writes_code}
use Rattle.os_compile.proofs.arguments.put_outputs.Given as goal

abbrev pub invariant-loop-output : goal.invariant-loop-output
invariant-loop-output l = l.out ≡ writes_code l.line (map output_of (map (λ b. b.now) (reverse l.yielded))) l.fn.out
