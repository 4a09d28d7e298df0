use Rattle.std.proofs.Common.{◌≡◌, map, reverse}
use Rattle.os_meaning.specs.Tree.{expr_of}
use Rattle.os_code.specs.Coding.{calls_code}
use Rattle.os_compile.proofs.arguments.put_calls.Given as goal

abbrev pub invariant-loop-call : goal.invariant-loop-call
invariant-loop-call l = l.out ≡ calls_code l.line (map expr_of (map (λ b. b.now) (reverse l.yielded))) l.fn.out
