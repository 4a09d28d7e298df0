use Rattle.std.proofs.Common.{◌≡◌, map, reverse}
use Rattle.os_meaning.specs.Tree.{place_of}
use Rattle.os_code.specs.Coding.{kills_code}
use Rattle.os_compile.proofs.arguments.put_kills.Given as goal

abbrev pub invariant-loop-place : goal.invariant-loop-place
invariant-loop-place l = l.out ≡ kills_code l.line (map place_of (map (λ b. b.now) (reverse l.yielded))) l.fn.out
