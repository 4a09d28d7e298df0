use Rattle.std.proofs.Common.{◌≡◌, map, reverse}
use Rattle.os_meaning.specs.Tree.{assignment_of}
use Rattle.os_code.specs.Coding.{assigns_code}
use Rattle.os_compile.proofs.assignments.put_assignments.Given as goal

abbrev pub invariant-loop-assignment : goal.invariant-loop-assignment
invariant-loop-assignment l = l.out ≡ assigns_code l.line (map assignment_of (map (λ b. b.now) (reverse l.yielded))) l.fn.out
