use Rattle.std.proofs.Common.{◌≡◌, map, reverse, ◌-◌, ◌≤◌, length}
use Rattle.os_meaning.specs.Tree.{expr_of}
use Rattle.os_code.specs.Coding.{chooses_code}
use Rattle.os_compile.proofs.conditions.put_choices.Given as goal

abbrev pub invariant-loop-condition : goal.invariant-loop-condition
invariant-loop-condition l = (l.out ≡ chooses_code l.line (length l.fn.out - l.miss) (map expr_of (map (λ b. b.now) (reverse l.yielded))) l.fn.out) × (l.miss ≤ length l.out)
