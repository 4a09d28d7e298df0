use Rattle.std.proofs.Common.{◌≡◌, ◌+◌, ◌≤◌, map, reverse, length, take, drop}
use Rattle.os_meaning.specs.Tree.{exprs, expr_of}
use Rattle.os_code.specs.Coding.{args_code, subs_code, steps_code}
use Rattle.os_compile.specs.Chains.{member_of, operation_of, members_code, operations_code}
use Rattle.os_compile.proofs.expressions.+expressions.Given as goal

abbrev pub invariant-put_arguments-loop-arg : goal.invariant-put_arguments-loop-arg
invariant-put_arguments-loop-arg l = l.out ≡ args_code l.line (exprs (map expr_of (map (λ b. b.now) (reverse l.yielded)))) l.fn.out

abbrev pub invariant-put_subscripts-loop-sub : goal.invariant-put_subscripts-loop-sub
invariant-put_subscripts-loop-sub l =
    (l.out ≡ subs_code l.line l.others (exprs (map expr_of (map (λ b. b.now) (reverse l.yielded)))) l.fn.out) × (l.others + length l.yielded ≡ length l.subs)

abbrev pub invariant-put_members-loop-at : goal.invariant-put_members-loop-at
invariant-put_members-loop-at l =
    (members_code l.line l.receiver l.next (map member_of (take l.at l.members)) l.out ≡ members_code l.line l.receiver l.method (map member_of l.members) l.fn.out) × (l.at ≤ length l.members)

abbrev pub decreases-put_members-loop-at : goal.decreases-put_members-loop-at
decreases-put_members-loop-at l = l.at

abbrev pub invariant-put_operations-loop-operation : goal.invariant-put_operations-loop-operation
invariant-put_operations-loop-operation l = l.out ≡ operations_code l.line (map operation_of (map (λ b. b.now) (reverse l.yielded))) l.fn.out

abbrev pub invariant-put_steps-loop-at : goal.invariant-put_steps-loop-at
invariant-put_steps-loop-at l = (l.out ≡ steps_code l.line l.at (exprs (map expr_of (drop l.at l.subs))) l.fn.out) × (l.at ≤ length l.subs) × (l.count ≡ length l.subs)

abbrev pub decreases-put_steps-loop-at : goal.decreases-put_steps-loop-at
decreases-put_steps-loop-at l = l.at
