use Rattle.std.proofs.Common.{◌≡◌, ◌+◌, ◌-◌, ◌<◌, ◌∷◌, map, reverse, length, take, drop, ℕ, sym, ap, ◌∙◌, arith}
use Rattle.os_meaning.specs.Tree.{exprs, expr_of}
use Rattle.os_code.specs.declared.instruction.Instruction.TheVariants as i
use Rattle.os_compile.specs.Steps.{step_at}
use Rattle.os_code.specs.Coding.{expr_code, args_code, subs_code, steps_code}
use Rattle.os_compile.specs.Chains.{member_of, is_method, members_code, operation_of, operation_code, operations_code}
use Rattle.os_compile.proofs.Loops.{all_yielded, count_yielded, some_left, one_more, made}
use Rattle.os_compile.proofs.Chains.{code_before_other, member_step}
use Rattle.os_compile.proofs.Steps.{method_is, step_there, right_longer}
use Rattle.os_compile.proofs.expressions.+expressions.Goals as goal

pub put_arguments-returns : goal.put_arguments-returns
put_arguments-returns t c =
    let all : map (λ b. b.now) (reverse c.loop-arg.yielded) ≡ c.args.args.now = all_yielded c.args.args.now c.loop-arg.yielded _ _ _ (cc) c.loop-arg.yielded_by c.in-None.ensures.steps in
    c.loop-arg.invariant ∙ ap (λ xs. args_code c.args.line (exprs (map expr_of xs)) c.args.out.now) all

pub put_arguments-loop-arg-preserved : goal.put_arguments-loop-arg-preserved
put_arguments-loop-arg-preserved t c =
    c.in_ok-put_expression.ensures
    ∙ ap (λ l. expr_code c.args.line (expr_of c.in-Some.arg.now) l) c.loop-arg.invariant
    ∙ sym (ap (λ xs. args_code c.args.line (exprs xs) c.args.out.now) (one_more expr_of c.loop-arg.yielded c.in-Some.arg))

pub put_subscripts-returns : goal.put_subscripts-returns
put_subscripts-returns t c =
    let all : map (λ b. b.now) (reverse c.loop-sub.yielded) ≡ c.args.subs.now = all_yielded c.args.subs.now c.loop-sub.yielded _ _ _ (cc) c.loop-sub.yielded_by c.in-None.ensures.steps in
    let none : c.loop-sub.others ≡ 0 = omega (arith, c.loop-sub.invariant.1, count_yielded c.args.subs.now c.loop-sub.yielded all) in
    c.loop-sub.invariant.0 ∙ ap (λ k. subs_code c.args.line k (exprs (map expr_of (map (λ b. b.now) (reverse c.loop-sub.yielded)))) c.args.out.now) none
    ∙ ap (λ xs. subs_code c.args.line 0 (exprs (map expr_of xs)) c.args.out.now) all

pub put_subscripts-overflow_sub-others : goal.put_subscripts-overflow_sub-others
put_subscripts-overflow_sub-others t c =
    let left = some_left c.args.subs.now c.loop-sub.yielded c.in-Some.sub _ _ c.next.new.self (cc) c.loop-sub.yielded_by c.in-Some.ensures.steps in
    omega (arith, left, c.loop-sub.invariant.1)

pub put_operations-returns : goal.put_operations-returns
put_operations-returns t c =
    let all : map (λ b. b.now) (reverse c.loop-operation.yielded) ≡ c.args.operations.now = all_yielded c.args.operations.now c.loop-operation.yielded _ _ _ (cc) c.loop-operation.yielded_by c.in-None.ensures.steps in
    c.loop-operation.invariant ∙ ap (λ xs. operations_code c.args.line (map operation_of xs) c.args.out.now) all

pub put_operations-loop-operation-preserved : goal.put_operations-loop-operation-preserved
put_operations-loop-operation-preserved t c =
    c.in_ok-put_operation.ensures
    ∙ ap (λ l. operation_code c.args.line (operation_of c.in-Some.operation.now).operator (operation_of c.in-Some.operation.now).right l) c.loop-operation.invariant
    ∙ sym (ap (λ xs. operations_code c.args.line xs c.args.out.now) (one_more operation_of c.loop-operation.yielded c.in-Some.operation))

pub put_expression-returns : goal.put_expression-returns
put_expression-returns t c = made c.put_before.result c.put_before.new.out _ _ c.put_before.ensures (code_before_other c.args.line (expr_of c.args.expression.now) c.args.out.now)

pub put_members-returns : goal.put_members-returns
put_members-returns t c =
    let none : c.loop-at.at ≡ 0 = omega arith in
    ap (λ k. members_code c.args.line c.args.receiver.now c.loop-at.next (map member_of (take k c.args.members.now)) c.loop-at.out) (sym none) ∙ c.loop-at.invariant.0

pub put_members-loop-at-preserved : goal.put_members-loop-at-preserved
put_members-loop-at-preserved t c =
    let at : ℕ = c.loop-at.at - 1 in
    let within : at < length c.args.members.now = omega arith in
    let more : c.loop-at.at ≡ at + 1 = omega arith in
    let there = c.index-members-at.is in
    let given : c.is_some-next.result ≡ is_method (member_of c.index-members-at.result) = c.is_some-next.ensures ∙ method_is c.index-members-at.result in (
      ap (λ l. members_code c.args.line c.args.receiver.now c.is_some-next.result (map member_of (take at c.args.members.now)) l) c.in_ok-put_member.ensures
          ∙ member_step c.args.line c.args.receiver.now c.in_ok-before.before c.loop-at.next c.is_some-next.result c.args.members.now at c.loop-at.at c.index-members-at.result c.loop-at.out within more there c.in_ok-before.ensures given
          ∙ c.loop-at.invariant.0,
      omega arith,
    )

pub put_steps-loop-at-preserved : goal.put_steps-loop-at-preserved
put_steps-loop-at-preserved t c =
    let at : ℕ = c.loop-at.at - 1 in
    let within : at < length c.args.subs.now = omega arith in
    let more : at + 1 ≡ c.loop-at.at = omega arith in
    let there = c.index-subs-at.is in (
      c.in_ok-put_expression.ensures
          ∙ ap (λ l. expr_code c.args.line (expr_of c.index-subs-at.result) l)
          (c.in_ok-put_step_test.ensures
          ∙ ap (λ n. step_at c.args.line at n ∷ c.loop-at.out) c.loop-at.invariant.2
          ∙ ap (λ l. step_at c.args.line at (length c.args.subs.now) ∷ l) (c.loop-at.invariant.0 ∙ ap (λ k. steps_code c.args.line k (exprs (map expr_of (drop k c.args.subs.now))) c.args.out.now) (sym more)))
          ∙ step_there c.args.line at c.args.subs.now c.index-subs-at.result c.args.out.now within there,
      omega arith,
      c.loop-at.invariant.2,
    )

pub put_truth-overflow_sub-size : goal.put_truth-overflow_sub-size
put_truth-overflow_sub-size t c =
    let put : c.put_expression.new.out ≡ expr_code c.args.line (expr_of c.args.right.now) (i.Truth c.args.line ∷ i.DropUnder ∷ i.Go 1 ∷ c.args.out.now) =
    c.in_ok-put_expression.ensures ∙ ap (λ l. expr_code c.args.line (expr_of c.args.right.now) l) (c.in_ok-put-3.ensures ∙ ap (λ l. i.Truth c.args.line ∷ l) (c.in_ok-put-2.ensures ∙ ap (λ l. i.DropUnder ∷ l) c.in_ok-put.ensures)) in
    omega (arith, right_longer c.args.line (expr_of c.args.right.now) c.args.out.now c.put_expression.new.out put, c.len-behind.ensures, c.len.ensures)

pub put_truth-returns-clause-size : goal.put_truth-returns-clause-size
put_truth-returns-clause-size t c =
    let put : c.put_expression.new.out ≡ expr_code c.args.line (expr_of c.args.right.now) (i.Truth c.args.line ∷ i.DropUnder ∷ i.Go 1 ∷ c.args.out.now) =
    c.in_ok-put_expression.ensures ∙ ap (λ l. expr_code c.args.line (expr_of c.args.right.now) l) (c.in_ok-put-3.ensures ∙ ap (λ l. i.Truth c.args.line ∷ l) (c.in_ok-put-2.ensures ∙ ap (λ l. i.DropUnder ∷ l) c.in_ok-put.ensures)) in
    omega (arith, right_longer c.args.line (expr_of c.args.right.now) c.args.out.now c.put_expression.new.out put, c.len-behind.ensures, c.len.ensures)
