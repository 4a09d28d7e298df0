use Rattle.std.proofs.Common.{◌≡◌, [], ◌∷◌, map, reverse, sym, ap, ◌∙◌, ◌+◌, length}
use Rattle.os_meaning.specs.Tree.{expr_of}
use Rattle.os_code.specs.Coding.{meets_code}
use Rattle.os_compile.proofs.Blocks.{test_put}
use Rattle.os_compile.proofs.Loops.{all_yielded, one_more}
use Rattle.os_compile.proofs.conditions.put_tests.Goals as goal

pub returns : goal.returns
returns c =
    let all : map (λ b. b.now) (reverse c.loop-condition.yielded) ≡ c.args.conditions.now = all_yielded c.args.conditions.now c.loop-condition.yielded _ _ _ (cc) c.loop-condition.yielded_by c.in-None.ensures.steps in
    c.loop-condition.invariant ∙ ap (λ xs. meets_code c.args.line (length c.args.out.now + 1) (map expr_of (xs)) c.args.out.now) all

pub loop-condition-preserved : goal.loop-condition-preserved
loop-condition-preserved c =
    c.in_ok-put_condition.ensures
    ∙ test_put c.args.line c.distance-jump.result (expr_of c.in-Some.condition.now) (map expr_of (map (λ b. b.now) (reverse c.loop-condition.yielded))) c.args.out.now c.loop-condition.out c.loop-condition.invariant c.distance-jump.ensures
    ∙ sym (ap (λ xs. meets_code c.args.line (length c.args.out.now + 1) xs c.args.out.now) (one_more expr_of c.loop-condition.yielded c.in-Some.condition))
