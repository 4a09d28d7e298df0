use Rattle.std.proofs.Common.{◌≡◌, [], ◌∷◌, map, reverse, sym, ap, ◌∙◌, ◌-◌, ◌≤◌, length}
use Rattle.os_meaning.specs.Tree.{expr_of}
use Rattle.os_code.specs.Coding.{chooses_code}
use Rattle.os_compile.proofs.Blocks.{choice_put, choice_longer}
use Rattle.os_compile.proofs.Loops.{all_yielded, one_more}
use Rattle.os_compile.proofs.conditions.put_choices.Goals as goal

pub returns : goal.returns
returns c =
    let all : map (λ b. b.now) (reverse c.loop-condition.yielded) ≡ c.args.conditions.now = all_yielded c.args.conditions.now c.loop-condition.yielded _ _ _ (cc) c.loop-condition.yielded_by c.in-None.ensures.steps in
    c.loop-condition.invariant.0 ∙ ap (λ xs. chooses_code c.args.line (length c.args.out.now - c.args.miss) (map expr_of (xs)) c.args.out.now) all

pub loop-condition-preserved : goal.loop-condition-preserved
loop-condition-preserved c = (
  c.in_ok-put_choice.ensures
      ∙ choice_put c.args.line c.args.miss (expr_of c.in-Some.condition.now) (map expr_of (map (λ b. b.now) (reverse c.loop-condition.yielded))) c.args.out.now c.loop-condition.out c.requires c.loop-condition.invariant.0
      ∙ sym (ap (λ xs. chooses_code c.args.line (length c.args.out.now - c.args.miss) xs c.args.out.now) (one_more expr_of c.loop-condition.yielded c.in-Some.condition)),
  choice_longer c.args.line _ c.args.miss (expr_of c.in-Some.condition.now) c.loop-condition.out _ c.in_ok-put_choice.ensures c.loop-condition.invariant.1,
)
