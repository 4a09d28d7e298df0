use Rattle.std.proofs.Common.{◌≡◌, [], ◌∷◌, map, reverse, sym, ap, ◌∙◌}
use Rattle.os_meaning.specs.Tree.{expr_of}
use Rattle.os_code.specs.Coding.{calls_code}
use Rattle.os_compile.proofs.Loops.{all_yielded, one_more}
use Rattle.os_compile.proofs.arguments.put_calls.Goals as goal

pub returns : goal.returns
returns c =
    let all : map (λ b. b.now) (reverse c.loop-call.yielded) ≡ c.args.calls.now = all_yielded c.args.calls.now c.loop-call.yielded _ _ _ (cc) c.loop-call.yielded_by c.in-None.ensures.steps in
    c.loop-call.invariant ∙ ap (λ xs. calls_code c.args.line (map expr_of (xs)) c.args.out.now) all

pub loop-call-preserved : goal.loop-call-preserved
loop-call-preserved c =
    c.in_ok-put_call.ensures
    ∙ ap (λ l. calls_code c.args.line (expr_of c.in-Some.call.now ∷ []) l) c.loop-call.invariant
    ∙ sym (ap (λ xs. calls_code c.args.line xs c.args.out.now) (one_more expr_of c.loop-call.yielded c.in-Some.call))
