use Rattle.std.proofs.Common.{◌≡◌, [], ◌∷◌, map, reverse, sym, ap, ◌∙◌}
use Rattle.os_meaning.specs.Tree.{output_of}
use Rattle.os_code.specs.Coding.{writes_code}
use Rattle.os_compile.proofs.Blocks.{output_put}
use Rattle.os_compile.proofs.Loops.{all_yielded, one_more}
use Rattle.os_compile.proofs.arguments.put_outputs.Goals as goal

pub returns : goal.returns
returns c =
    let all : map (λ b. b.now) (reverse c.loop-output.yielded) ≡ c.args.outputs.now = all_yielded c.args.outputs.now c.loop-output.yielded _ _ _ (cc) c.loop-output.yielded_by c.in-None.ensures.steps in
    c.loop-output.invariant ∙ ap (λ xs. writes_code c.args.line (map output_of (xs)) c.args.out.now) all

pub loop-output-preserved : goal.loop-output-preserved
loop-output-preserved c =
    c.in_ok-put_output.ensures
    ∙ ap (λ l. writes_code c.args.line (output_of c.in-Some.output.now ∷ []) l) c.loop-output.invariant
    ∙ output_put c.args.line (output_of c.in-Some.output.now) (map output_of (map (λ b. b.now) (reverse c.loop-output.yielded))) c.args.out.now
    ∙ sym (ap (λ xs. writes_code c.args.line xs c.args.out.now) (one_more output_of c.loop-output.yielded c.in-Some.output))
