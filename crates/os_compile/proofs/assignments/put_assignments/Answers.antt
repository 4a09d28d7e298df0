use Rattle.std.proofs.Common.{◌≡◌, [], ◌∷◌, map, reverse, sym, ap, ◌∙◌}
use Rattle.os_meaning.specs.Tree.{assignment_of}
use Rattle.os_code.specs.Coding.{assigns_code}
use Rattle.os_code.specs.Coding.{assigned_code}
use Rattle.os_compile.proofs.Loops.{all_yielded, one_more}
use Rattle.os_compile.proofs.assignments.put_assignments.Goals as goal

pub returns : goal.returns
returns c =
    let all : map (λ b. b.now) (reverse c.loop-assignment.yielded) ≡ c.args.assignments.now = all_yielded c.args.assignments.now c.loop-assignment.yielded _ _ _ (cc) c.loop-assignment.yielded_by c.in-None.ensures.steps in
    c.loop-assignment.invariant ∙ ap (λ xs. assigns_code c.args.line (map assignment_of (xs)) c.args.out.now) all

pub loop-assignment-preserved : goal.loop-assignment-preserved
loop-assignment-preserved c =
    c.in_ok-put_assignment.ensures
    ∙ ap (λ l. assigned_code c.args.line (assignment_of c.in-Some.assignment.now).target (assignment_of c.in-Some.assignment.now).value l) c.loop-assignment.invariant
    ∙ sym (ap (λ xs. assigns_code c.args.line xs c.args.out.now) (one_more assignment_of c.loop-assignment.yielded c.in-Some.assignment))
