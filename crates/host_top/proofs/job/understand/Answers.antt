use Rattle.std.proofs.Common.{◌≡◌, List, ℕ, subst}
use Rattle.std.proofs.lemmas.Result.{err_from_is_err_and}
use Rattle.host_top.specs.Texts.{Declares}
use Rattle.host_top.proofs.JobLaws.{trees_refused, script_refused_as}
use Rattle.host_top.proofs.job.understand.Goals as goal

pub returns-in_err-class-clause-refused : goal.returns-in_err-class-clause-refused
returns-in_err-class-clause-refused c =
    let exit = err_from_is_err_and c.from_residual-in_err-class.result c.from_residual-in_err-class.ensures.1 in
    let said = subst (λ (text : List ℕ). Declares text c.in_ok-trees.trees) c.as_slice.ensures.value c.in_ok-trees.ensures.said in
    rw (exit.1, exit.2) (trees_refused c.args.texts.now.names.class.now c.args.texts.now.class.items c.args.texts.now.script.items c.in_ok-trees.trees _ said c.in_err-class.ensures.refused)

pub returns-in_err-acts-clause-refused : goal.returns-in_err-acts-clause-refused
returns-in_err-acts-clause-refused c =
    let exit = err_from_is_err_and c.from_residual-in_err-acts.result c.from_residual-in_err-acts.ensures.1 in
    let said = subst (λ (text : List ℕ). Declares text c.in_ok-trees.trees) c.as_slice.ensures.value c.in_ok-trees.ensures.said in
    rw (exit.1, exit.2) (script_refused_as c.args.texts.now.names.class.now c.args.texts.now.class.items c.args.texts.now.script.items _ c.in_ok-trees.trees c.in_ok-class.class _ c.as_slice-2.ensures.value (record { said = said; links = c.in_ok-class.ensures.links; form = c.in_ok-class.ensures.class }) c.in_err-acts.ensures.refused)
