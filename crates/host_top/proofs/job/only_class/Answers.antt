use Rattle.std.proofs.Common.{◌≡◌, List, IfOk, IfErr, subst}
use Rattle.std.proofs.lemmas.Result.{IfErr-weaker}
use Rattle.schema_kinds.specs.declared.tree.ClassTree.{ClassTree}
use Rattle.host_top.specs.Refusals.{IsFormRefused, AreRefused}
use Rattle.host_top.proofs.JobLaws.{form_refused}
use Rattle.host_top.proofs.job.only_class.Goals as goal

pub returns-clause-refused : goal.returns-clause-refused
returns-clause-refused c =
    let trees = c.args.trees in
    let refused = subst (λ (ts : List ClassTree). IfErr c.class_of-class.result (IsFormRefused ts)) c.as_slice.ensures c.class_of-class.ensures.refused in
    IfErr-weaker c.class_of-class.result (IsFormRefused trees) (AreRefused trees) (λ r h. form_refused trees r c.in_ok-check_links.ensures.links h) refused
