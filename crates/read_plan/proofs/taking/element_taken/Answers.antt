use Rattle.std.proofs.Common.{◌∙◌, sym}
use Rattle.read_plan.proofs.ReadLaws.{element_lost, element_found}
use Rattle.read_plan.proofs.taking.element_taken.Goals as goal

pub returns-in_ok-node-in-None-clause-ok : goal.returns-in_ok-node-in-None-clause-ok
returns-in_ok-node-in-None-clause-ok c =
    rw c.in-AtElement.is (rw c.in_ok-node-in-None.ensures (element_lost c.args.call c.in-AtElement.pending c.args.reply.now (sym c.in_ok-field.ensures ∙ c.in-None.is)))

pub returns-in_ok-keep_element-in-Some-clause-ok : goal.returns-in_ok-keep_element-in-Some-clause-ok
returns-in_ok-keep_element-in-Some-clause-ok c =
    rw c.in-AtElement.is (rw c.key_behind.ensures (rw c.in_ok-keep_element-in-Some.ensures.ok
    (element_found c.args.call c.in-AtElement.pending c.in-Some.field c.args.reply.now (sym c.in_ok-field.ensures ∙ c.in-Some.is))))
