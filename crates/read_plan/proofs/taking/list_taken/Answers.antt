use Rattle.std.proofs.Common.{◌∙◌, ap, sym}
use Rattle.read_plan.specs.Reads.{lists_left}
use Rattle.read_plan.proofs.ReadLaws.{list_lost, list_found}
use Rattle.read_plan.proofs.taking.list_taken.Goals as goal

pub returns-in_ok-node-in-None-clause-ok : goal.returns-in_ok-node-in-None-clause-ok
returns-in_ok-node-in-None-clause-ok c =
    rw c.in-AtList.is (rw c.in_ok-node-in-None.ensures (list_lost c.args.call c.in-AtList.listing c.args.reply.now (sym c.in_ok-fields.ensures ∙ c.in-None.is)))

pub returns-in_ok-keep_fields-in-Some-clause-ok : goal.returns-in_ok-keep_fields-in-Some-clause-ok
returns-in_ok-keep_fields-in-Some-clause-ok c =
    rw c.in-AtList.is (list_found c.args.call c.in-AtList.listing c.in-Some.fields c.list_behind.new.phase c.args.reply.now (sym c.in_ok-fields.ensures ∙ c.in-Some.is)
    (λ classes key wanted tag most. c.list_behind.ensures.left classes key wanted tag most ∙ ap (λ l. lists_left classes key tag most l.begun l.begun.lists) c.in_ok-keep_fields-in-Some.ensures.ok))
