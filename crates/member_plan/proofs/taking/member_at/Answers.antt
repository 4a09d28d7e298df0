use Rattle.std.proofs.Common.{sym, ap, ◌∙◌}
use Rattle.store_calls.specs.Calls.{Lost}
use Rattle.obj_kinds.specs.declared.cause.Cause.TheVariants.{Damaged}
use Rattle.object_calls.specs.Members.{member_or}
use Rattle.member_plan.specs.Nexts.{node_of}
use Rattle.member_plan.proofs.taking.member_at.Goals as goal

pub returns-in-Some : goal.returns-in-Some
returns-in-Some c legal = ap (member_or (node_of c.args.schema.now c.args.call.now)) (sym c.in-Some.is ∙ c.id_below.ensures c.args.schema.now legal)

pub returns-in_ok-node_in-in-None : goal.returns-in_ok-node_in-in-None
returns-in_ok-node_in-in-None c legal =
    ap (λ n. Lost (Damaged n)) c.in_ok-node_in-in-None.ensures
    ∙ ap (member_or (node_of c.args.schema.now c.args.call.now)) (sym c.in-None.is ∙ c.id_below.ensures c.args.schema.now legal)
