use Rattle.std.proofs.Common.{ap, ◌∙◌}
use Rattle.std.specs.FinMap.{is_sorted}
use Rattle.schema_kinds.specs.Worlds.{key_cmp}
use Rattle.world_audit.proofs.AuditLaws.{answered}
use Rattle.world_audit.proofs.FindLaws.{finds_rise}
use Rattle.world_audit.proofs.auditing.audit.Goals as goal

pub judged-requires : goal.judged-requires
judged-requires c = ap (is_sorted key_cmp) c.in_ok-finds.ensures ∙ finds_rise c.args.schema.now c.args.nodes.now

pub returns : goal.returns
returns c =
    let a = answered c.args.schema.now c.args.nodes.now c.in_ok-finds.finds.entries c.in_ok-fault.fault c.judged.result c.in_ok-finds.ensures c.in_ok-fault.ensures c.judged.ensures.world c.judged.ensures.damaged in
    record { world = a.world; damaged = a.damaged; accepts = a.accepts }
