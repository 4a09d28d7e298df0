use Rattle.std.proofs.Common.{◌∙◌, sym}
use Rattle.world_audit.proofs.OwnerLaws.{values_key}
use Rattle.world_audit.proofs.owner.key_of_values.Goals as goal

pub returns : goal.returns
returns c =
    c.key_of_sub.ensures
    ∙ values_key c.args.schema.now c.args.extent c.args.name.now c.args.values.now c.in_ok-id.field-0-1.now c.in_ok-id.id.now c.in_ok-id.ensures.cases.0 (sym c.extent_has.ensures ∙ c.if-not-extent_has.false)
