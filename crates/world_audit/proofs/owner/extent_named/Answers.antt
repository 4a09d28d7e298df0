use Rattle.std.proofs.Common.{◌∙◌, sym, ap}
use Rattle.schema_kinds.specs.Classes.{is_own_global}
use Rattle.world_audit.proofs.OwnerLaws.{no_bytes_no_extent, other_letter_no_extent, not_own_no_extent, own_extent}
use Rattle.std.proofs.Common.{length}
use Rattle.world_audit.proofs.owner.extent_named.Goals as goal

pub returns-in_default : goal.returns-in_default
returns-in_default c = no_bytes_no_extent c.args.schema.now c.args.letter c.args.global.now (ap length (sym c.as_slice-bytes.ensures) ∙ c.in_default.ensures.cases)

pub returns-then-last-letter : goal.returns-then-last-letter
returns-then-last-letter c =
    other_letter_no_extent c.args.schema.now c.args.letter c.in-Some.last.now c.args.global.now c.in-Some.name.now (sym c.as_slice-bytes.ensures ∙ c.in-Some.ensures.cases.0) c.if-last-letter.true

pub returns-then-not-is_own : goal.returns-then-not-is_own
returns-then-not-is_own c =
    not_own_no_extent c.args.schema.now c.args.letter c.args.global.now c.requires (ap (is_own_global c.args.schema.now) (sym c.as_slice-bytes.ensures) ∙ sym c.is_own.ensures ∙ c.if-not-is_own.true)

pub returns : goal.returns
returns c =
    own_extent c.args.schema.now c.args.letter c.in-Some.last.now c.args.global.now c.in-Some.name.now c.in_ok-name.name c.requires (sym c.as_slice-bytes.ensures ∙ c.in-Some.ensures.cases.0) c.if-last-letter.false
    (ap (is_own_global c.args.schema.now) (sym c.as_slice-bytes.ensures) ∙ sym c.is_own.ensures ∙ c.if-not-is_own.false) c.in_ok-name.ensures
