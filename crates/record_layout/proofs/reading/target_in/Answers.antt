use Rattle.std.proofs.Common.{sym, ◌∙◌}
use Rattle.record_layout.proofs.StepLaws.{not_empty, target_found, target_long, target_none}
use Rattle.record_layout.proofs.reading.target_in.Goals as goal

pub returns-in_err-id : goal.returns-in_err-id
returns-in_err-id c = λ classes. c.from_residual.ensures ∙ sym (target_none classes c.args.class.now c.args.text.now (not_empty c.args.text.now c.if-is_empty.ensures) c.in_err-id.ensures.none)

pub returns-then-len-eq-ID_LENGTH : goal.returns-then-len-eq-ID_LENGTH
returns-then-len-eq-ID_LENGTH c = λ classes.
    let found = c.in_ok-id.ensures.found in
    sym (target_found classes c.args.class.now c.args.text.now c.in_ok-id.id (not_empty c.args.text.now c.if-is_empty.ensures) found.0 found.1 (sym c.len.ensures.len ∙ c.if-len-eq-ID_LENGTH.true))

pub returns-else-len-eq-ID_LENGTH : goal.returns-else-len-eq-ID_LENGTH
returns-else-len-eq-ID_LENGTH c = λ classes.
    let found = c.in_ok-id.ensures.found in
    sym (target_long classes c.args.class.now c.args.text.now c.in_ok-id.id (not_empty c.args.text.now c.if-is_empty.ensures) found.0 found.1 (λ e. c.if-len-eq-ID_LENGTH.false (c.len.ensures.len ∙ e)))
