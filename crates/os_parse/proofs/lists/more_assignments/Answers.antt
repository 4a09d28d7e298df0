use Rattle.std.proofs.Common.{◌≡◌, ◌∙◌, true, false, sym}
use Rattle.text_reading.specs.Tokens.{head_kind}
use Rattle.text_reading.specs.Parsing.{sees}
use Rattle.text_reading.specs.Phrases.{parser}
use Rattle.text_reading.proofs.PhraseLoops.{fails_on}
use Rattle.script_tokens.specs.declared.token.Kind.TheVariants as k
use Rattle.script_tokens.specs.ScriptKinds.{is}
use Rattle.script_tokens.specs.ScriptTongue.{tongue}
use Rattle.os_expressions.specs.ScriptGrammar.{read, further_assignment, more_assignments}
use Rattle.os_parse.proofs.ListTurns.{assignments_turns}
use Rattle.os_parse.proofs.lists.more_assignments.Goals as goal

pub turns-smaller : goal.turns-smaller
turns-smaller c = (assignments_turns c.args.depth).shrinks c.turns.found c.in-Ok.more c.turns.cursor c.further_assignment.new.cursor c.in-Ok.ensures

pub turns-preserved : goal.turns-preserved
unfolding sees
turns-preserved c =
    let here : is k.Comma (head_kind tongue c.turns.cursor) ≡ true = cc in
    sym ((assignments_turns c.args.depth).on c.turns.found c.in-Ok.more c.turns.cursor c.further_assignment.new.cursor here c.in-Ok.ensures) ∙ c.turns.invariant

pub returns-in-Err : goal.returns-in-Err
unfolding sees parser more_assignments
returns-in-Err c =
    let here : is k.Comma (head_kind tongue c.turns.cursor) ≡ true = cc in
    fails_on tongue (is k.Comma) (λ x. read further_assignment (c.args.depth, x)) (assignments_turns c.args.depth) c.turns.found c.turns.cursor (read more_assignments (c.args.depth, c.args.found) c.args.cursor.now) c.in-Err.stop c.turns.invariant here c.in-Err.ensures

pub returns : goal.returns
unfolding sees parser more_assignments
returns c =
    let gone : is k.Comma (head_kind tongue c.turns.cursor) ≡ false = cc in
    sym c.turns.invariant ∙ (assignments_turns c.args.depth).off c.turns.found c.turns.cursor gone
