use Rattle.std.proofs.Common.{◌≡◌, ◌∙◌, true, false, sym}
use Rattle.text_reading.specs.Tokens.{head_kind}
use Rattle.text_reading.specs.Parsing.{sees}
use Rattle.text_reading.specs.Phrases.{parser}
use Rattle.text_reading.proofs.PhraseLoops.{fails_on}
use Rattle.script_tokens.specs.ScriptKinds.{is_sign}
use Rattle.script_tokens.specs.ScriptTongue.{tongue}
use Rattle.os_expressions.specs.ScriptGrammar.{read, one_sign, signs}
use Rattle.os_expressions.proofs.ScriptTurns.{signs_turns}
use Rattle.os_expressions.proofs.expressions.signs.Goals as goal

pub turns-smaller : goal.turns-smaller
turns-smaller c = (signs_turns c.args.bars).shrinks c.turns.found c.in-Ok.more c.turns.cursor c.one_sign.new.cursor c.in-Ok.ensures

pub turns-preserved : goal.turns-preserved
unfolding sees
turns-preserved c =
    let here : is_sign (head_kind tongue c.turns.cursor) ≡ true = cc in
    sym ((signs_turns c.args.bars).on c.turns.found c.in-Ok.more c.turns.cursor c.one_sign.new.cursor here c.in-Ok.ensures) ∙ c.turns.invariant

pub returns-in-Err : goal.returns-in-Err
unfolding sees parser signs
returns-in-Err c =
    let here : is_sign (head_kind tongue c.turns.cursor) ≡ true = cc in
    fails_on tongue (is_sign) (λ x. read one_sign (c.args.bars, x)) (signs_turns c.args.bars) c.turns.found c.turns.cursor (read signs c.args.bars c.args.cursor.now) c.in-Err.stop c.turns.invariant here c.in-Err.ensures

pub returns : goal.returns
unfolding sees parser signs
returns c =
    let gone : is_sign (head_kind tongue c.turns.cursor) ≡ false = cc in
    sym c.turns.invariant ∙ (signs_turns c.args.bars).off c.turns.found c.turns.cursor gone
