use Rattle.std.proofs.Common.{◌≡◌, ◌∙◌, true, false, sym}
use Rattle.text_reading.specs.Tokens.{head_kind}
use Rattle.text_reading.specs.Parsing.{sees}
use Rattle.text_reading.specs.Phrases.{parser}
use Rattle.text_reading.proofs.PhraseLoops.{fails_on}
use Rattle.script_tokens.specs.ScriptTongue.{tongue}
use Rattle.os_expressions.specs.ScriptGrammar.{read, goes_on, path_step, path_rest}
use Rattle.os_parse.proofs.CallTurns.{path_turns}
use Rattle.os_parse.proofs.targets.path_rest.Goals as goal

pub turns-smaller : goal.turns-smaller
turns-smaller c = (path_turns c.args.depth).shrinks c.turns.found c.in-Ok.more c.turns.cursor c.path_step.new.cursor c.in-Ok.ensures

pub turns-preserved : goal.turns-preserved
unfolding sees
turns-preserved c =
    let here : goes_on (head_kind tongue c.turns.cursor) ≡ true = cc in
    sym ((path_turns c.args.depth).on c.turns.found c.in-Ok.more c.turns.cursor c.path_step.new.cursor here c.in-Ok.ensures) ∙ c.turns.invariant

pub returns-in-Err : goal.returns-in-Err
unfolding sees parser path_rest
returns-in-Err c =
    let here : goes_on (head_kind tongue c.turns.cursor) ≡ true = cc in
    fails_on tongue (goes_on) (λ x. read path_step (c.args.depth, x)) (path_turns c.args.depth) c.turns.found c.turns.cursor (read path_rest (c.args.depth, c.args.found) c.args.cursor.now) c.in-Err.stop c.turns.invariant here c.in-Err.ensures

pub returns : goal.returns
unfolding sees parser path_rest
returns c =
    let gone : goes_on (head_kind tongue c.turns.cursor) ≡ false = cc in
    sym c.turns.invariant ∙ (path_turns c.args.depth).off c.turns.found c.turns.cursor gone
