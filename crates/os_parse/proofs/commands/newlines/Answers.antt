use Rattle.std.proofs.Common.{◌≡◌, ◌∙◌, true, false, sym}
use Rattle.text_reading.specs.Tokens.{head_kind}
use Rattle.text_reading.specs.Parsing.{sees}
use Rattle.text_reading.specs.Phrases.{parser}
use Rattle.text_reading.proofs.PhraseLoops.{fails_on}
use Rattle.script_tokens.specs.declared.token.Kind.TheVariants as k
use Rattle.script_tokens.specs.ScriptKinds.{is}
use Rattle.script_tokens.specs.ScriptTongue.{tongue}
use Rattle.os_expressions.specs.ScriptGrammar.{read, newline, newlines}
use Rattle.os_parse.proofs.LineTurns.{newlines_turns}
use Rattle.os_parse.proofs.commands.newlines.Goals as goal

pub turns-smaller : goal.turns-smaller
turns-smaller c = (newlines_turns).shrinks tt tt c.turns.cursor c.newline.new.cursor c.in-Ok.ensures

pub turns-preserved : goal.turns-preserved
unfolding sees
turns-preserved c =
    let here : is k.Newline (head_kind tongue c.turns.cursor) ≡ true = cc in
    sym ((newlines_turns).on tt tt c.turns.cursor c.newline.new.cursor here c.in-Ok.ensures) ∙ c.turns.invariant

pub returns-in-Err : goal.returns-in-Err
unfolding sees parser newlines
returns-in-Err c =
    let here : is k.Newline (head_kind tongue c.turns.cursor) ≡ true = cc in
    fails_on tongue (is k.Newline) (λ x. read newline x) (newlines_turns) tt c.turns.cursor (read newlines tt c.args.cursor.now) c.in-Err.stop c.turns.invariant here c.in-Err.ensures

pub returns : goal.returns
unfolding sees parser newlines
returns c =
    let gone : is k.Newline (head_kind tongue c.turns.cursor) ≡ false = cc in
    sym c.turns.invariant ∙ (newlines_turns).off tt c.turns.cursor gone
