use Rattle.std.proofs.Common.{◌≡◌, ◌∙◌, true, false, sym}
use Rattle.text_reading.specs.Tokens.{head_kind}
use Rattle.text_reading.specs.Parsing.{sees}
use Rattle.text_reading.specs.Phrases.{parser}
use Rattle.text_reading.proofs.PhraseLoops.{fails_on}
use Rattle.script_tokens.specs.declared.token.Kind.TheVariants as k
use Rattle.script_tokens.specs.ScriptKinds.{is}
use Rattle.script_tokens.specs.ScriptTongue.{tongue}
use Rattle.os_expressions.specs.ScriptGrammar.{read, further_name, more_names}
use Rattle.os_parse.proofs.CallTurns.{names_turns}
use Rattle.os_parse.proofs.calls.more_names.Goals as goal

pub turns-smaller : goal.turns-smaller
turns-smaller c = (names_turns).shrinks c.turns.found c.in-Ok.more c.turns.cursor c.further_name.new.cursor c.in-Ok.ensures

pub turns-preserved : goal.turns-preserved
unfolding sees
turns-preserved c =
    let here : is k.Dot (head_kind tongue c.turns.cursor) ≡ true = cc in
    sym ((names_turns).on c.turns.found c.in-Ok.more c.turns.cursor c.further_name.new.cursor here c.in-Ok.ensures) ∙ c.turns.invariant

pub returns-in-Err : goal.returns-in-Err
unfolding sees parser more_names
returns-in-Err c =
    let here : is k.Dot (head_kind tongue c.turns.cursor) ≡ true = cc in
    fails_on tongue (is k.Dot) (λ x. read further_name x) (names_turns) c.turns.found c.turns.cursor (read more_names c.args.found c.args.cursor.now) c.in-Err.stop c.turns.invariant here c.in-Err.ensures

pub returns : goal.returns
unfolding sees parser more_names
returns c =
    let gone : is k.Dot (head_kind tongue c.turns.cursor) ≡ false = cc in
    sym c.turns.invariant ∙ (names_turns).off c.turns.found c.turns.cursor gone
