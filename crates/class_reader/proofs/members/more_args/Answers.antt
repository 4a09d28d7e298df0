use Rattle.std.proofs.Common.{◌≡◌, ◌∙◌, true, false, sym}
use Rattle.text_reading.specs.Tokens.{head_kind}
use Rattle.text_reading.specs.Parsing.{sees}
use Rattle.text_reading.specs.Phrases.{parser}
use Rattle.text_reading.proofs.PhraseLoops.{fails_on}
use Rattle.class_tokens.specs.declared.token.Kind.TheVariants as k
use Rattle.class_tokens.specs.ClassKinds.{is}
use Rattle.class_tokens.specs.ClassTongue.{tongue}
use Rattle.class_reader.specs.ClassGrammar.{read, further_arg, more_args}
use Rattle.class_reader.proofs.ClassTurns.{args_turns}
use Rattle.class_reader.proofs.members.more_args.Goals as goal

pub turns-smaller : goal.turns-smaller
turns-smaller c = args_turns.shrinks c.turns.args c.in-Ok.more c.turns.cursor c.further_arg.new.cursor c.in-Ok.ensures

pub turns-preserved : goal.turns-preserved
unfolding sees
turns-preserved c =
    let here : is k.Comma (head_kind tongue c.turns.cursor) ≡ true = cc in
    sym (args_turns.on c.turns.args c.in-Ok.more c.turns.cursor c.further_arg.new.cursor here c.in-Ok.ensures) ∙ c.turns.invariant

pub returns-in-Err : goal.returns-in-Err
unfolding sees parser more_args
returns-in-Err c =
    let here : is k.Comma (head_kind tongue c.turns.cursor) ≡ true = cc in
    fails_on tongue (is k.Comma) (λ x. read further_arg x) args_turns c.turns.args c.turns.cursor (read more_args c.args.args c.args.cursor.now) c.in-Err.stop c.turns.invariant here c.in-Err.ensures

pub returns : goal.returns
unfolding sees parser more_args
returns c =
    let gone : is k.Comma (head_kind tongue c.turns.cursor) ≡ false = cc in
    sym c.turns.invariant ∙ args_turns.off c.turns.args c.turns.cursor gone
