use Rattle.std.proofs.Common.{◌≡◌, ◌∙◌, true, false, sym}
use Rattle.text_reading.specs.Tokens.{head_kind}
use Rattle.text_reading.specs.Parsing.{sees}
use Rattle.text_reading.specs.Phrases.{parser}
use Rattle.text_reading.proofs.PhraseLoops.{fails_on}
use Rattle.class_tokens.specs.declared.token.Kind.TheVariants as k
use Rattle.class_tokens.specs.ClassKinds.{is}
use Rattle.class_tokens.specs.ClassTongue.{tongue}
use Rattle.class_reader.specs.ClassGrammar.{read, further_key, more_keys}
use Rattle.class_reader.proofs.ClassTurns.{keys}
use Rattle.class_reader.proofs.keywords.more_keys.Goals as goal

pub turns-smaller : goal.turns-smaller
turns-smaller c = (keys c.args.section).shrinks c.turns.given c.in-Ok.more c.turns.cursor c.further_key.new.cursor c.in-Ok.ensures

pub turns-preserved : goal.turns-preserved
unfolding sees
turns-preserved c =
    let here : is k.Comma (head_kind tongue c.turns.cursor) ≡ true = cc in
    sym ((keys c.args.section).on c.turns.given c.in-Ok.more c.turns.cursor c.further_key.new.cursor here c.in-Ok.ensures) ∙ c.turns.invariant

pub returns-in-Err : goal.returns-in-Err
unfolding sees parser more_keys
returns-in-Err c =
    let here : is k.Comma (head_kind tongue c.turns.cursor) ≡ true = cc in
    fails_on tongue (is k.Comma) (λ x. read further_key (c.args.section, x)) (keys c.args.section) c.turns.given c.turns.cursor (read more_keys (c.args.section, c.args.given) c.args.cursor.now) c.in-Err.stop c.turns.invariant here c.in-Err.ensures

pub returns : goal.returns
unfolding sees parser more_keys
returns c =
    let gone : is k.Comma (head_kind tongue c.turns.cursor) ≡ false = cc in
    sym c.turns.invariant ∙ (keys c.args.section).off c.turns.given c.turns.cursor gone
