use Rattle.std.proofs.Common.{◌≡◌, ◌∙◌, true, false, sym}
use Rattle.text_reading.specs.Tokens.{head_kind}
use Rattle.text_reading.specs.Parsing.{sees}
use Rattle.text_reading.specs.Phrases.{parser}
use Rattle.text_reading.proofs.PhraseLoops.{fails_on}
use Rattle.class_tokens.specs.declared.token.Kind.TheVariants as k
use Rattle.class_tokens.specs.ClassKinds.{is}
use Rattle.class_tokens.specs.ClassTongue.{tongue}
use Rattle.class_reader.specs.ClassGrammar.{read, dotted, name_rest}
use Rattle.class_reader.proofs.ClassTurns.{dots}
use Rattle.class_reader.proofs.names.name_rest.Goals as goal

pub turns-smaller : goal.turns-smaller
turns-smaller c = (dots c.args.bars).shrinks c.turns.found c.in-Ok.more c.turns.cursor c.dotted.new.cursor c.in-Ok.ensures

pub turns-preserved : goal.turns-preserved
unfolding sees
turns-preserved c =
    let here : is k.Dot (head_kind tongue c.turns.cursor) ≡ true = cc in
    sym ((dots c.args.bars).on c.turns.found c.in-Ok.more c.turns.cursor c.dotted.new.cursor here c.in-Ok.ensures) ∙ c.turns.invariant

pub returns-in-Err : goal.returns-in-Err
unfolding sees parser name_rest
returns-in-Err c =
    let here : is k.Dot (head_kind tongue c.turns.cursor) ≡ true = cc in
    fails_on tongue (is k.Dot) (λ x. read dotted (c.args.bars, x)) (dots c.args.bars) c.turns.found c.turns.cursor (read name_rest (c.args.bars, c.args.found) c.args.cursor.now) c.in-Err.stop c.turns.invariant here c.in-Err.ensures

pub returns : goal.returns
unfolding sees parser name_rest
returns c =
    let gone : is k.Dot (head_kind tongue c.turns.cursor) ≡ false = cc in
    sym c.turns.invariant ∙ (dots c.args.bars).off c.turns.found c.turns.cursor gone
