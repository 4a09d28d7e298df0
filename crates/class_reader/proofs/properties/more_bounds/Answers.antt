use Rattle.std.proofs.Common.{◌≡◌, ◌∙◌, true, false, sym}
use Rattle.text_reading.specs.Tokens.{head_kind}
use Rattle.text_reading.specs.Parsing.{sees}
use Rattle.text_reading.specs.Phrases.{parser}
use Rattle.text_reading.proofs.PhraseLoops.{fails_on}
use Rattle.class_tokens.specs.declared.token.Kind.TheVariants as k
use Rattle.class_tokens.specs.ClassKinds.{is}
use Rattle.class_tokens.specs.ClassTongue.{tongue}
use Rattle.class_reader.specs.ClassGrammar.{read, further_bound, more_bounds}
use Rattle.class_reader.proofs.ClassTurns.{bounds_turns}
use Rattle.class_reader.proofs.properties.more_bounds.Goals as goal

pub turns-smaller : goal.turns-smaller
turns-smaller c = bounds_turns.shrinks c.turns.found c.in-Ok.more c.turns.cursor c.further_bound.new.cursor c.in-Ok.ensures

pub turns-preserved : goal.turns-preserved
unfolding sees
turns-preserved c =
    let here : is k.Comma (head_kind tongue c.turns.cursor) ≡ true = cc in
    sym (bounds_turns.on c.turns.found c.in-Ok.more c.turns.cursor c.further_bound.new.cursor here c.in-Ok.ensures) ∙ c.turns.invariant

pub returns-in-Err : goal.returns-in-Err
unfolding sees parser more_bounds
returns-in-Err c =
    let here : is k.Comma (head_kind tongue c.turns.cursor) ≡ true = cc in
    fails_on tongue (is k.Comma) (λ x. read further_bound x) bounds_turns c.turns.found c.turns.cursor (read more_bounds c.args.found c.args.cursor.now) c.in-Err.stop c.turns.invariant here c.in-Err.ensures

pub returns : goal.returns
unfolding sees parser more_bounds
returns c =
    let gone : is k.Comma (head_kind tongue c.turns.cursor) ≡ false = cc in
    sym c.turns.invariant ∙ bounds_turns.off c.turns.found c.turns.cursor gone
