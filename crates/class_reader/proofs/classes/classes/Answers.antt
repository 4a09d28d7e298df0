use Rattle.std.proofs.Common.{◌≡◌, ◌∙◌, true, false, Ok, sym, subst}
use Rattle.text_reading.specs.Tokens.{head_kind}
use Rattle.text_reading.specs.Parsing.{sees, Fails}
use Rattle.text_reading.specs.Phrases.{parser}
use Rattle.text_reading.proofs.PhraseLoops.{fails_on}
use Rattle.class_tokens.specs.declared.token.Kind.TheVariants as k
use Rattle.class_tokens.specs.ClassKinds.{is, is_member_word}
use Rattle.class_tokens.specs.ClassTongue.{tongue}
use Rattle.class_reader.specs.ClassTrees.{site}
use Rattle.class_reader.specs.ClassGrammar.{read, one_class, classes}
use Rattle.class_reader.proofs.ClassTurns.{classes_turns}
use Rattle.class_reader.proofs.classes.classes.Goals as goal

pub turns-smaller : goal.turns-smaller
turns-smaller c = (classes_turns c.turns.marks).shrinks c.turns.found c.in-Ok.more c.turns.cursor c.one_class.new.cursor c.in-Ok.ensures.reads

pub turns-preserved : goal.turns-preserved
unfolding sees
turns-preserved c =
    let here : is k.Class (head_kind tongue c.turns.cursor) ≡ true = cc in
    let one : read one_class (c.args.marks.now, c.turns.found) c.turns.cursor ≡ Ok (c.in-Ok.more, c.one_class.new.cursor)
    = subst (λ m. read one_class (m, c.turns.found) c.turns.cursor ≡ Ok (c.in-Ok.more, c.one_class.new.cursor)) c.turns.invariant.0 c.in-Ok.ensures.reads in
    (c.in-Ok.ensures.text ∙ c.turns.invariant.0, sym ((classes_turns c.args.marks.now).on c.turns.found c.in-Ok.more c.turns.cursor c.one_class.new.cursor here one) ∙ c.turns.invariant.1)

pub returns-in-Err-clause-reads : goal.returns-in-Err-clause-reads
unfolding sees parser classes
returns-in-Err-clause-reads c =
    let here : is k.Class (head_kind tongue c.turns.cursor) ≡ true = cc in
    let one : Fails (read one_class (c.args.marks.now, c.turns.found) c.turns.cursor) c.in-Err.stop
    = subst (λ m. Fails (read one_class (m, c.turns.found) c.turns.cursor) c.in-Err.stop) c.turns.invariant.0 c.in-Err.ensures.reads in
    fails_on tongue (is k.Class) (λ x. read one_class (c.args.marks.now, x)) (classes_turns c.args.marks.now) c.turns.found c.turns.cursor (read classes c.args.marks.now c.args.cursor.now) c.in-Err.stop c.turns.invariant.1 here one

pub returns-clause-reads : goal.returns-clause-reads
unfolding sees parser classes
returns-clause-reads c =
    let gone : is k.Class (head_kind tongue c.turns.cursor) ≡ false = cc in
    sym c.turns.invariant.1 ∙ (classes_turns c.args.marks.now).off c.turns.found c.turns.cursor gone
