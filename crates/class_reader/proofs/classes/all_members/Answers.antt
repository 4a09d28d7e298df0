use Rattle.std.proofs.Common.{◌≡◌, ◌∙◌, true, false, Ok, sym, subst}
use Rattle.text_reading.specs.Tokens.{head_kind}
use Rattle.text_reading.specs.Parsing.{sees, Fails}
use Rattle.text_reading.specs.Phrases.{parser}
use Rattle.text_reading.proofs.PhraseLoops.{fails_on}
use Rattle.class_tokens.specs.declared.token.Kind.TheVariants as k
use Rattle.class_tokens.specs.ClassKinds.{is, is_member_word}
use Rattle.class_tokens.specs.ClassTongue.{tongue}
use Rattle.class_reader.specs.ClassTrees.{site}
use Rattle.class_reader.specs.ClassGrammar.{read, member, members}
use Rattle.class_reader.proofs.ClassTurns.{members_turns}
use Rattle.class_reader.proofs.classes.all_members.Goals as goal

pub turns-smaller : goal.turns-smaller
turns-smaller c = (members_turns (site c.turns.marks c.args.home.now)).shrinks c.turns.found c.in-Ok.more c.turns.cursor c.member.new.cursor c.in-Ok.ensures.reads

pub turns-preserved : goal.turns-preserved
unfolding sees
turns-preserved c =
    let here : is_member_word (head_kind tongue c.turns.cursor) ≡ true = cc in
    let one : read member ((site c.args.marks.now c.args.home.now), c.turns.found) c.turns.cursor ≡ Ok (c.in-Ok.more, c.member.new.cursor)
    = subst (λ m. read member ((site m c.args.home.now), c.turns.found) c.turns.cursor ≡ Ok (c.in-Ok.more, c.member.new.cursor)) c.turns.invariant.0 c.in-Ok.ensures.reads in
    (c.in-Ok.ensures.text ∙ c.turns.invariant.0, sym ((members_turns (site c.args.marks.now c.args.home.now)).on c.turns.found c.in-Ok.more c.turns.cursor c.member.new.cursor here one) ∙ c.turns.invariant.1)

pub returns-in-Err-clause-reads : goal.returns-in-Err-clause-reads
unfolding sees parser members
returns-in-Err-clause-reads c =
    let here : is_member_word (head_kind tongue c.turns.cursor) ≡ true = cc in
    let one : Fails (read member ((site c.args.marks.now c.args.home.now), c.turns.found) c.turns.cursor) c.in-Err.stop
    = subst (λ m. Fails (read member ((site m c.args.home.now), c.turns.found) c.turns.cursor) c.in-Err.stop) c.turns.invariant.0 c.in-Err.ensures.reads in
    fails_on tongue (is_member_word) (λ x. read member ((site c.args.marks.now c.args.home.now), x)) (members_turns (site c.args.marks.now c.args.home.now)) c.turns.found c.turns.cursor (read members (site c.args.marks.now c.args.home.now) c.args.cursor.now) c.in-Err.stop c.turns.invariant.1 here one

pub returns-clause-reads : goal.returns-clause-reads
unfolding sees parser members
returns-clause-reads c =
    let gone : is_member_word (head_kind tongue c.turns.cursor) ≡ false = cc in
    sym c.turns.invariant.1 ∙ (members_turns (site c.args.marks.now c.args.home.now)).off c.turns.found c.turns.cursor gone
