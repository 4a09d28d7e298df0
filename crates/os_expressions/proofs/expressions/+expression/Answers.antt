use Rattle.std.proofs.Common.{◌≡◌, ◌∙◌, true, false, sym}
use Rattle.text_reading.specs.Tokens.{head_kind}
use Rattle.text_reading.specs.Parsing.{sees}
use Rattle.text_reading.specs.Phrases.{parser}
use Rattle.text_reading.proofs.PhraseLoops.{fails_on}
use Rattle.script_tokens.specs.declared.token.Kind.TheVariants as k
use Rattle.script_tokens.specs.ScriptKinds.{is, is_operator}
use Rattle.script_tokens.specs.ScriptTongue.{tongue}
use Rattle.os_expressions.specs.ScriptGrammar.{read, further_member, members, further_operation, operations, further_arg, more_args}
use Rattle.os_expressions.proofs.ScriptTurns.{members_turns, operations_turns, args_turns}
use Rattle.os_expressions.proofs.expressions.+expression.Goals as goal

pub members-turns-smaller : goal.members-turns-smaller
members-turns-smaller t c = (members_turns c.args.depth).shrinks c.turns.found c.in-Ok.more c.turns.cursor c.further_member.new.cursor c.in-Ok.ensures

pub members-turns-preserved : goal.members-turns-preserved
unfolding sees
members-turns-preserved t c =
    let here : is k.Dot (head_kind tongue c.turns.cursor) ≡ true = cc in
    sym ((members_turns c.args.depth).on c.turns.found c.in-Ok.more c.turns.cursor c.further_member.new.cursor here c.in-Ok.ensures) ∙ c.turns.invariant

pub members-returns-in-Err : goal.members-returns-in-Err
unfolding sees parser members
members-returns-in-Err t c =
    let here : is k.Dot (head_kind tongue c.turns.cursor) ≡ true = cc in
    fails_on tongue (is k.Dot) (λ x. read further_member (c.args.depth, x)) (members_turns c.args.depth) c.turns.found c.turns.cursor (read members c.args.depth c.args.cursor.now) c.in-Err.stop c.turns.invariant here c.in-Err.ensures

pub members-returns : goal.members-returns
unfolding sees parser members
members-returns t c =
    let gone : is k.Dot (head_kind tongue c.turns.cursor) ≡ false = cc in
    sym c.turns.invariant ∙ (members_turns c.args.depth).off c.turns.found c.turns.cursor gone

pub operations-turns-smaller : goal.operations-turns-smaller
operations-turns-smaller t c = (operations_turns c.args.depth).shrinks c.turns.found c.in-Ok.more c.turns.cursor c.further_operation.new.cursor c.in-Ok.ensures

pub operations-turns-preserved : goal.operations-turns-preserved
unfolding sees
operations-turns-preserved t c =
    let here : is_operator (head_kind tongue c.turns.cursor) ≡ true = cc in
    sym ((operations_turns c.args.depth).on c.turns.found c.in-Ok.more c.turns.cursor c.further_operation.new.cursor here c.in-Ok.ensures) ∙ c.turns.invariant

pub operations-returns-in-Err : goal.operations-returns-in-Err
unfolding sees parser operations
operations-returns-in-Err t c =
    let here : is_operator (head_kind tongue c.turns.cursor) ≡ true = cc in
    fails_on tongue (is_operator) (λ x. read further_operation (c.args.depth, x)) (operations_turns c.args.depth) c.turns.found c.turns.cursor (read operations c.args.depth c.args.cursor.now) c.in-Err.stop c.turns.invariant here c.in-Err.ensures

pub operations-returns : goal.operations-returns
unfolding sees parser operations
operations-returns t c =
    let gone : is_operator (head_kind tongue c.turns.cursor) ≡ false = cc in
    sym c.turns.invariant ∙ (operations_turns c.args.depth).off c.turns.found c.turns.cursor gone

pub more_args-turns-smaller : goal.more_args-turns-smaller
more_args-turns-smaller t c = (args_turns c.args.calling).shrinks c.turns.found c.in-Ok.more c.turns.cursor c.further_arg.new.cursor c.in-Ok.ensures

pub more_args-turns-preserved : goal.more_args-turns-preserved
unfolding sees
more_args-turns-preserved t c =
    let here : is k.Comma (head_kind tongue c.turns.cursor) ≡ true = cc in
    sym ((args_turns c.args.calling).on c.turns.found c.in-Ok.more c.turns.cursor c.further_arg.new.cursor here c.in-Ok.ensures) ∙ c.turns.invariant

pub more_args-returns-in-Err : goal.more_args-returns-in-Err
unfolding sees parser more_args
more_args-returns-in-Err t c =
    let here : is k.Comma (head_kind tongue c.turns.cursor) ≡ true = cc in
    fails_on tongue (is k.Comma) (λ x. read further_arg (c.args.calling, x)) (args_turns c.args.calling) c.turns.found c.turns.cursor (read more_args (c.args.calling, c.args.found) c.args.cursor.now) c.in-Err.stop c.turns.invariant here c.in-Err.ensures

pub more_args-returns : goal.more_args-returns
unfolding sees parser more_args
more_args-returns t c =
    let gone : is k.Comma (head_kind tongue c.turns.cursor) ≡ false = cc in
    sym c.turns.invariant ∙ (args_turns c.args.calling).off c.turns.found c.turns.cursor gone
