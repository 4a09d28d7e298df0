use Rattle.std.proofs.Common.{◌≡◌, ◌∙◌, true, false, Ok, sym, subst}
use Rattle.text_reading.specs.Tokens.{head_kind}
use Rattle.text_reading.specs.Parsing.{sees, Fails}
use Rattle.text_reading.specs.Phrases.{parser}
use Rattle.text_reading.proofs.PhraseLoops.{fails_on}
use Rattle.script_tokens.specs.declared.token.Kind.TheVariants as k
use Rattle.script_tokens.specs.ScriptKinds.{is, is_command}
use Rattle.script_tokens.specs.ScriptTongue.{tongue}
use Rattle.os_expressions.specs.Trees.{site}
use Rattle.os_expressions.specs.ScriptGrammar.{read, further_branch, more_branches, further_command, commands}
use Rattle.os_parse.proofs.BranchTurns.{branches_turns}
use Rattle.os_parse.proofs.CommandTurns.{commands_turns}
use Rattle.os_parse.proofs.commands.+command.Goals as goal

pub more_branches-turns-smaller : goal.more_branches-turns-smaller
more_branches-turns-smaller t c = (branches_turns (site c.turns.marks c.args.ground)).shrinks c.turns.found c.in-Ok.more c.turns.cursor c.further_branch.new.cursor c.in-Ok.ensures.reads

pub more_branches-turns-preserved : goal.more_branches-turns-preserved
unfolding sees
more_branches-turns-preserved t c =
    let here : is k.ElseIf (head_kind tongue c.turns.cursor) ≡ true = cc in
    let one : read further_branch ((site c.args.marks.now c.args.ground), c.turns.found) c.turns.cursor ≡ Ok (c.in-Ok.more, c.further_branch.new.cursor)
    = subst (λ m. read further_branch (site m c.args.ground, c.turns.found) c.turns.cursor ≡ Ok (c.in-Ok.more, c.further_branch.new.cursor)) c.turns.invariant.0 c.in-Ok.ensures.reads in
    (c.in-Ok.ensures.text ∙ c.turns.invariant.0, sym ((branches_turns (site c.args.marks.now c.args.ground)).on c.turns.found c.in-Ok.more c.turns.cursor c.further_branch.new.cursor here one) ∙ c.turns.invariant.1)

pub more_branches-returns-in-Err-clause-reads : goal.more_branches-returns-in-Err-clause-reads
unfolding sees parser more_branches
more_branches-returns-in-Err-clause-reads t c =
    let here : is k.ElseIf (head_kind tongue c.turns.cursor) ≡ true = cc in
    let one : Fails (read further_branch ((site c.args.marks.now c.args.ground), c.turns.found) c.turns.cursor) c.in-Err.stop
    = subst (λ m. Fails (read further_branch (site m c.args.ground, c.turns.found) c.turns.cursor) c.in-Err.stop) c.turns.invariant.0 c.in-Err.ensures.reads in
    fails_on tongue (is k.ElseIf) (λ x. read further_branch ((site c.args.marks.now c.args.ground), x)) (branches_turns (site c.args.marks.now c.args.ground)) c.turns.found c.turns.cursor (read more_branches (site c.args.marks.now c.args.ground, c.args.found) c.args.cursor.now) c.in-Err.stop c.turns.invariant.1 here one

pub more_branches-returns-clause-reads : goal.more_branches-returns-clause-reads
unfolding sees parser more_branches
more_branches-returns-clause-reads t c =
    let gone : is k.ElseIf (head_kind tongue c.turns.cursor) ≡ false = cc in
    sym c.turns.invariant.1 ∙ (branches_turns (site c.args.marks.now c.args.ground)).off c.turns.found c.turns.cursor gone

pub commands-turns-smaller : goal.commands-turns-smaller
commands-turns-smaller t c = (commands_turns (site c.turns.marks c.args.ground)).shrinks c.turns.found c.in-Ok.more c.turns.cursor c.further_command.new.cursor c.in-Ok.ensures.reads

pub commands-turns-preserved : goal.commands-turns-preserved
unfolding sees
commands-turns-preserved t c =
    let here : is_command (head_kind tongue c.turns.cursor) ≡ true = cc in
    let one : read further_command ((site c.args.marks.now c.args.ground), c.turns.found) c.turns.cursor ≡ Ok (c.in-Ok.more, c.further_command.new.cursor)
    = subst (λ m. read further_command (site m c.args.ground, c.turns.found) c.turns.cursor ≡ Ok (c.in-Ok.more, c.further_command.new.cursor)) c.turns.invariant.0 c.in-Ok.ensures.reads in
    (c.in-Ok.ensures.text ∙ c.turns.invariant.0, sym ((commands_turns (site c.args.marks.now c.args.ground)).on c.turns.found c.in-Ok.more c.turns.cursor c.further_command.new.cursor here one) ∙ c.turns.invariant.1)

pub commands-returns-in-Err-clause-reads : goal.commands-returns-in-Err-clause-reads
unfolding sees parser commands
commands-returns-in-Err-clause-reads t c =
    let here : is_command (head_kind tongue c.turns.cursor) ≡ true = cc in
    let one : Fails (read further_command ((site c.args.marks.now c.args.ground), c.turns.found) c.turns.cursor) c.in-Err.stop
    = subst (λ m. Fails (read further_command (site m c.args.ground, c.turns.found) c.turns.cursor) c.in-Err.stop) c.turns.invariant.0 c.in-Err.ensures.reads in
    fails_on tongue (is_command) (λ x. read further_command ((site c.args.marks.now c.args.ground), x)) (commands_turns (site c.args.marks.now c.args.ground)) c.turns.found c.turns.cursor (read commands (site c.args.marks.now c.args.ground) c.args.cursor.now) c.in-Err.stop c.turns.invariant.1 here one

pub commands-returns-clause-reads : goal.commands-returns-clause-reads
unfolding sees parser commands
commands-returns-clause-reads t c =
    let gone : is_command (head_kind tongue c.turns.cursor) ≡ false = cc in
    sym c.turns.invariant.1 ∙ (commands_turns (site c.args.marks.now c.args.ground)).off c.turns.found c.turns.cursor gone
