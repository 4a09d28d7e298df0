use Rattle.std.proofs.Common.{◌≡◌, ◌+◌, ◌*◌, ◌-◌, [], length}
use Rattle.text_reading.specs.Parsing.{many}
use Rattle.script_tokens.specs.declared.token.Kind.TheVariants as k
use Rattle.script_tokens.specs.ScriptKinds.{is, is_command}
use Rattle.script_tokens.specs.ScriptTongue.{tongue}
use Rattle.os_expressions.specs.Trees.{site}
use Rattle.os_expressions.specs.ScriptGrammar.{read, further_branch, further_command}
use Rattle.os_parse.proofs.commands.+command.Given as goal

abbrev pub decreases-nested_script : goal.decreases-nested_script
decreases-nested_script l = 16 * (64 - l.ground.depth) + 13

abbrev pub decreases-braces : goal.decreases-braces
decreases-braces l = 16 * (64 - l.ground.depth) + 0

abbrev pub decreases-block : goal.decreases-block
decreases-block l = 16 * (64 - l.ground.depth) + 1

abbrev pub decreases-branch : goal.decreases-branch
decreases-branch l = 16 * (64 - l.ground.depth) + 2

abbrev pub decreases-further_branch : goal.decreases-further_branch
decreases-further_branch l = 16 * (64 - l.ground.depth) + 3

abbrev pub decreases-more_branches : goal.decreases-more_branches
decreases-more_branches l = 16 * (64 - l.ground.depth) + 4

abbrev pub decreases-branches : goal.decreases-branches
decreases-branches l = 16 * (64 - l.ground.depth) + 5

abbrev pub decreases-otherwise : goal.decreases-otherwise
decreases-otherwise l = 16 * (64 - l.ground.depth) + 2

abbrev pub decreases-if_command : goal.decreases-if_command
decreases-if_command l = 16 * (64 - l.ground.depth) + 6

abbrev pub decreases-for_command : goal.decreases-for_command
decreases-for_command l = 16 * (64 - l.ground.depth) + 2

abbrev pub decreases-while_command : goal.decreases-while_command
decreases-while_command l = 16 * (64 - l.ground.depth) + 2

abbrev pub decreases-command : goal.decreases-command
decreases-command l = 16 * (64 - l.ground.depth) + 7

abbrev pub decreases-further_command : goal.decreases-further_command
decreases-further_command l = 16 * (64 - l.ground.depth) + 8

abbrev pub decreases-commands : goal.decreases-commands
decreases-commands l = 16 * (64 - l.ground.depth) + 9

abbrev pub decreases-script : goal.decreases-script
decreases-script l = 16 * (64 - l.ground.depth) + 10

abbrev pub invariant-more_branches-turns : goal.invariant-more_branches-turns
invariant-more_branches-turns l =
    (l.marks ≡ l.initial.marks)
    × (many tongue (is k.ElseIf) (λ x. read further_branch (site l.initial.marks l.ground, x)) l.found l.cursor ≡ many tongue (is k.ElseIf) (λ x. read further_branch (site l.initial.marks l.ground, x)) l.initial.found l.initial.cursor)

abbrev pub decreases-more_branches-turns : goal.decreases-more_branches-turns
decreases-more_branches-turns l = length l.cursor

abbrev pub invariant-commands-turns : goal.invariant-commands-turns
invariant-commands-turns l =
    (l.marks ≡ l.initial.marks)
    × (many tongue (is_command) (λ x. read further_command (site l.initial.marks l.ground, x)) l.found l.cursor ≡ many tongue (is_command) (λ x. read further_command (site l.initial.marks l.ground, x)) [] l.initial.cursor)

abbrev pub decreases-commands-turns : goal.decreases-commands-turns
decreases-commands-turns l = length l.cursor
