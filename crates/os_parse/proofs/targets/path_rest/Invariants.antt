use Rattle.std.proofs.Common.{◌≡◌, length}
use Rattle.text_reading.specs.Parsing.{many}
use Rattle.script_tokens.specs.ScriptTongue.{tongue}
use Rattle.os_expressions.specs.ScriptGrammar.{read, goes_on, path_step}
use Rattle.os_parse.proofs.targets.path_rest.Given as goal

abbrev pub invariant-turns : goal.invariant-turns
invariant-turns l =
    many tongue (goes_on) (λ x. read path_step (l.depth, x)) l.found l.cursor ≡ many tongue (goes_on) (λ x. read path_step (l.depth, x)) l.initial.found l.initial.cursor

abbrev pub decreases-turns : goal.decreases-turns
decreases-turns l = length l.cursor
