use Rattle.std.proofs.Common.{◌≡◌, [], length}
use Rattle.text_reading.specs.Parsing.{many}
use Rattle.script_tokens.specs.ScriptKinds.{is_sign}
use Rattle.script_tokens.specs.ScriptTongue.{tongue}
use Rattle.os_expressions.specs.ScriptGrammar.{read, one_sign}
use Rattle.os_expressions.proofs.expressions.signs.Given as goal

abbrev pub invariant-turns : goal.invariant-turns
invariant-turns l =
    many tongue is_sign (λ x. read one_sign (l.bars, x)) l.found l.cursor ≡ many tongue is_sign (λ x. read one_sign (l.bars, x)) [] l.initial.cursor

abbrev pub decreases-turns : goal.decreases-turns
decreases-turns l = length l.cursor
