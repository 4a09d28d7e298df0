use Rattle.std.proofs.Common.{◌≡◌, length}
use Rattle.text_reading.specs.Parsing.{many}
use Rattle.script_tokens.specs.declared.token.Kind.TheVariants as k
use Rattle.script_tokens.specs.ScriptKinds.{is}
use Rattle.script_tokens.specs.ScriptTongue.{tongue}
use Rattle.os_expressions.specs.ScriptGrammar.{read, newline}
use Rattle.os_parse.proofs.commands.newlines.Given as goal

abbrev pub invariant-turns : goal.invariant-turns
invariant-turns l = many tongue (is k.Newline) (λ x. read newline x) tt l.cursor ≡ many tongue (is k.Newline) (λ x. read newline x) tt l.initial.cursor

abbrev pub decreases-turns : goal.decreases-turns
decreases-turns l = length l.cursor
