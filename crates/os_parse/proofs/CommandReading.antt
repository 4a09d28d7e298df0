-- What the code of scripts in braces stands on.
use Rattle.std.proofs.Common.{◌≡◌, false}
use Rattle.text_reading.proofs.PhraseRules.{rule_reads}
use Rattle.script_tokens.specs.ScriptTongue.{tongue, Tokens}
use Rattle.script_tokens.proofs.AllKinds.{all_kinds}
use Rattle.os_expressions.specs.Trees.{Site}
use Rattle.os_expressions.specs.ScriptGrammar.{grammar, Script, nested, read, script}
use Rattle.os_expressions.proofs.GrammarFits.{rule_fits}

pub script_is : (s : Site) (ts : Tokens) → nested Script s ts ≡ read script s ts
script_is s ts = rule_reads tongue all_kinds.list grammar rule_fits false Script s ts
