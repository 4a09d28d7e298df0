use Rattle.os_parse.proofs.ScriptLaw.{grammar_is}
use Rattle.os_parse.proofs.reading.read_script.Goals as goal

pub returns-clause-grammar : goal.returns-clause-grammar
returns-clause-grammar c = grammar_is (record { start = record { line = c.args.line; column = c.args.column }; text = c.args.text.now }) c.placed_script.result c.placed_script.ensures
