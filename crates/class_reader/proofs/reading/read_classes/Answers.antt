use Rattle.class_reader.proofs.GrammarReading.{grammar_is}
use Rattle.class_reader.proofs.reading.read_classes.Goals as goal

pub returns-clause-grammar : goal.returns-clause-grammar
returns-clause-grammar c = grammar_is c.args.text.now c.placed.result c.placed.ensures
