use Rattle.dump_reading.proofs.ExactLaws.{line_exact}
use Rattle.dump_reading.proofs.law.lines_are_read_exactly.Goals as goal

pub returns : goal.returns
returns c = line_exact
