use Rattle.dump_reading.specs.Taking.{taken}
use Rattle.dump_reading.specs.LineReading.{line_step}
use Rattle.dump_reading.proofs.TakenLaws.{refused}
use Rattle.dump_reading.proofs.line.take_line.Goals as goal

pub returns-in-Err : goal.returns-in-Err
returns-in-Err c =
    refused line_step c.loop-byte.line c.take.new.self c.args.bytes.now c.loop-byte.byte-index (taken line_step c.args.line.now c.args.bytes.now) c.in-Err.stop c.loop-byte-test.true c.loop-byte.invariant.0 c.in-Err.ensures
