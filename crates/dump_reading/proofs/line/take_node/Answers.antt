use Rattle.dump_reading.specs.Taking.{taken}
use Rattle.dump_reading.specs.NodeReading.{node_step}
use Rattle.dump_reading.proofs.TakenLaws.{refused}
use Rattle.dump_reading.proofs.line.take_node.Goals as goal

pub returns-in-Err : goal.returns-in-Err
returns-in-Err c =
    refused node_step c.loop-byte.node c.take.new.self c.args.bytes.now c.loop-byte.byte-index (taken node_step c.args.node.now c.args.bytes.now) c.in-Err.stop c.loop-byte-test.true c.loop-byte.invariant c.in-Err.ensures
