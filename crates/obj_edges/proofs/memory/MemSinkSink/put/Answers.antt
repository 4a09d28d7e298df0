use Rattle.obj_edges.proofs.Fronts.{adds_front}
use Rattle.obj_edges.proofs.memory.MemSinkSink.put.Goals as goal

pub returns-clause-failed : goal.returns-clause-failed
returns-clause-failed c failed = let front = c.put.ensures.failed failed in adds_front _ _ _ front.0 front.1
