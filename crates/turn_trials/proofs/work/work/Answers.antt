use Rattle.std.proofs.Common.{refl}
use Rattle.turn_trials.proofs.Working.{steps}
use Rattle.turn_trials.proofs.work.work.Goals as goal

pub loop-op-preserved : goal.loop-op-preserved
loop-op-preserved g c =
    let entry = c.if-not-ask.ensures.asked refl in
    steps c.args.seat c.loop-op.seat c.ask.new.seat c.args.pid c.args.plan.ops.items c.loop-op.ops.items c.pop_front.new.self.items c.in-Some.op entry.0 c.loop-op.invariant c.in-Some.ensures.items entry.1 entry.2 entry.3
