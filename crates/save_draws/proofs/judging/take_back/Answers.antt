use Rattle.save_draws.proofs.DrawLaws.{popped}
use Rattle.save_draws.proofs.judging.take_back.Goals as goal

pub returns : goal.returns
returns c before x e = popped c.args.ids.now before c.pop.new.self x c.pop.result e c.pop.ensures
