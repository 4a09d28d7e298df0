use Rattle.save_draws.specs.Draws.{is_live_in, seen}
use Rattle.save_draws.proofs.DrawLaws.{next_ok}
use Rattle.save_draws.proofs.plan.DrawPlan.next.Goals as goal

pub returns-clause-says : goal.returns-clause-says
returns-clause-says c =
    next_ok (is_live_in c.args.table.now) (seen c.args.self.now.drawing) (seen c.judge_reply.new.self.drawing) _ c.args.self.now.phase c.judge_reply.new.self.phase c.ask_or_tell.result
    c.in_ok-judge_reply.ensures.on c.ask_or_tell.ensures.says
