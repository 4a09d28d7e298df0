use Rattle.std.proofs.Common.{rules, ◌≡◌, Some}
use Rattle.std.specs.Prelude.{slice_get}
use Rattle.save_draws.specs.Draws.{seen}
use Rattle.save_draws.proofs.DrawLaws.{asks_at}
use Rattle.save_draws.proofs.plan.DrawPlan.draw_next.Goals as goal

pub returns-in_ok-counter-in-Some-clause-says : goal.returns-in_ok-counter-in-Some-clause-says
returns-in_ok-counter-in-Some-clause-says c is_live =
    let there : slice_get c.args.self.now.drawing.news c.args.self.now.drawing.at ≡ Some c.in-Some.newcomer.now = search rules in
    asks_at is_live (seen c.args.self.now.drawing) c.args.self.now.phase c.in-Some.newcomer.now c.in_ok-counter-in-Some.counter c.requires there c.in_ok-counter-in-Some.ensures
