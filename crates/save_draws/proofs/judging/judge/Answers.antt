use Rattle.std.proofs.Common.{rules, ◌≡◌, Some, sym, ap, ◌∙◌}
use Rattle.std.specs.Prelude.{slice_get}
use Rattle.read_plan.specs.Reads.{tried_of}
use Rattle.save_draws.specs.Draws.{is_live_in, seen}
use Rattle.save_draws.proofs.DrawLaws.{judged_lost, judged_kept}
use Rattle.save_draws.proofs.judging.judge.Goals as goal

pub returns-in-Err-clause-ok : goal.returns-in-Err-clause-ok
returns-in-Err-clause-ok c =
    let there : slice_get c.args.drawing.now.news c.args.drawing.now.at ≡ Some c.in-Some.newcomer.now = search rules in
    judged_lost (is_live_in c.args.table.now) (seen c.args.drawing.now) c.in-Some.newcomer.now c.args.reply.now there c.in-Err.cause (sym (ap tried_of c.in-Err.is) ∙ c.in_ok-cause.ensures)

pub returns-in_ok-keep-in-Ok-clause-ok : goal.returns-in_ok-keep-in-Ok-clause-ok
returns-in_ok-keep-in-Ok-clause-ok c =
    let there : slice_get c.args.drawing.now.news c.args.drawing.now.at ≡ Some c.in-Some.newcomer.now = search rules in
    judged_kept (is_live_in c.args.table.now) (seen c.args.drawing.now) c.in-Some.newcomer.now c.args.reply.now there c.in-Ok.key (seen c.keep.new.drawing)
    (sym (ap tried_of c.in-Ok.is) ∙ c.in_ok-cause.ensures) c.in_ok-keep-in-Ok.ensures.ok
