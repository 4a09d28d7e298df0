use Rattle.std.proofs.Common.{sym, ap, ◌∙◌}
use Rattle.obj_kinds.specs.Replies.{has_text}
use Rattle.store_core.proofs.Outcomes.{if_err}
use Rattle.store_core.proofs.QuietLaws.{quiet_tied}
use Rattle.store_core.proofs.StoreLaws.{tied_live}
use Rattle.store_core.proofs.told.told_turn.Goals as goal

pub returns-clause-err : goal.returns-clause-err
returns-clause-err c = λ s is.
    let live = tied_live s c.args.tree.now.globals c.args.locks.now c.args.logs.now.items c.args.pid is c.requires.pid.0 c.requires.live in
    if_err c.told_twice.result c.told_twice.ensures.err (λ e h.
    quiet_tied s c.args.pid c.args.op.now c.turn.new.tree.globals c.turn.new.locks c.turn.new.logs.items live
    (ap has_text (sym (c.in_ok-reply.ensures.reply s is)) ∙ h.1) (c.in_ok-reply.ensures.after s is))
