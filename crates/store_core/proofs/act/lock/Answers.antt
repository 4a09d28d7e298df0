use Rattle.std.proofs.Common.{◌∙◌, ◌<◌, subst}
use Rattle.lock_table.specs.Holds.{hold}
use Rattle.store_core.specs.Volume.{reply_volume}
use Rattle.store_core.proofs.Outcomes.{if_err}
use Rattle.store_core.proofs.Rooms.{held_same}
use Rattle.store_core.proofs.act.lock.Goals as goal

pub returns-clause-err : goal.returns-clause-err
returns-clause-err c =
    let h = hold c.args.pid c.args.node.now c.args.mode c.args.owner in
    if_err c.fits.result c.fits.ensures.err (λ e small.
    c.in_ok-reply.ensures.after ∙ held_same c.args.locks.now h c.args.keep c.args.room (subst (λ r. c.args.room < reply_volume r) c.in_ok-reply.ensures.reply small.1))
