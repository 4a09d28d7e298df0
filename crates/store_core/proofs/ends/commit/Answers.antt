use Rattle.std.proofs.Common.{ℕ, ◌∙◌, ap, cond, arith}
use Rattle.store_core.specs.Volume.{reply_volume}
use Rattle.store_core.proofs.Rooms.{volume_left}
use Rattle.store_core.proofs.ends.commit.Goals as goal

pub returns-in_err-pay-clause-volume : goal.returns-in_err-pay-clause-volume
returns-in_err-pay-clause-volume c = λ _.
    let is = volume_left c.args.log.now in
    let test = ap {B = ℕ} (λ b. cond b 8 0) c.is_open-was_open.ensures in
    omega (arith, is, test, c.in_err-pay.ensures.err.1)

pub returns-clause-reply : goal.returns-clause-reply
returns-clause-reply c =
    let same = c.left_number.ensures c.args.log.now c.in_ok-ended.ensures.ended in
    let is = ap reply_volume same ∙ volume_left c.args.log.now in
    let test = ap {B = ℕ} (λ b. cond b 8 0) c.is_open-was_open.ensures in
    (same, omega (arith, is, test, c.in_ok-pay.ensures.ok))
