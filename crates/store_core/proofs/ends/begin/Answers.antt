use Rattle.std.proofs.Common.{ℕ, ◌∙◌, ap, cond, arith}
use Rattle.store_core.specs.Volume.{reply_volume}
use Rattle.tran_log.specs.Levels.{kept_by}
use Rattle.tran_log.proofs.OwedLaws.{kept_begun}
use Rattle.store_core.proofs.Rooms.{volume_begun}
use Rattle.store_core.proofs.ends.begin.Goals as goal

pub returns-in_err-pay-clause-volume : goal.returns-in_err-pay-clause-volume
returns-in_err-pay-clause-volume c = λ _.
    let is = volume_begun c.args.log.now in
    let test = ap {B = ℕ} (λ b. cond b 8 0) c.may_begin.ensures in
    omega (arith, is, test, c.in_err-pay.ensures.err.1)

pub returns-clause-reply : goal.returns-clause-reply
returns-clause-reply c =
    let same = c.begun_number.ensures c.args.log.now c.in_ok-begun.ensures.begun in
    let is = ap reply_volume same ∙ volume_begun c.args.log.now in
    let test = ap {B = ℕ} (λ b. cond b 8 0) c.may_begin.ensures in
    (same, omega (arith, is, test, c.in_ok-pay.ensures.ok))

pub returns-clause-kept : goal.returns-clause-kept
returns-clause-kept c = λ n. ap (λ ls. kept_by ls n) c.in_ok-begun.ensures.levels ∙ kept_begun c.args.log.now n
