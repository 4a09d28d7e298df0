use Rattle.std.proofs.Common.{◌<◌, ◌≤◌, arith, length, subst}
use Rattle.lock_table.proofs.AgainstLaws.{none_before_first, stops_at, goes_on, way_is, last_stop, grown, whole}
use Rattle.lock_table.proofs.refusal.refuser.Goals as goal

pub loop-sub-init : goal.loop-sub-init
loop-sub-init c = (c.in_ok-copy.ensures, c.new.ensures, none_before_first c.args.rows.now c.args.pid c.args.mode c.args.node.now)

pub returns-in-Some : goal.returns-in-Some
returns-in-Some c =
    let before = c.loop-sub.invariant in
    stops_at c.args.rows.now c.args.pid c.args.mode c.args.node.now c.loop-sub.way c.loop-sub.sub-index c.refuser_at.result c.in-Some.holder
    (way_is c.loop-sub.way c.args.node.now c.loop-sub.sub-index before.0 before.1) before.2 c.refuser_at.ensures c.in-Some.is

pub loop-sub-preserved : goal.loop-sub-preserved
loop-sub-preserved c =
    let before = c.loop-sub.invariant in
    let lt = subst (λ l. c.loop-sub.sub-index < length l) c.as_slice-sub-items.ensures c.loop-sub-test.true in
    let subs = grown c.push.new.self c.loop-sub.way.subs c.as_slice-sub-items.result.now c.args.node.now.subs c.loop-sub.sub-index c.in_ok-copy-2.field-0 c.sub-item.result
    c.in_ok-push.ensures.ok c.in_ok-copy-2.ensures before.1 c.as_slice-sub-items.ensures c.sub-item.is c.loop-sub-test.true in (
      before.0,
      subs,
      goes_on c.args.rows.now c.args.pid c.args.mode c.args.node.now c.loop-sub.way c.loop-sub.sub-index c.refuser_at.result
          (way_is c.loop-sub.way c.args.node.now c.loop-sub.sub-index before.0 before.1) lt before.2 c.refuser_at.ensures c.in_default.is,
    )

pub returns-in_ok-node-in-Some-refuser_under : goal.returns-in_ok-node-in-Some-refuser_under
returns-in_ok-node-in-Some-refuser_under c =
    let before = c.loop-sub.invariant in
    let ends : length c.as_slice-sub-items.result.now ≤ c.loop-sub.sub-index = omega (arith, c.loop-sub-test.false) in
    let subs = whole c.loop-sub.way.subs c.as_slice-sub-items.result.now c.args.node.now.subs c.loop-sub.sub-index before.1 c.as_slice-sub-items.ensures ends in
    last_stop c.args.rows.now c.args.pid c.args.mode c.args.node.now c.loop-sub.way c.refuser_under.result c.in-Some-refuser_under.place c.in-Some-refuser_under.holder c.in_ok-node-in-Some-refuser_under.node
    (λ i. record { global = before.0 i; subs = subs i }) c.refuser_under.ensures c.in-Some-refuser_under.is c.in_ok-node-in-Some-refuser_under.ensures
