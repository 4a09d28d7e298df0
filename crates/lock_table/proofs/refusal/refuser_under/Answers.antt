use Rattle.std.proofs.Common.{sym, subst, ◌∙◌}
use Rattle.std.specs.Map.Iter.{deref_pair}
use Rattle.std.proofs.lemmas.Map.Iter.{rest_more}
use Rattle.lock_table.proofs.AgainstLaws.{IsLeft, left_first, run_ends, run_stops, run_goes_on}
use Rattle.lock_table.proofs.refusal.refuser_under.Goals as goal

pub loop-place-init : goal.loop-place-init
loop-place-init c =
    subst (IsLeft c.args.rows.now c.args.pid c.args.mode c.args.node.now) (sym c.into_iter-place-iterator.ensures.into_iter_gives)
    (left_first c.args.rows.now c.args.pid c.args.mode c.args.node.now c.range-place-items.result c.requires c.range-place-items.ensures.ordered
    (c.range-place-items.ensures.between tt) (c.range-place-items.ensures.in_range tt).0)

pub returns-then-not-covers : goal.returns-then-not-covers
returns-then-not-covers c =
    let is = rest_more deref_pair c.loop-place.place-iterator c.next.new.self c.next.result (c.in-Some.place, c.in-Some.holders) c.in-Some.is c.next.ensures.steps in
    let ahead = subst (IsLeft c.args.rows.now c.args.pid c.args.mode c.args.node.now) is c.loop-place.invariant in
    run_ends c.args.rows.now c.args.pid c.args.mode c.args.node.now (c.in-Some.place.now, c.in-Some.holders.now) c.next.new.self ahead (sym c.covers.ensures ∙ c.if-not-covers.true)

pub returns-in-Some-first_against : goal.returns-in-Some-first_against
returns-in-Some-first_against c =
    let is = rest_more deref_pair c.loop-place.place-iterator c.next.new.self c.next.result (c.in-Some.place, c.in-Some.holders) c.in-Some.is c.next.ensures.steps in
    let ahead = subst (IsLeft c.args.rows.now c.args.pid c.args.mode c.args.node.now) is c.loop-place.invariant in
    run_stops c.args.rows.now c.args.pid c.args.mode c.args.node.now (c.in-Some.place.now, c.in-Some.holders.now) c.next.new.self ahead c.in-Some-first_against.holder
    (sym c.in-Some-first_against.is ∙ c.first_against.ensures.first) c.first_against.ensures.ordered (sym c.covers.ensures ∙ c.if-not-covers.false)

pub loop-place-preserved : goal.loop-place-preserved
loop-place-preserved c =
    let is = rest_more deref_pair c.loop-place.place-iterator c.next.new.self c.next.result (c.in-Some.place, c.in-Some.holders) c.in-Some.is c.next.ensures.steps in
    let ahead = subst (IsLeft c.args.rows.now c.args.pid c.args.mode c.args.node.now) is c.loop-place.invariant in
    run_goes_on c.args.rows.now c.args.pid c.args.mode c.args.node.now (c.in-Some.place.now, c.in-Some.holders.now) c.next.new.self ahead
    (sym c.in_default.is ∙ c.first_against.ensures.first) c.first_against.ensures.ordered
