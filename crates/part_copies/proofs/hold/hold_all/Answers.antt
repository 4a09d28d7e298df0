use Rattle.std.proofs.Common.{IsSome, take, slice_index_or, ap, sym, subst, ◌∙◌}
use Rattle.std.proofs.lemmas.List.{take_more}
use Rattle.oref_table.specs.Memory.{Memory, object_of, edited, tighten}
use Rattle.part_copies.specs.Holding.{tightened}
use Rattle.part_copies.proofs.HoldLaws.{hold-more, live-at, live-take, tight-found, tight-none}
use Rattle.part_copies.proofs.hold.hold_all.Goals as goal

pub loop-at-init : goal.loop-at-init
loop-at-init c = sym (tight-none c.args.table.now)

pub hold-requires : goal.hold-requires
hold-requires c =
    subst (λ (x : Memory). IsSome (object_of (slice_index_or c.args.numbers.now c.loop-at.at 0) x.objects)) (sym c.loop-at.invariant)
    (tight-found c.args.table.now (take c.loop-at.at c.args.numbers.now) (slice_index_or c.args.numbers.now c.loop-at.at 0) (live-at c.args.table.now c.args.numbers.now c.loop-at.at c.loop-at-test.true c.requires))

pub let_all_go-requires : goal.let_all_go-requires
let_all_go-requires c = (c.args.table.now, c.standing.ensures, live-take c.args.table.now c.args.numbers.now c.loop-at.at c.requires, c.in-Err.ensures.err.1 ∙ c.loop-at.invariant)

pub loop-at-preserved : goal.loop-at-preserved
loop-at-preserved c =
    let n = slice_index_or c.args.numbers.now c.loop-at.at 0 in
    c.park.ensures.same ∙ c.in-Ok.ensures.ok ∙ ap (λ x. edited x n tighten) c.loop-at.invariant
    ∙ hold-more c.args.table.now (take c.loop-at.at c.args.numbers.now) n c.standing.ensures.sound
    ∙ ap (tightened c.args.table.now) (sym (take_more c.args.numbers.now c.loop-at.at 0 c.loop-at-test.true))
