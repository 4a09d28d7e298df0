use Rattle.std.proofs.Common.{◌≡◌, suc, length, sym, ap, ◌∙◌, arith}
use Rattle.method_table.specs.Places.{round, rounds}
use Rattle.method_table.proofs.Tables.{settled}
use Rattle.method_table.proofs.gather.gather_all.Goals as goal

pub returns-then-are_same : goal.returns-then-are_same
returns-then-are_same c =
    let long : length c.as_slice-classes.result.now ≡ length c.args.schema.now = ap length (c.as_slice-classes.ensures ∙ c.classes.ensures) in
    settled c.args.schema.now c.loop-made._made c.in_ok-next.next c.loop-made.tables c.loop-made.invariant (c.in_ok-next.ensures ∙ ap (round c.args.schema.now) c.as_slice.ensures)
    (sym c.as_slice-in-loop-made.ensures ∙ c.are_same.ensures c.if-are_same.true ∙ c.as_slice-in-loop-made-2.ensures) (omega (arith, c.loop-made-test.true, long))

pub returns : goal.returns
returns c =
    let long : length c.as_slice-classes.result.now ≡ length c.args.schema.now = ap length (c.as_slice-classes.ensures ∙ c.classes.ensures) in
    let all : c.loop-made._made ≡ suc (length c.args.schema.now) = omega (arith, c.loop-made-test.false, c.loop-made.auto._made-end, long) in
    c.loop-made.invariant ∙ ap (rounds c.args.schema.now) all
