use Rattle.std.proofs.Common.{sym, ap, ◌∙◌, ◌-◌}
use Rattle.lock_table.specs.Holds.{hold, is_counted, lowered, one_back}
use Rattle.lock_table.proofs.TableLaws.{idle_back, one_given_back}
use Rattle.lock_table.proofs.locks.Locks.release.Goals as goal

pub returns-then-not-is_counted-clause-after : goal.returns-then-not-is_counted-clause-after
returns-then-not-is_counted-clause-after c =
    let h = hold c.args.pid c.args.node.now c.args.mode c.args.owner in
    idle_back c.args.self.now h c.args.in_tran (ap is_counted (sym c.kept-kept.ensures) ∙ sym c.is_counted.ensures ∙ c.if-not-is_counted.true)

pub returns-clause-after : goal.returns-clause-after
returns-clause-after c =
    let h = hold c.args.pid c.args.node.now c.args.mode c.args.owner in
    c.keep.ensures ∙ one_given_back c.args.self.now h c.args.in_tran _ (ap is_counted (sym c.kept-kept.ensures) ∙ sym c.is_counted.ensures ∙ c.if-not-is_counted.false)
    (c.lowered-left.ensures ∙ ap (λ b. lowered b (c.kept-kept.result.counted - 1) c.kept-kept.result) c.remains.ensures ∙ ap (one_back c.args.in_tran h) c.kept-kept.ensures)
