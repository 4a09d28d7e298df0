use Rattle.std.proofs.Common.{ap, sym, ◌∙◌, cond}
use Rattle.lock_table.specs.Holders.{some_held}
use Rattle.lock_table.specs.Table.{found, is_here}
use Rattle.lock_table.proofs.RowLaws.{change_none, change_some}
use Rattle.lock_table.proofs.rows.change_hold.Goals as goal

pub returns-in-Some-clause-at : goal.returns-in-Some-clause-at
returns-in-Some-clause-at c =
    let there = sym c.look_up.ensures ∙ c.in-Some.is in
    change_some c.args.rows.now c.keep_anew.new.rows c.args.node.now c.args.holder c.args.change c.in-Some.kept there
    (λ q. c.keep_anew.ensures.at q ∙ ap (λ k. cond (is_here c.args.node.now c.args.holder q) (some_held k) (found c.args.rows.now q)) c.apply.ensures)

pub returns-in_default-clause-at : goal.returns-in_default-clause-at
returns-in_default-clause-at c = change_none c.args.rows.now c.args.rows.now c.args.node.now c.args.holder c.args.change (sym c.look_up.ensures ∙ c.in_default.is)
