use Rattle.std.proofs.Common.{ap, sym, ◌∙◌}
use Rattle.std.specs.Option.{option_copied_mut}
use Rattle.lock_table.specs.Holders.{some_held}
use Rattle.lock_table.proofs.RowLaws.{lent_put}
use Rattle.lock_table.proofs.rows.rekeep_at.Goals as goal

pub returns-in-Some-clause-at : goal.returns-in-Some-clause-at
returns-in-Some-clause-at c =
    let lent = c.rekeep.new.holders in
    lent_put c.args.rows.now (c.get_mut.follows.lender lent) c.args.node.now c.args.holder c.in-Some.holders.now lent (some_held c.args.kept) (c.get_mut.follows.holds lent)
    (sym c.get_mut.ensures.value ∙ ap option_copied_mut c.in-Some.is) c.rekeep.ensures
