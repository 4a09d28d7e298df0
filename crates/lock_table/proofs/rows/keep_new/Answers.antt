use Rattle.std.proofs.Common.{ap, sym, ◌∙◌, Some, cond}
use Rattle.std.specs.Option.{option_copied_mut}
use Rattle.std.specs.Ordering.{is_eq}
use Rattle.std.specs.BTreeMap.{get}
use Rattle.obj_kinds.specs.Order.{node_cmp}
use Rattle.lock_table.specs.Table.{Rows}
use Rattle.lock_table.specs.Holders.{holder_cmp}
use Rattle.lock_table.proofs.RowLaws.{found_put, lent_same, lent_put, new_row, err_then}
use Rattle.lock_table.proofs.rows.keep_new.Goals as goal

pub returns-in_err-insert-in-Some-clause-err : goal.returns-in_err-insert-in-Some-clause-err
returns-in_err-insert-in-Some-clause-err c =
    let lent = c.insert.new.self in
    err_then c.from_residual.result (lent_same c.args.rows.now (c.get_mut.follows.lender lent) c.args.node c.in-Some.holders.now lent (c.get_mut.follows.holds lent)
    (sym c.get_mut.ensures.value ∙ ap option_copied_mut c.in-Some.is) c.in_err-insert-in-Some.ensures.err)

pub returns-in_ok-insert-in-Some-clause-at : goal.returns-in_ok-insert-in-Some-clause-at
returns-in_ok-insert-in-Some-clause-at c =
    let lent = c.insert.new.self in
    lent_put c.args.rows.now (c.get_mut.follows.lender lent) c.args.node c.args.holder c.in-Some.holders.now lent (Some c.args.kept) (c.get_mut.follows.holds lent)
    (sym c.get_mut.ensures.value ∙ ap option_copied_mut c.in-Some.is) (c.in_ok-insert-in-Some.ensures.updates.0)

pub returns-in_ok-insert-in-None-2-clause-at : goal.returns-in_ok-insert-in-None-2-clause-at
returns-in_ok-insert-in-None-2-clause-at c =
    found_put c.args.rows.now c.insert-in-None-2.new.self c.args.node c.args.holder c.insert-in-None.new.self (Some c.args.kept)
    (λ q. c.in_ok-insert-in-None.ensures.updates.0 q
    ∙ ap (cond (is_eq (holder_cmp c.args.holder q)) (Some c.args.kept)) (new_row _ c.new-holders.result q (sym c.get_mut.ensures.value ∙ ap option_copied_mut c.in-None.is) c.new-holders.ensures.empty))
    (λ q. c.in_ok-insert-in-None-2.ensures.updates.0 q ∙ ap (λ (r : Rows). cond (is_eq (node_cmp c.args.node q)) (Some c.insert-in-None.new.self) (get node_cmp r q)) c.get_mut.follows.holds-at-none)
