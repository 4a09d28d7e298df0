use Rattle.std.proofs.Common.{sym, ap, ◌∙◌}
use Rattle.lock_table.specs.Holds.{Holds, kept, raised, granted}
use Rattle.lock_table.specs.Holders.{hold_on}
use Rattle.lock_table.specs.Table.{holds_of}
use Rattle.lock_table.proofs.TableLaws.{table_listed, table_new, granted_holds, same_holds, on_ok, on_err}
use Rattle.lock_table.proofs.locks.Locks.grant.Goals as goal

pub invariant_of-self-2 : goal.invariant_of-self-2
invariant_of-self-2 c =
    let h = hold_on c.args.node c.args.holder in
    let raise = c.raised-kept.ensures ∙ ap (raised c.args.keep) (c.kept.ensures ∙ ap (λ (v : Holds). kept v h) (sym c.self.view_is)) in
    table_new c.keep_new.result c.self.inside.rows c.keep_new.new.rows c.list.new.listed c.args.node c.args.holder c.args.keep c.raised-kept.result (kept (holds_of c.self.inside.rows) h) raise
    (table_listed c.self.inside.rows c.self.inside.listed c.list.new.listed c.self.invariant c.list.ensures.keeps) c.in_ok-list.ensures.ok c.keep_new.ensures.ordered c.keep_new.ensures.at c.keep_new.ensures.err

pub returns-clause-ok : goal.returns-clause-ok
returns-clause-ok c =
    let h = hold_on c.args.node c.args.holder in
    let raise = c.raised-kept.ensures ∙ ap (raised c.args.keep) (c.kept.ensures ∙ ap (λ (v : Holds). kept v h) (sym c.self.view_is)) in
    on_ok c.keep_new.result (λ at. granted_holds c.self.inside.rows c.keep_new.new.rows c.self.invariant.ordered c.keep_new.ensures.ordered c.args.node c.args.holder c.args.keep c.raised-kept.result raise at
    ∙ ap (λ (v : Holds). granted v h c.args.keep) c.self.view_is) c.keep_new.ensures.at

pub returns-clause-err : goal.returns-clause-err
returns-clause-err c = on_err c.keep_new.result (λ same. same_holds c.self.inside.rows c.keep_new.new.rows c.self.invariant.ordered c.keep_new.ensures.ordered same ∙ c.self.view_is) c.keep_new.ensures.err
