use Rattle.std.proofs.Common.{sym, ap, ◌∙◌, unwrap_or}
use Rattle.lock_table.specs.Holds.{Holds, hold, kept, unheld}
use Rattle.lock_table.proofs.TableLaws.{kept_is}
use Rattle.lock_table.proofs.locks.Locks.kept.Goals as goal

pub returns-in-Some : goal.returns-in-Some
returns-in-Some c =
    let h = hold c.args.pid c.args.node.now c.args.mode c.args.owner in
    sym (ap (λ (v : Holds). kept v h) (sym c.self.view_is) ∙ kept_is c.self.inside.rows c.self.invariant.ordered h c.look_up.result c.look_up.ensures ∙ ap (λ o. unwrap_or o unheld) c.in-Some.is)

pub returns-in-None : goal.returns-in-None
returns-in-None c =
    let h = hold c.args.pid c.args.node.now c.args.mode c.args.owner in
    c.unheld.ensures ∙ sym (ap (λ (v : Holds). kept v h) (sym c.self.view_is) ∙ kept_is c.self.inside.rows c.self.invariant.ordered h c.look_up.result c.look_up.ensures ∙ ap (λ o. unwrap_or o unheld) c.in-None.is)
