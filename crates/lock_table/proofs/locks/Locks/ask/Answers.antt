use Rattle.std.proofs.Common.{sym, ap, subst, ◌∙◌, cond, is_some}
use Rattle.lock_table.specs.Holds.{Holds, hold, granted}
use Rattle.lock_table.specs.Holders.{hold_on}
use Rattle.lock_table.specs.Conflict.{refusing, told}
use Rattle.lock_table.specs.Against.{IsVerdict}
use Rattle.lock_table.proofs.TableLaws.{refused_by, free_of}
use Rattle.lock_table.proofs.locks.Locks.ask.Goals as goal

pub returns-in-Refused-clause-reply : goal.returns-in-Refused-clause-reply
returns-in-Refused-clause-reply c =
    let h = hold c.args.pid c.args.node.now c.args.mode c.args.owner in
    let verdict = subst (IsVerdict c.self.inside.rows c.args.pid c.args.mode c.args.node.now) c.in-Refused.is c.in_ok-node.ensures in
    let is = refused_by c.self.inside.rows c.self.invariant.ordered c.args.pid c.args.node.now c.args.mode c.args.owner (hold_on c.in-Refused.node c.in-Refused.holder) verdict in
    sym (ap told (ap (λ (v : Holds). refusing v h) (sym c.self.view_is) ∙ is))

pub returns-in-Refused-clause-after : goal.returns-in-Refused-clause-after
returns-in-Refused-clause-after c =
    let h = hold c.args.pid c.args.node.now c.args.mode c.args.owner in
    let verdict = subst (IsVerdict c.self.inside.rows c.args.pid c.args.mode c.args.node.now) c.in-Refused.is c.in_ok-node.ensures in
    let is = refused_by c.self.inside.rows c.self.invariant.ordered c.args.pid c.args.node.now c.args.mode c.args.owner (hold_on c.in-Refused.node c.in-Refused.holder) verdict in
    sym (ap (λ o. cond (is_some o) c.args.self.now (granted c.args.self.now h c.args.keep)) (ap (λ (v : Holds). refusing v h) (sym c.self.view_is) ∙ is))

pub returns-in_ok-grant-in-Free-clause-reply : goal.returns-in_ok-grant-in-Free-clause-reply
returns-in_ok-grant-in-Free-clause-reply c =
    let h = hold c.args.pid c.args.node.now c.args.mode c.args.owner in
    let verdict = subst (IsVerdict c.self.inside.rows c.args.pid c.args.mode c.args.node.now) c.in-Free.is c.in_ok-node.ensures in
    let is = free_of c.self.inside.rows c.self.invariant.ordered c.args.pid c.args.node.now c.args.mode c.args.owner verdict.0 in
    sym (ap told (ap (λ (v : Holds). refusing v h) (sym c.self.view_is) ∙ is))

pub returns-in_ok-grant-in-Free-clause-after : goal.returns-in_ok-grant-in-Free-clause-after
returns-in_ok-grant-in-Free-clause-after c =
    let h = hold c.args.pid c.args.node.now c.args.mode c.args.owner in
    let verdict = subst (IsVerdict c.self.inside.rows c.args.pid c.args.mode c.args.node.now) c.in-Free.is c.in_ok-node.ensures in
    let is = free_of c.self.inside.rows c.self.invariant.ordered c.args.pid c.args.node.now c.args.mode c.args.owner verdict.0 in
    c.in_ok-grant-in-Free.ensures.ok ∙ ap (λ n. granted c.args.self.now (hold c.args.pid n c.args.mode c.args.owner) c.args.keep) verdict.1
    ∙ sym (ap (λ o. cond (is_some o) c.args.self.now (granted c.args.self.now h c.args.keep)) (ap (λ (v : Holds). refusing v h) (sym c.self.view_is) ∙ is))
