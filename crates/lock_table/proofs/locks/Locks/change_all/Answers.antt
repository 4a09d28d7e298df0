use Rattle.std.proofs.Common.{◌≡◌, sym, ap, subst, ◌∙◌, ◌==◌, cond}
use Rattle.std.specs.FinMap.{get}
use Rattle.std.specs.Option.{option_copied_mut}
use Rattle.lock_table.specs.declared.hold.Hold.{Hold}
use Rattle.lock_table.specs.Holds.{Holds}
use Rattle.lock_table.specs.Holders.{holder_of, left_by}
use Rattle.lock_table.specs.Calls.{AllHeld}
use Rattle.lock_table.specs.Table.{holds_of}
use Rattle.lock_table.proofs.TableLaws.{changed_holds, all_held, none_listed}
use Rattle.lock_table.proofs.locks.Locks.change_all.Goals as goal

pub returns-in-Some-clause-at : goal.returns-in-Some-clause-at
returns-in-Some-clause-at c =
    let new = c.change_listed.new.rows in
    subst (λ (v : Holds). (q : Hold) → get (holds_of new) q ≡ cond (q.pid.0 == c.args.pid.0) (left_by c.args.change (holder_of q) (get v q)) (get v q)) c.self.view_is
    (changed_holds c.self.inside.rows new c.args.pid c.args.change c.self.invariant.ordered c.change_listed.ensures.ordered c.change_listed.ensures.at)

pub returns-in-Some-clause-held : goal.returns-in-Some-clause-held
returns-in-Some-clause-held c = subst AllHeld c.self.view_is (all_held c.self.inside.rows c.self.inside.listed c.self.invariant)

pub returns-in_default-clause-at : goal.returns-in_default-clause-at
returns-in_default-clause-at c =
    let rows = c.self.inside.rows in
    subst (λ (v : Holds). (q : Hold) → get (holds_of rows) q ≡ cond (q.pid.0 == c.args.pid.0) (left_by c.args.change (holder_of q) (get v q)) (get v q)) c.self.view_is
    (none_listed rows c.self.inside.listed c.args.pid c.args.change c.self.invariant (sym c.get_mut.ensures.value ∙ ap option_copied_mut c.in_default.is))

pub returns-in_default-clause-held : goal.returns-in_default-clause-held
returns-in_default-clause-held c = subst AllHeld c.self.view_is (all_held c.self.inside.rows c.self.inside.listed c.self.invariant)
