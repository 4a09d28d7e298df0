use Rattle.std.proofs.Common.{◌≡◌, sym, ap, subst, ◌∙◌, true}
use Rattle.std.specs.FinMap.{contains_key}
use Rattle.lock_table.specs.Holds.{Holds, put}
use Rattle.lock_table.specs.Holders.{hold_on}
use Rattle.lock_table.proofs.TableLaws.{there_is, table_kept, table_unlisted, put_holds}
use Rattle.lock_table.proofs.locks.Locks.keep.Goals as goal

pub keep_anew-requires : goal.keep_anew-requires
keep_anew-requires c =
    let h = hold_on c.args.node.now c.args.holder in
    there_is c.self.inside.rows c.self.invariant.ordered h (subst (λ (v : Holds). contains_key v h ≡ true) (sym c.self.view_is) c.requires)

pub invariant_of-self : goal.invariant_of-self
invariant_of-self c =
    let h = hold_on c.args.node.now c.args.holder in
    let there = there_is c.self.inside.rows c.self.invariant.ordered h (subst (λ (v : Holds). contains_key v h ≡ true) (sym c.self.view_is) c.requires) in
    table_unlisted c.keep_anew.new.rows c.self.inside.listed c.unlist.new.listed c.args.node.now c.args.holder.pid
    (table_kept c.self.inside.rows c.keep_anew.new.rows c.self.inside.listed c.args.node.now c.args.holder c.args.kept c.self.invariant there c.keep_anew.ensures.ordered c.keep_anew.ensures.at)
    (sym c.holds_any.ensures ∙ c.if-not-holds_any.true) c.unlist.ensures

pub invariant_of-self-else-not-holds_any : goal.invariant_of-self-else-not-holds_any
invariant_of-self-else-not-holds_any c =
    let h = hold_on c.args.node.now c.args.holder in
    let there = there_is c.self.inside.rows c.self.invariant.ordered h (subst (λ (v : Holds). contains_key v h ≡ true) (sym c.self.view_is) c.requires) in
    table_kept c.self.inside.rows c.keep_anew.new.rows c.self.inside.listed c.args.node.now c.args.holder c.args.kept c.self.invariant there c.keep_anew.ensures.ordered c.keep_anew.ensures.at

pub returns-then-not-holds_any : goal.returns-then-not-holds_any
returns-then-not-holds_any c =
    put_holds c.self.inside.rows c.keep_anew.new.rows c.self.invariant.ordered c.keep_anew.ensures.ordered c.args.node.now c.args.holder c.args.kept c.keep_anew.ensures.at
    ∙ ap (λ (v : Holds). put v (hold_on c.args.node.now c.args.holder) c.args.kept) c.self.view_is

pub returns-else-not-holds_any : goal.returns-else-not-holds_any
returns-else-not-holds_any c =
    put_holds c.self.inside.rows c.keep_anew.new.rows c.self.invariant.ordered c.keep_anew.ensures.ordered c.args.node.now c.args.holder c.args.kept c.keep_anew.ensures.at
    ∙ ap (λ (v : Holds). put v (hold_on c.args.node.now c.args.holder) c.args.kept) c.self.view_is
