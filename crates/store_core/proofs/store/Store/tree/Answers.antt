use Rattle.std.proofs.Common.{sym, ap, ◌∙◌}
use Rattle.store_core.specs.Machine.{State}
use Rattle.store_core.proofs.StoreLaws.{state_is}
use Rattle.store_core.proofs.store.Store.tree.Goals as goal

pub returns : goal.returns
returns c =
    let s = c.self.inside in
    sym (ap (λ (x : State). x.globals) (state_is s.nodes s.logs.items s.told.items s.room c.args.self.now c.self.view_is) ∙ c.self.invariant.tied.same_globals)
