use Rattle.std.proofs.Common.{◌≡◌, ◌∷◌, [], ◌++◌, length, sym, arith, subst}
use Rattle.std.specs.Vec.{vec_capacity}
use Rattle.store_core.specs.Ledger.{end_entry}
use Rattle.store_core.specs.Stands.{IsStore}
use Rattle.store_core.proofs.LedgerLaws.{ended_with, lives_after_end}
use Rattle.store_core.proofs.StoreLaws.{live_log, live_within, live_end, was_live, ended_step, ended_is}
use Rattle.store_core.proofs.store.Store.apply_end.Goals as goal

pub end_turn-requires-clause-pid : goal.end_turn-requires-clause-pid
end_turn-requires-clause-pid c =
    let s = c.self.inside in
    let here = live_within c.self.invariant c.args.pid (was_live s.nodes s.logs.items s.told.items s.room c.args.self.now c.self.view_is c.args.pid c.requires) in
    (here.0, omega (arith, here.1))

pub end_turn-requires-clause-live : goal.end_turn-requires-clause-live
end_turn-requires-clause-live c =
    let s = c.self.inside in
    live_log c.self.invariant c.args.pid (was_live s.nodes s.logs.items s.told.items s.room c.args.self.now c.self.view_is c.args.pid c.requires)

pub push_reserved-requires : goal.push_reserved-requires
push_reserved-requires c =
    let s = c.self.inside in
    let here = live_end c.self.invariant c.args.pid (was_live s.nodes s.logs.items s.told.items s.room c.args.self.now c.self.view_is c.args.pid c.requires) in
    omega (arith, here)

pub invariant_of-self : goal.invariant_of-self
invariant_of-self c =
    let s = c.self.inside in
    let live = was_live s.nodes s.logs.items s.told.items s.room c.args.self.now c.self.view_is c.args.pid c.requires in
    let len : length c.end_turn.new.logs.items ≡ length s.logs.items = omega (arith, c.end_turn.ensures.pids) in
    subst (λ es. IsStore s.nodes c.end_turn.new.tree c.end_turn.new.locks c.end_turn.new.logs.items es (vec_capacity c.push_reserved.new.self) s.room) (sym c.push_reserved.ensures.items)
    (subst (λ k. IsStore s.nodes c.end_turn.new.tree c.end_turn.new.locks c.end_turn.new.logs.items (s.told.items ++ end_entry c.args.pid ∷ []) k s.room) (sym c.push_reserved.ensures.capacity)
    (ended_step c.self.invariant c.args.pid c.end_turn.new.tree c.end_turn.new.locks c.end_turn.new.logs.items live len (c.end_turn.ensures.after _ c.self.invariant.tied) c.end_turn.ensures.owed))

pub returns-clause-entry : goal.returns-clause-entry
returns-clause-entry c =
    let s = c.self.inside in
    let len : length c.end_turn.new.logs.items ≡ length s.logs.items = omega (arith, c.end_turn.ensures.pids) in
    ended_is s.nodes s.logs.items c.end_turn.new.logs.items s.told.items c.push_reserved.new.self.items s.room c.args.self.now c.self.view_is c.args.pid len c.push_reserved.ensures.items

pub returns-clause-ended : goal.returns-clause-ended
returns-clause-ended c =
    let s = c.self.inside in
    let len : length c.end_turn.new.logs.items ≡ length s.logs.items = omega (arith, c.end_turn.ensures.pids) in
    ended_with c.args.self.now _ c.args.pid
    (ended_is s.nodes s.logs.items c.end_turn.new.logs.items s.told.items c.push_reserved.new.self.items s.room c.args.self.now c.self.view_is c.args.pid len c.push_reserved.ensures.items)

pub returns-clause-others : goal.returns-clause-others
returns-clause-others c =
    let s = c.self.inside in
    let len : length c.end_turn.new.logs.items ≡ length s.logs.items = omega (arith, c.end_turn.ensures.pids) in
    lives_after_end c.args.self.now _ c.args.pid
    (ended_is s.nodes s.logs.items c.end_turn.new.logs.items s.told.items c.push_reserved.new.self.items s.room c.args.self.now c.self.view_is c.args.pid len c.push_reserved.ensures.items)
