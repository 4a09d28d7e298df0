use Rattle.std.proofs.Common.{◌≡◌, ◌∷◌, [], ◌++◌, ◌≤◌, ◌+◌, Err, length, sym, ap, ◌∙◌, arith, subst}
use Rattle.std.specs.Vec.{vec_capacity}
use Rattle.store_core.specs.declared.refusal.ApplyError.TheVariants.{Volume}
use Rattle.obj_kinds.specs.Limits.{is_legal_reply}
use Rattle.store_core.specs.Machine.{reply}
use Rattle.store_core.specs.Stands.{IsStore}
use Rattle.store_core.proofs.Outcomes.{err_is}
use Rattle.store_core.proofs.LedgerLaws.{lives_with}
use Rattle.store_core.proofs.StoreLaws.{not_end, stands, ledger, state_is, live_log, live_within, counts_low, was_live, refused, Paid, told_entry, told_step, told_is, told_fits, refused_passes, answers_within}
use Rattle.store_core.proofs.store.Store.apply.Goals as goal

pub take_turn-requires-clause-pid : goal.take_turn-requires-clause-pid
take_turn-requires-clause-pid c =
    let s = c.self.inside in
    let here = live_within c.self.invariant c.args.pid (was_live s.nodes s.logs.items s.told.items s.room c.args.self.now c.self.view_is c.args.pid c.requires.live) in
    (here.0, omega (arith, here.1))

pub take_turn-requires-clause-live : goal.take_turn-requires-clause-live
take_turn-requires-clause-live c =
    let s = c.self.inside in
    live_log c.self.invariant c.args.pid (was_live s.nodes s.logs.items s.told.items s.room c.args.self.now c.self.view_is c.args.pid c.requires.live)

pub take_turn-requires-clause-few : goal.take_turn-requires-clause-few
take_turn-requires-clause-few c = omega (arith, c.self.invariant.owed.few)

pub take_turn-requires-clause-counts : goal.take_turn-requires-clause-counts
take_turn-requires-clause-counts c = counts_low c.self.invariant

pub invariant_of-self : goal.invariant_of-self
invariant_of-self c =
    let s = c.self.inside in
    let len : length c.take_turn.new.logs.items ≡ length s.logs.items = omega (arith, c.take_turn.ensures.pids) in
    subst (λ es. IsStore s.nodes c.take_turn.new.tree c.take_turn.new.locks c.take_turn.new.logs.items es (vec_capacity c.take_turn.new.history) s.room) (sym c.take_turn.ensures.items)
    (refused c.self.invariant c.take_turn.new.tree c.take_turn.new.locks c.take_turn.new.logs.items (vec_capacity c.take_turn.new.history) len (c.in_err-answer.ensures.err _ c.self.invariant.tied) c.take_turn.ensures.owed c.take_turn.ensures.places)

pub returns-in_err-answer-clause-volume : goal.returns-in_err-answer-clause-volume
returns-in_err-answer-clause-volume c = λ e.
    let s = c.self.inside in
    let h : c.take_turn.result ≡ Err Volume = c.in_err-answer.was ∙ ap Err (sym (err_is c.from_residual.result c.in_err-answer.field-0.0 Volume c.from_residual.ensures.1 e)) in
    refused_passes s.nodes s.logs.items s.told.items c.args.pid c.args.op s.room c.args.self.now c.self.view_is c.requires.no_end (c.take_turn.ensures.volume _ c.self.invariant.tied h)

pub invariant_of-self-2 : goal.invariant_of-self-2
invariant_of-self-2 c =
    let s = c.self.inside in
    let a = c.in_ok-answer.answer in
    let now = stands s.nodes s.logs.items s.told.items in
    let paid : Paid now c.args.pid c.args.op a.kept s.room a.left = record {
      no_end = c.requires.no_end;
      reply_is = c.in_ok-answer.ensures.kept now c.self.invariant.tied;
      pays = c.in_ok-answer.ensures.left now c.self.invariant.tied;
    } in
    let live = was_live s.nodes s.logs.items s.told.items s.room c.args.self.now c.self.view_is c.args.pid c.requires.live in
    let len : length c.take_turn.new.logs.items ≡ length s.logs.items = omega (arith, c.take_turn.ensures.pids) in
    let enough : length s.told.items + (length s.logs.items + 1) ≤ vec_capacity c.push_reserved.new.self = omega (arith, c.in_ok-answer.ensures.memory, c.push_reserved.ensures.capacity) in
    subst (λ es. IsStore s.nodes c.take_turn.new.tree c.take_turn.new.locks c.take_turn.new.logs.items es (vec_capacity c.push_reserved.new.self) a.left)
    (sym (c.push_reserved.ensures.items ∙ ap (λ es. es ++ told_entry c.args.pid c.args.op a.kept ∷ []) c.take_turn.ensures.items))
    (told_step c.self.invariant paid c.take_turn.new.tree c.take_turn.new.locks c.take_turn.new.logs.items (vec_capacity c.push_reserved.new.self) live c.requires.limits len (c.in_ok-answer.ensures.after now c.self.invariant.tied) c.take_turn.ensures.owed enough)

pub returns-clause-limits : goal.returns-clause-limits
returns-clause-limits c = ap is_legal_reply (c.in_ok-answer.ensures.told _ c.self.invariant.tied) ∙ answers_within c.self.invariant c.args.pid c.args.op

pub returns-clause-reply : goal.returns-clause-reply
returns-clause-reply c =
    let s = c.self.inside in
    c.in_ok-answer.ensures.told _ c.self.invariant.tied
    ∙ ap (λ x. reply x c.args.pid c.args.op) (sym (state_is s.nodes s.logs.items s.told.items s.room c.args.self.now c.self.view_is))

pub returns-clause-entry : goal.returns-clause-entry
returns-clause-entry c =
    let s = c.self.inside in
    let a = c.in_ok-answer.answer in
    let now = stands s.nodes s.logs.items s.told.items in
    let paid : Paid now c.args.pid c.args.op a.kept s.room a.left = record {
      no_end = c.requires.no_end;
      reply_is = c.in_ok-answer.ensures.kept now c.self.invariant.tied;
      pays = c.in_ok-answer.ensures.left now c.self.invariant.tied;
    } in
    let len : length c.take_turn.new.logs.items ≡ length s.logs.items = omega (arith, c.take_turn.ensures.pids) in
    ap (λ es. ledger s.nodes c.take_turn.new.logs.items es a.left) (c.push_reserved.ensures.items ∙ ap (λ es. es ++ told_entry c.args.pid c.args.op a.kept ∷ []) c.take_turn.ensures.items)
    ∙ told_is s.nodes s.logs.items s.told.items paid c.take_turn.new.logs.items c.args.self.now c.self.view_is len

pub returns-clause-fits : goal.returns-clause-fits
returns-clause-fits c =
    let s = c.self.inside in
    let a = c.in_ok-answer.answer in
    let now = stands s.nodes s.logs.items s.told.items in
    let paid : Paid now c.args.pid c.args.op a.kept s.room a.left = record {
      no_end = c.requires.no_end;
      reply_is = c.in_ok-answer.ensures.kept now c.self.invariant.tied;
      pays = c.in_ok-answer.ensures.left now c.self.invariant.tied;
    } in
    told_fits s.nodes s.logs.items s.told.items paid c.args.self.now c.self.view_is

pub returns-clause-live : goal.returns-clause-live
returns-clause-live c =
    let s = c.self.inside in
    let a = c.in_ok-answer.answer in
    let now = stands s.nodes s.logs.items s.told.items in
    let paid : Paid now c.args.pid c.args.op a.kept s.room a.left = record {
      no_end = c.requires.no_end;
      reply_is = c.in_ok-answer.ensures.kept now c.self.invariant.tied;
      pays = c.in_ok-answer.ensures.left now c.self.invariant.tied;
    } in
    let len : length c.take_turn.new.logs.items ≡ length s.logs.items = omega (arith, c.take_turn.ensures.pids) in
    lives_with c.args.self.now _ c.args.pid c.args.op
    (ap (λ es. ledger s.nodes c.take_turn.new.logs.items es a.left) (c.push_reserved.ensures.items ∙ ap (λ es. es ++ told_entry c.args.pid c.args.op a.kept ∷ []) c.take_turn.ensures.items)
    ∙ told_is s.nodes s.logs.items s.told.items paid c.take_turn.new.logs.items c.args.self.now c.self.view_is len)
    c.requires.live (not_end c.args.op c.requires.no_end)
