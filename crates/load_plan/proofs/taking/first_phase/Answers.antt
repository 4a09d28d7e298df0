use Rattle.std.proofs.Common.{◌≡◌, ap, sym, ◌∙◌, suc, ◌-◌, arith}
use Rattle.record_layout.specs.Rows.{data_node}
use Rattle.store_calls.specs.Calls.{Plain, bind, try, run}
use Rattle.object_calls.specs.Asking.{lock_counted}
use Rattle.load_plan.specs.Loads.{load_of, locked, to_come_within}
use Rattle.load_plan.proofs.LoadLaws.{begun_free, begun_locked}
use Rattle.load_plan.proofs.taking.first_phase.Goals as goal

pub returns-in-None-clause-begun : goal.returns-in-None-clause-begun
returns-in-None-clause-begun c most rs =
    ap (λ d. run d rs) (c.begin.ensures.left c.args.schema.now (load_of c.args.call.now) most)
    ∙ begun_free c.args.schema.now c.args.call.now.tries most (load_of c.args.call.now) rs (sym (c.in_ok-load_mode.ensures c.args.call.now.tries most) ∙ c.in-None.is)

pub returns-in-Some-clause-begun : goal.returns-in-Some-clause-begun
unfolding to_come_within
returns-in-Some-clause-begun c most rs =
    ap (λ n. run (bind (try Plain n (lock_counted c.in-Some.mode (data_node c.args.call.now.key))) (locked c.args.schema.now (load_of c.args.call.now) 0 most c.in-Some.mode)) rs) tries
    ∙ begun_locked c.args.schema.now c.args.call.now.tries most (load_of c.args.call.now) c.in-Some.mode rs (sym (c.in_ok-load_mode.ensures c.args.call.now.tries most) ∙ c.in-Some.is)
  where
    tries : suc (c.args.call.now.tries - 1) ≡ c.args.call.now.tries
    tries = let one = c.requires in omega arith
