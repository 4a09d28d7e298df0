use Rattle.std.proofs.Common.{◌≡◌, ap, ◌∙◌, suc, ◌-◌, ◌<◌, arith}
use Rattle.std.proofs.lemmas.Bool.{lt-ltb}
use Rattle.obj_kinds.specs.declared.op.Mode.TheVariants.{Shared, Exclusive}
use Rattle.record_layout.specs.Rows.{data_node}
use Rattle.store_calls.specs.Calls.{Plain, bind, try, run}
use Rattle.object_calls.specs.Asking.{lock_counted}
use Rattle.object_calls.specs.Loads.{raise_lock}
use Rattle.load_plan.specs.Raises.{locked, to_come}
use Rattle.load_plan.proofs.RaiseLaws.{begun}
use Rattle.load_plan.proofs.raise.first_phase.Goals as goal

pub returns-in-3-clause-begun : goal.returns-in-3-clause-begun
unfolding to_come
returns-in-3-clause-begun c class rs =
    ap (λ n. run (bind (try Plain n (lock_counted Shared (data_node c.args.call.now.key))) (locked c.args.call.now)) rs) tries
    ∙ begun c.args.call.now class Shared rs (lt-ltb c.args.call.now.from c.args.call.now.to up) (ap (raise_lock c.args.call.now.tries c.args.call.now.key class) c.in-3.is)
  where
    tries : suc (c.args.call.now.tries - 1) ≡ c.args.call.now.tries
    tries = let one = c.requires in omega arith

    up : c.args.call.now.from < c.args.call.now.to
    up = let no = c.if-call.false in grind arith

pub returns-in-4-clause-begun : goal.returns-in-4-clause-begun
unfolding to_come
returns-in-4-clause-begun c class rs =
    ap (λ n. run (bind (try Plain n (lock_counted Exclusive (data_node c.args.call.now.key))) (locked c.args.call.now)) rs) tries
    ∙ begun c.args.call.now class Exclusive rs (lt-ltb c.args.call.now.from c.args.call.now.to up) (ap (raise_lock c.args.call.now.tries c.args.call.now.key class) c.in-4.is)
  where
    tries : suc (c.args.call.now.tries - 1) ≡ c.args.call.now.tries
    tries = let one = c.requires in omega arith

    up : c.args.call.now.from < c.args.call.now.to
    up = let no = c.if-call.false in grind arith
