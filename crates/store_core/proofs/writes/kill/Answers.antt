use Rattle.std.proofs.Common.{◌≡◌, not, refl, ap, ◌∙◌, sym, arith}
use Rattle.std.specs.FinMap.{is_sorted, retain_keys}
use Rattle.obj_kinds.specs.Order.{node_cmp, covers}
use Rattle.tran_log.specs.Levels.{as_olds, times, put_all}
use Rattle.tran_log.proofs.OwedLaws.{times_taken}
use Rattle.store_core.proofs.Outcomes.{on_err}
use Rattle.store_core.proofs.Restored.{restored_kill, killed_rising, times_pairs}
use Rattle.store_core.proofs.writes.kill.Goals as goal

pub keep-requires-clause-rising : goal.keep-requires-clause-rising
keep-requires-clause-rising c =
    ap (λ l. is_sorted node_cmp l) (c.in-Ok.ensures.olds ∙ ap as_olds c.in_ok-taken.ensures.taken) ∙ killed_rising c.args.tree.now.globals c.args.node.now

pub keep-requires-clause-pins : goal.keep-requires-clause-pins
keep-requires-clause-pins c = λ n.
    let is = ap (λ l. times l n) (c.in-Ok.ensures.olds ∙ ap as_olds c.in_ok-taken.ensures.taken) ∙ times_taken c.args.tree.now.globals c.args.node.now n in
    omega (arith, is, c.in_ok-taken.ensures.pins n, c.requires.pins n)

pub put_taken_back-requires : goal.put_taken_back-requires
put_taken_back-requires c = record {
  pins = λ n.
      let is = ap (λ l. times l n) (c.in-Err.ensures.err ∙ c.in_ok-taken.ensures.taken) ∙ sym (times_pairs _ n) ∙ times_taken c.args.tree.now.globals c.args.node.now n in
      omega (arith, is, c.in_ok-taken.ensures.pins n);
}

pub returns-in-Ok-clause-pins : goal.returns-in-Ok-clause-pins
returns-in-Ok-clause-pins c = λ n.
    let is = ap (λ l. times l n) (c.in-Ok.ensures.olds ∙ ap as_olds c.in_ok-taken.ensures.taken) ∙ times_taken c.args.tree.now.globals c.args.node.now n in
    omega (arith, is, c.in_ok-taken.ensures.pins n, c.keep.ensures.pins n)

pub returns-in-Ok-clause-err : goal.returns-in-Ok-clause-err
returns-in-Ok-clause-err c =
    let g = c.args.tree.now.globals in
    let n = c.args.node.now in
    let again : put_all c.take_under.new.self.globals c.in-Ok.olds.items ≡ g =
    ap (λ h. put_all h c.in-Ok.olds.items) c.in_ok-taken.ensures.values
    ∙ ap (put_all (retain_keys g (λ m. not (covers n m)))) (c.in-Ok.ensures.olds ∙ ap as_olds c.in_ok-taken.ensures.taken)
    ∙ restored_kill g n in
    on_err c.keep.result c.keep.ensures.levels_err c.keep.ensures.globals_err (λ l h. (l, h ∙ again))

pub returns-in-Err-clause-pins : goal.returns-in-Err-clause-pins
returns-in-Err-clause-pins c = λ n.
    let is = ap (λ l. times l n) (c.in-Err.ensures.err ∙ c.in_ok-taken.ensures.taken) ∙ sym (times_pairs _ n) ∙ times_taken c.args.tree.now.globals c.args.node.now n in
    omega (arith, is, c.in_ok-taken.ensures.pins n, c.put_taken_back.ensures.pins n)

pub returns-in-Err-clause-err : goal.returns-in-Err-clause-err
returns-in-Err-clause-err c =
    let g = c.args.tree.now.globals in
    let n = c.args.node.now in (
      refl,
      c.put_taken_back.ensures.globals
          ∙ ap (λ h. put_all h (as_olds c.in-Err.taken)) c.in_ok-taken.ensures.values
          ∙ ap (λ l. put_all (retain_keys g (λ m. not (covers n m))) (as_olds l)) (c.in-Err.ensures.err ∙ c.in_ok-taken.ensures.taken)
          ∙ restored_kill g n,
    )
