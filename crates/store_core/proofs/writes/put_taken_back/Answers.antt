use Rattle.std.proofs.Common.{◌≡◌, ◌-◌, cond, ap, ◌∙◌, arith}
use Rattle.std.specs.Ordering.{eq_by_cmp}
use Rattle.obj_kinds.specs.Order.{node_cmp}
use Rattle.tran_log.specs.Levels.{put_all, as_olds, pins_of}
use Rattle.store_core.proofs.Restored.{put_last, times_last, last_pinned, pins_left}
use Rattle.store_core.proofs.writes.put_taken_back.Goals as goal

pub put_back-requires : goal.put_back-requires
put_back-requires c =
    let at = c.loop-pair in
    let n = c.in-Some.pair.0 in
    let here = last_pinned at.pairs c.pop.new.self c.in-Some.pair c.in-Some.ensures in
    omega (arith, here, at.invariant.pins n, c.requires.pins n)

pub unpin-requires : goal.unpin-requires
unpin-requires c =
    let at = c.loop-pair in
    let n = c.in-Some.pair.0 in
    let here = last_pinned at.pairs c.pop.new.self c.in-Some.pair c.in-Some.ensures in
    let same = ap (λ p. pins_of p n) c.put_back.ensures.pins in
    omega (arith, here, same, at.invariant.pins n, c.requires.pins n)

pub loop-pair-preserved : goal.loop-pair-preserved
loop-pair-preserved c =
    let at = c.loop-pair in
    let e = c.in-Some.pair in
    let rest = c.pop.new.self in
    record {
      globals = ap (λ g. put_all g (as_olds rest)) (c.unpin.ensures.values ∙ c.put_back.ensures.values) ∙ put_last at.tree.globals at.pairs rest e c.in-Some.ensures ∙ at.invariant.globals;
      pins = λ m.
          let split = times_last at.pairs rest e m c.in-Some.ensures in
          let less : pins_of c.unpin.new.self.pins m ≡ pins_of at.tree.pins m - cond (eq_by_cmp node_cmp m e.0) 1 0 =
          ap (λ p. pins_of p m) c.unpin.ensures.pins ∙ pins_left c.put_back.new.self.pins e.0 m ∙ ap (λ p. pins_of p m - cond (eq_by_cmp node_cmp m e.0) 1 0) c.put_back.ensures.pins in
          omega (arith, split, less, at.invariant.pins m, c.requires.pins m);
    }
