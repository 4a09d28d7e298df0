use Rattle.std.proofs.Common.{◌≡◌, ◌+◌, ◌-◌, ◌≤◌, ◌∷◌, cond, ap, sym, ◌∙◌, arith, IsTrue}
use Rattle.std.specs.Ordering.{eq_by_cmp}
use Rattle.std.specs.Vec.Iter.{into_iter_items}
use Rattle.std.specs.FinMap.{is_sorted}
use Rattle.obj_kinds.specs.Order.{node_cmp}
use Rattle.global_tree.proofs.Parts.{second}
use Rattle.global_tree.proofs.PinLaws.{pins_of-unpinned}
use Rattle.tran_log.specs.Levels.{pins_of, times, put_all}
use Rattle.tran_log.proofs.LevelLaws.{times_here, one_back, put_first}
use Rattle.tran_log.proofs.kept.put_all_back.Goals as goal

pub put_back-requires : goal.put_back-requires
put_back-requires c =
    let at = c.loop-pair in
    let n = c.in-Some.pair.0 in
    let here : 1 ≤ times (into_iter_items at.pair-iterator) n = rw c.in-Some.ensures.steps.0 (times_here c.in-Some.pair (into_iter_items c.next.new.self)) in
    omega (arith, at.invariant.pins n, c.requires.pins n)

pub unpin-requires : goal.unpin-requires
unpin-requires c =
    let at = c.loop-pair in
    let n = c.in-Some.pair.0 in
    let here : 1 ≤ times (into_iter_items at.pair-iterator) n = rw c.in-Some.ensures.steps.0 (times_here c.in-Some.pair (into_iter_items c.next.new.self)) in
    let same : pins_of c.put_back.new.self.pins n ≡ pins_of at.tree.pins n = ap (λ p. pins_of p n) c.put_back.ensures.pins in
    omega (arith, at.invariant.pins n, c.requires.pins n)

pub loop-pair-preserved : goal.loop-pair-preserved
loop-pair-preserved c =
    let at = c.loop-pair in
    let e = c.in-Some.pair in
    let rest = into_iter_items c.next.new.self in
    let steps : into_iter_items at.pair-iterator ≡ e ∷ rest = c.in-Some.ensures.steps.0 in
    let rising : IsTrue (is_sorted node_cmp (e ∷ rest)) = rw steps at at.invariant.rising in
    record {
      rising = second _ _ rising;
      globals =
          ap (λ g. put_all g rest) (c.unpin.ensures.values ∙ c.put_back.ensures.values)
          ∙ put_first e rest at.tree.globals rising
          ∙ ap (put_all at.tree.globals) (sym steps)
          ∙ at.invariant.globals;
      pins = λ m.
          let was : pins_of at.tree.pins m + times c.args.kept.items m ≡ pins_of c.args.tree.now.pins m + (cond (eq_by_cmp node_cmp m e.0) 1 0 + times rest m) = rw steps at (at.invariant.pins m) in
          let less : pins_of c.unpin.new.self.pins m ≡ pins_of at.tree.pins m - cond (eq_by_cmp node_cmp m e.0) 1 0 =
          ap (λ p. pins_of p m) c.unpin.ensures.pins ∙ pins_of-unpinned c.put_back.new.self.pins e.0 m ∙ ap (λ p. pins_of p m - cond (eq_by_cmp node_cmp m e.0) 1 0) c.put_back.ensures.pins in
          ap (λ k. k + times c.args.kept.items m) less ∙ one_back (pins_of at.tree.pins m) (times c.args.kept.items m) (pins_of c.args.tree.now.pins m) (cond (eq_by_cmp node_cmp m e.0) 1 0) (times rest m) was (c.requires.pins m);
    }
