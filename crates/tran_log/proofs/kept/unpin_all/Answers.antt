use Rattle.std.proofs.Common.{◌≡◌, ℕ, Option, subst, add-one, ◌+◌, ◌-◌, ◌<◌, ◌≤◌, suc, ◌∷◌, cond, length, drop, get_or, drop-cons, ap, sym, ◌∙◌, arith}
use Rattle.std.specs.Ordering.{eq_by_cmp}
use Rattle.obj_kinds.specs.declared.node.Node.{Node}
use Rattle.obj_kinds.specs.declared.value.Value.{Value}
use Rattle.obj_kinds.specs.Order.{node_cmp}
use Rattle.global_tree.proofs.PinLaws.{pins_of-unpinned}
use Rattle.tran_log.specs.Levels.{Olds, pins_of, times}
use Rattle.tran_log.proofs.LevelLaws.{times_here, one_back}
use Rattle.tran_log.proofs.kept.unpin_all.Goals as goal

-- the next pair and what is left behind it
next_of : (xs ys : Olds) (i : ℕ) (e : Node × Option Value) → xs ≡ ys → i < length xs → e ≡ get_or xs i e → drop i ys ≡ e ∷ drop (suc i) ys
next_of xs ys i e same lt is =
    let within : i < length ys = subst (λ l. i < length l) same lt in
    drop-cons ys i e within ∙ ap (λ x. x ∷ drop (suc i) ys) (ap (λ l. get_or l i e) (sym same) ∙ sym is)

pub unpin-requires : goal.unpin-requires
unpin-requires c =
    let at = c.loop-pair in
    let e = c.pair-item.result in
    let kept = c.args.kept.now.items in
    let next = next_of c.deref-pair-items.result.now kept at.pair-index e c.deref-pair-items.ensures.value c.loop-pair-test.true c.pair-item.is in
    let here : 1 ≤ times (drop at.pair-index kept) e.0 = rw next (times_here e (drop (suc at.pair-index) kept)) in
    omega (arith, at.invariant.pins e.0, c.requires.pins e.0)

pub loop-pair-preserved : goal.loop-pair-preserved
loop-pair-preserved c =
    let at = c.loop-pair in
    let e = c.pair-item.result in
    let kept = c.args.kept.now.items in
    let next = next_of c.deref-pair-items.result.now kept at.pair-index e c.deref-pair-items.ensures.value c.loop-pair-test.true c.pair-item.is in
    record {
      globals = c.unpin.ensures.values ∙ at.invariant.globals;
      pins = λ m.
          let was : pins_of at.tree.pins m + times kept m ≡ pins_of c.args.tree.now.pins m + (cond (eq_by_cmp node_cmp m e.0) 1 0 + times (drop (suc at.pair-index) kept) m) = rw next at (at.invariant.pins m) in
          let less : pins_of c.unpin.new.self.pins m ≡ pins_of at.tree.pins m - cond (eq_by_cmp node_cmp m e.0) 1 0 =
          ap (λ p. pins_of p m) c.unpin.ensures.pins ∙ pins_of-unpinned at.tree.pins e.0 m in
          ap (λ k. k + times kept m) less
          ∙ one_back (pins_of at.tree.pins m) (times kept m) (pins_of c.args.tree.now.pins m) (cond (eq_by_cmp node_cmp m e.0) 1 0) (times (drop (suc at.pair-index) kept) m) was (c.requires.pins m)
          ∙ ap (λ i. pins_of c.args.tree.now.pins m + times (drop i kept) m) (sym (add-one at.pair-index));
    }
