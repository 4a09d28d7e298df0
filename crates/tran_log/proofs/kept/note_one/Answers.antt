use Rattle.std.proofs.Common.{◌≡◌, ◌+◌, ◌-◌, ◌≤◌, Bool, true, false, cond, ℕ, refl, ap, sym, subst, ◌∙◌, arith}
use Rattle.std.specs.Ordering.{eq_by_cmp}
use Rattle.std.specs.FinMap.{insert}
use Rattle.obj_kinds.specs.declared.node.Node.{Node}
use Rattle.obj_kinds.specs.Order.{node_cmp}
use Rattle.obj_kinds.proofs.OrderLemmas.{node_total, node_exact}
use Rattle.global_tree.proofs.MapLaws.{one_key}
use Rattle.global_tree.proofs.PinLaws.{pins_of-unpinned}
use Rattle.obj_kinds.proofs.Sorted.{gap_edit}
use Rattle.tran_log.specs.Levels.{Pins, pins_of, has}
use Rattle.tran_log.specs.Kept.{level_of}
use Rattle.tran_log.proofs.LevelLaws.{noted_has, noted_new, has_new, hit_has, gap_lacks}
use Rattle.tran_log.proofs.kept.note_one.Goals as goal

one_less : (pins old : Pins) (n m : Node) (h : ℕ) → pins_of pins m ≡ pins_of old m - cond (eq_by_cmp node_cmp m n) 1 0 → 1 ≤ pins_of old n → pins_of pins m + h + cond (eq_by_cmp node_cmp m n) 1 0 ≡ pins_of old m + h
one_less pins old n m h is owed = by (eq_by_cmp node_cmp m n) refl is
  where
    by : (b : Bool) → eq_by_cmp node_cmp m n ≡ b → pins_of pins m ≡ pins_of old m - cond b 1 0 → pins_of pins m + h + cond b 1 0 ≡ pins_of old m + h
    by true g e = let here : 1 ≤ pins_of old m = subst (λ k. 1 ≤ pins_of old k) (sym (one_key node_exact m n g)) owed in omega arith
    by false g e = omega arith

pub returns-in-Ok-clause-level : goal.returns-in-Ok-clause-level
returns-in-Ok-clause-level c =
    let hit = rw c.as_slice.ensures.value at c.in-Ok.ensures.found in
    sym (noted_has (level_of c.args.kept.now) c.args.node c.args.value (hit_has c.args.kept.now.items c.args.node c.in-Ok.field-0 c.requires.rising hit))

pub returns-in-Ok-clause-pins : goal.returns-in-Ok-clause-pins
returns-in-Ok-clause-pins c = λ m.
    one_less c.unpin.new.self.pins c.args.tree.now.pins c.args.node m (has (level_of c.args.kept.now) m)
    (ap (λ p. pins_of p m) c.unpin.ensures.pins ∙ pins_of-unpinned c.args.tree.now.pins c.args.node m) (omega (arith, c.requires.pin))

pub returns-in-Ok-insert-clause-rising : goal.returns-in-Ok-insert-clause-rising
returns-in-Ok-insert-clause-rising c =
    let gap = rw c.as_slice.ensures.value at c.in-Err.ensures.absent in
    rw c.in-Ok-insert.ensures.items (gap_edit node_cmp node_total c.args.kept.now.items c.args.node c.args.value c.in-Err.at c.requires.rising gap).sorted

level_is : (c : goal.In-Ok-insert) → level_of c.insert.new.self ≡ insert (level_of c.args.kept.now) c.args.node c.args.value
level_is c =
    let gap = rw c.as_slice.ensures.value at c.in-Err.ensures.absent in
    rw c.in-Ok-insert.ensures.items (gap_edit node_cmp node_total c.args.kept.now.items c.args.node c.args.value c.in-Err.at c.requires.rising gap).made

pub returns-in-Ok-insert-clause-level : goal.returns-in-Ok-insert-clause-level
returns-in-Ok-insert-clause-level c =
    let gap = rw c.as_slice.ensures.value at c.in-Err.ensures.absent in
    level_is c ∙ sym (noted_new (level_of c.args.kept.now) c.args.node c.args.value (gap_lacks c.args.kept.now.items c.args.node c.in-Err.at c.requires.rising gap))

pub returns-in-Ok-insert-clause-pins : goal.returns-in-Ok-insert-clause-pins
returns-in-Ok-insert-clause-pins c = λ m.
    let gap = rw c.as_slice.ensures.value at c.in-Err.ensures.absent in
    let more : has (level_of c.insert.new.self) m ≡ has (level_of c.args.kept.now) m + cond (eq_by_cmp node_cmp m c.args.node) 1 0 =
    ap (λ l. has l m) (level_is c) ∙ has_new (level_of c.args.kept.now) c.args.node c.args.value m (gap_lacks c.args.kept.now.items c.args.node c.in-Err.at c.requires.rising gap) in
    omega (arith, more)
