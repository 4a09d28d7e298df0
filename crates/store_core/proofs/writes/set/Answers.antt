use Rattle.std.proofs.Common.{◌≡◌, ◌+◌, [], ◌∷◌, ap, ◌∙◌, sym, arith}
use Rattle.std.specs.FinMap.{insert}
use Rattle.obj_kinds.specs.declared.node.Node.{Node}
use Rattle.tran_log.specs.Levels.{pins_of, times, put_all}
use Rattle.tran_log.proofs.OwedLaws.{times_set}
use Rattle.store_core.proofs.Outcomes.{on_err}
use Rattle.store_core.proofs.Restored.{restored_set}
use Rattle.store_core.proofs.writes.set.Goals as goal

-- the pin of the set is that of the pair
owed : (c : goal.After-one_old) (n : Node) → pins_of c.set.new.self.pins n ≡ pins_of c.args.tree.now.pins n + times c.one_old.result.items n
owed c n =
    times_set c.args.tree.now.pins c.set.new.self.pins c.in_ok-key.key c.in_ok-place.place c.in_ok-before.before c.one_old.result.items n c.in_ok-before.ensures.pins
    (c.in_ok-place.ensures ∙ sym c.in_ok-key.ensures) c.one_old.ensures

pub keep-requires-clause-pins : goal.keep-requires-clause-pins
keep-requires-clause-pins c = λ n. omega (arith, owed c n, c.requires.pins n)

pub returns-clause-pins : goal.returns-clause-pins
returns-clause-pins c = λ n.
    let is =
    times_set c.args.tree.now.pins c.set.new.self.pins c.in_ok-key.key c.in_ok-place.place c.in_ok-before.before c.one_old.result.items n c.in_ok-before.ensures.pins
    (c.in_ok-place.ensures ∙ sym c.in_ok-key.ensures) c.one_old.ensures in
    omega (arith, is, c.keep.ensures.pins n)

pub returns-clause-err : goal.returns-clause-err
returns-clause-err c =
    let g = c.args.tree.now.globals in
    let key = c.in_ok-key.key in
    let before = c.in_ok-before.before in
    let pair = c.one_old.ensures ∙ ap (λ k. (k, before) ∷ []) (c.in_ok-place.ensures ∙ sym c.in_ok-key.ensures) ∙ ap (λ b. (key, b) ∷ []) c.in_ok-before.ensures.before in
    let again : put_all c.set.new.self.globals c.one_old.result.items ≡ g =
    ap (λ h. put_all h c.one_old.result.items) c.in_ok-before.ensures.values ∙ ap (put_all (insert g key c.in_ok-value.value)) pair ∙ restored_set g key c.in_ok-value.value in
    on_err c.keep.result c.keep.ensures.levels_err c.keep.ensures.globals_err (λ l h. (l, h ∙ again))
