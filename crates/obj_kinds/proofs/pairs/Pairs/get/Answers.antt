use Rattle.std.proofs.Common.{IsTrue, sym, ap, subst, ◌∙◌}
use Rattle.std.specs.FinMap.{find, is_sorted}
use Rattle.obj_kinds.specs.Order.{node_cmp}
use Rattle.obj_kinds.specs.OrderLaws.{node_total}
use Rattle.obj_kinds.proofs.Sorted.{find_hit, find_gap}
use Rattle.obj_kinds.proofs.pairs.Pairs.get.Goals as goal

pub returns-in-Ok : goal.returns-in-Ok
returns-in-Ok c =
    let same = c.as_slice-pairs.ensures in
    let rising = subst (λ es. IsTrue (is_sorted node_cmp es)) (sym same) c.self.invariant in
    sym (find_hit node_cmp node_total c.as_slice-pairs.result.now c.args.node.now c.in-Ok.at c.index-pairs-at.result rising c.in-Ok.ensures.found)
    ∙ ap (find node_cmp c.args.node.now) (same ∙ c.self.view_is)

pub returns-in-Err : goal.returns-in-Err
returns-in-Err c =
    let same = c.as_slice-pairs.ensures in
    sym (find_gap node_cmp node_total c.as_slice-pairs.result.now c.args.node.now c.in-Err.field-0 c.in-Err.ensures.absent)
    ∙ ap (find node_cmp c.args.node.now) (same ∙ c.self.view_is)
