use Rattle.std.proofs.Common.{sym, ◌∙◌}
use Rattle.global_tree.proofs.Seen.{found_at, absent_at}
use Rattle.global_tree.proofs.tree.Tree.get.Goals as goal

pub returns-in-Ok : goal.returns-in-Ok
returns-in-Ok c =
    let hit = rw c.as_slice.ensures.value at c.in-Ok.ensures.found in
    let found = found_at c.self.inside.places.items _ c.args.node.now c.in-Ok.at c.index.result.now (record { rising = c.self.invariant.rising; as_is = c.self.view_is }) hit c.index.ensures in
    c.as_ref.ensures.value ∙ sym found.value

pub returns-in-Err : goal.returns-in-Err
returns-in-Err c =
    let gap = rw c.as_slice.ensures.value at c.in-Err.ensures.absent in
    let found = absent_at c.self.inside.places.items _ c.args.node.now c.in-Err.field-0 (record { rising = c.self.invariant.rising; as_is = c.self.view_is }) gap in
    sym found.value
