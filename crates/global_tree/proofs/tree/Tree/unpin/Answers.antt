use Rattle.std.proofs.Common.{◌-◌, set, ap, ◌∙◌, Some, arith}
use Rattle.global_tree.specs.declared.place.Place.{Place}
use Rattle.global_tree.proofs.Seen.{Found, found_at, absent_at, Changed, changed_at, placed_same, not_absent, one_unpin}
use Rattle.global_tree.proofs.LiveLaws.{others_set}
use Rattle.global_tree.proofs.tree.Tree.unpin.Goals as goal

pub overflow_sub-index_mut : goal.overflow_sub-index_mut
overflow_sub-index_mut c =
    let hit = rw c.as_slice.ensures.value at c.in-Ok.ensures.found in
    let found = found_at c.self.inside.places.items _ c.args.node.now c.in-Ok.at c.index_mut.result.now (record { rising = c.self.invariant.rising; as_is = c.self.view_is }) hit c.index_mut.ensures.value in
    omega (arith, found.pins, c.requires)

pub unreachable-requires : goal.unreachable-requires
unreachable-requires c =
    let gap = rw c.as_slice.ensures.value at c.in-Err.ensures.absent in
    not_absent c.args.self.now c.args.node.now (absent_at c.self.inside.places.items _ c.args.node.now c.in-Err.field-0 (record { rising = c.self.invariant.rising; as_is = c.self.view_is }) gap) c.requires

pub remove_empty-requires-clause-rising : goal.remove_empty-requires-clause-rising
remove_empty-requires-clause-rising c =
    let hit = rw c.as_slice.ensures.value at c.in-Ok.ensures.found in
    (changed_at c.self.inside.places.items _ c.args.node.now c.in-Ok.at c.index_mut.result.now _ (record { rising = c.self.invariant.rising; as_is = c.self.view_is }) hit c.index_mut.ensures.value).rising

pub remove_empty-requires-clause-others : goal.remove_empty-requires-clause-others
remove_empty-requires-clause-others c = others_set c.self.inside.places.items c.in-Ok.at _ c.self.invariant.live

-- the tree before the place is removed, if it is
changed : (c : goal.After-remove_empty) → let p : Place = record { value = c.index_mut.result.now.1.value; pins = c.index_mut.result.now.1.pins - 1 } in Changed c.args.self.now (set c.self.inside.places.items c.in-Ok.at (c.index_mut.result.now.0, p)) c.args.node.now p
changed c = changed_at c.self.inside.places.items _ c.args.node.now c.in-Ok.at c.index_mut.result.now _ (record { rising = c.self.invariant.rising; as_is = c.self.view_is }) (rw c.as_slice.ensures.value at c.in-Ok.ensures.found) c.index_mut.ensures.value

found : (c : goal.After-remove_empty) → Found c.args.self.now c.args.node.now (Some c.index_mut.result.now.1)
found c = found_at c.self.inside.places.items _ c.args.node.now c.in-Ok.at c.index_mut.result.now (record { rising = c.self.invariant.rising; as_is = c.self.view_is }) (rw c.as_slice.ensures.value at c.in-Ok.ensures.found) c.index_mut.ensures.value

pub returns-clause-values : goal.returns-clause-values
returns-clause-values c =
    ap (λ t. t.globals) c.remove_empty.ensures.same
    ∙ (changed c).globals
    ∙ placed_same c.args.self.now.globals c.args.node.now c.index_mut.result.now.1.value (found c).value

pub returns-clause-pins : goal.returns-clause-pins
returns-clause-pins c =
    ap (λ t. t.pins) c.remove_empty.ensures.same
    ∙ (changed c).pins
    ∙ one_unpin c.args.self.now.pins c.args.node.now c.index_mut.result.now.1.pins (found c).pins
