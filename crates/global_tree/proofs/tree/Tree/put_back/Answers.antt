use Rattle.std.proofs.Common.{◌≡◌, arith, set, ap, ◌∙◌, Some}
use Rattle.global_tree.specs.Contents.{counted}
use Rattle.global_tree.specs.Maps.{placed}
use Rattle.global_tree.proofs.Seen.{Found, found_at, absent_at, Changed, changed_at, placed_same, not_absent}
use Rattle.global_tree.proofs.LiveLaws.{live_set}
use Rattle.global_tree.proofs.tree.Tree.put_back.Goals as goal

found : (c : goal.After-self-1) → Found c.args.self.now c.args.node.now (Some c.index_mut.result.now.1)
found c = found_at c.self.inside.places.items _ c.args.node.now c.in-Ok.at c.index_mut.result.now (record { rising = c.self.invariant.rising; as_is = c.self.view_is }) (rw c.as_slice.ensures.value at c.in-Ok.ensures.found) c.index_mut.ensures.value

changed : (c : goal.After-self-1) → Changed c.args.self.now (set c.self.inside.places.items c.in-Ok.at (c.index_mut.result.now.0, c.put.new.self)) c.args.node.now c.put.new.self
changed c = changed_at c.self.inside.places.items _ c.args.node.now c.in-Ok.at c.index_mut.result.now _ (record { rising = c.self.invariant.rising; as_is = c.self.view_is }) (rw c.as_slice.ensures.value at c.in-Ok.ensures.found) c.index_mut.ensures.value

pub invariant_of-self : goal.invariant_of-self
invariant_of-self c =
    let has_pins : c.put.new.self.pins ≡ c.index_mut.result.now.1.pins = ap (λ p. p.pins) c.put.ensures in
    record { rising = (changed c).rising; live = live_set c.self.inside.places.items c.in-Ok.at (c.index_mut.result.now.0, c.put.new.self) c.self.invariant.live (omega (arith, (found c).pins, c.requires)) }

pub unreachable-requires : goal.unreachable-requires
unreachable-requires c =
    let gap = rw c.as_slice.ensures.value at c.in-Err.ensures.absent in
    not_absent c.args.self.now c.args.node.now (absent_at c.self.inside.places.items _ c.args.node.now c.in-Err.field-0 (record { rising = c.self.invariant.rising; as_is = c.self.view_is }) gap) c.requires

pub returns-clause-values : goal.returns-clause-values
returns-clause-values c = (changed c).globals ∙ ap (λ p. placed c.args.self.now.globals c.args.node.now p.value) c.put.ensures

pub returns-clause-pins : goal.returns-clause-pins
returns-clause-pins c =
    (changed c).pins
    ∙ ap (λ p. placed c.args.self.now.pins c.args.node.now (counted p.pins)) c.put.ensures
    ∙ placed_same c.args.self.now.pins c.args.node.now (counted c.index_mut.result.now.1.pins) (found c).count
