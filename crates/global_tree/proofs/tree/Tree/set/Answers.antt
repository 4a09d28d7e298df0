use Rattle.std.proofs.Common.{refl, sym, ◌∙◌, ◌+◌, Some, None, arith, set}
use Rattle.std.specs.List.{insert}
use Rattle.global_tree.specs.declared.place.Place.{Place}
use Rattle.global_tree.proofs.Seen.{Found, found_at, absent_at, Changed, changed_at, added_at, one_value, one_pin}
use Rattle.global_tree.proofs.LiveLaws.{live_set, live_insert}
use Rattle.global_tree.proofs.tree.Tree.set.Goals as goal

-- ---- where the node has a place

found : (c : goal.After-place-1) → Found c.args.self.now c.args.node (Some c.index_mut.result.now.1)
found c = found_at c.self.inside.places.items _ c.args.node c.in-Ok.at c.index_mut.result.now (record { rising = c.self.invariant.rising; as_is = c.self.view_is }) (rw c.as_slice.ensures.value at c.in-Ok.ensures.found) c.index_mut.ensures.value

found_later : (c : goal.After-drop-node-in-Ok-1) → Found c.args.self.now c.args.node (Some c.index_mut.result.now.1)
found_later c = found_at c.self.inside.places.items _ c.args.node c.in-Ok.at c.index_mut.result.now (record { rising = c.self.invariant.rising; as_is = c.self.view_is }) (rw c.as_slice.ensures.value at c.in-Ok.ensures.found) c.index_mut.ensures.value

changed : (c : goal.After-drop-node-in-Ok-1) → let p : Place = record { value = c.replace.new.self; pins = c.index_mut.result.now.1.pins + 1 } in Changed c.args.self.now (set c.self.inside.places.items c.in-Ok.at (c.index_mut.result.now.0, p)) c.args.node p
changed c = changed_at c.self.inside.places.items _ c.args.node c.in-Ok.at c.index_mut.result.now _ (record { rising = c.self.invariant.rising; as_is = c.self.view_is }) (rw c.as_slice.ensures.value at c.in-Ok.ensures.found) c.index_mut.ensures.value

pub overflow_add-place : goal.overflow_add-place
overflow_add-place c = omega (arith, (found c).pins, c.requires)

pub invariant_of-self : goal.invariant_of-self
invariant_of-self c = record { rising = (changed c).rising; live = live_set c.self.inside.places.items c.in-Ok.at _ c.self.invariant.live (omega arith) }

pub returns-in-Ok-clause-before : goal.returns-in-Ok-clause-before
returns-in-Ok-clause-before c = c.replace.ensures.value ∙ sym (found_later c).value

pub returns-in-Ok-clause-values : goal.returns-in-Ok-clause-values
returns-in-Ok-clause-values c = (changed c).globals ∙ one_value c.args.self.now.globals c.args.node c.replace.new.self c.args.value c.replace.ensures.after

pub returns-in-Ok-clause-pins : goal.returns-in-Ok-clause-pins
returns-in-Ok-clause-pins c = (changed c).pins ∙ one_pin c.args.self.now.pins c.args.node c.index_mut.result.now.1.pins (found_later c).pins

-- ---- where it has none yet

absent : (c : goal.In_ok-insert-in-Err) → Found c.args.self.now c.args.node None
absent c = absent_at c.self.inside.places.items _ c.args.node c.in-Err.at (record { rising = c.self.invariant.rising; as_is = c.self.view_is }) (rw c.as_slice.ensures.value at c.in-Err.ensures.absent)

added : (c : goal.In_ok-insert-in-Err) → let p : Place = record { value = Some c.args.value; pins = 1 } in Changed c.args.self.now (insert c.self.inside.places.items c.in-Err.at (c.args.node, p)) c.args.node p
added c = added_at c.self.inside.places.items _ c.args.node c.in-Err.at _ (record { rising = c.self.invariant.rising; as_is = c.self.view_is }) (rw c.as_slice.ensures.value at c.in-Err.ensures.absent)

pub invariant_of-self-in-Err : goal.invariant_of-self-in-Err
invariant_of-self-in-Err c =
    rw c.in_ok-insert-in-Err.ensures.items (record { rising = (added c).rising; live = live_insert c.self.inside.places.items c.in-Err.at (c.args.node, record { value = Some c.args.value; pins = 1 }) c.self.invariant.live (omega arith) })

pub returns-in_ok-insert-in-Err-clause-before : goal.returns-in_ok-insert-in-Err-clause-before
returns-in_ok-insert-in-Err-clause-before c = sym (absent c).value

pub returns-in_ok-insert-in-Err-clause-values : goal.returns-in_ok-insert-in-Err-clause-values
returns-in_ok-insert-in-Err-clause-values c = rw c.in_ok-insert-in-Err.ensures.items ((added c).globals ∙ one_value c.args.self.now.globals c.args.node (Some c.args.value) c.args.value refl)

pub returns-in_ok-insert-in-Err-clause-pins : goal.returns-in_ok-insert-in-Err-clause-pins
returns-in_ok-insert-in-Err-clause-pins c = rw c.in_ok-insert-in-Err.ensures.items ((added c).pins ∙ one_pin c.args.self.now.pins c.args.node 0 (absent c).pins)
