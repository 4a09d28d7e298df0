use Rattle.std.proofs.Common.{◌≡◌, OnOk, subst, sym, ap, ◌∙◌, arith}
use Rattle.obj_kinds.specs.declared.sub.Sub.{Sub}
use Rattle.oref_table.specs.declared.slot.Slot.{Slot}
use Rattle.oref_table.specs.Refs.{refs_of, refs_in, refs_of_pairs}
use Rattle.oref_table.proofs.RefLaws.{refs-items, refs-map}
use Rattle.save_set.specs.Marking.{found_in, mark_each}
use Rattle.save_set.proofs.Walking.{each_more}
use Rattle.save_set.proofs.reach.+mark.Goals as goal

pub mark_slot-returns-in-Items : goal.mark_slot-returns-in-Items
mark_slot-returns-in-Items t c =
    let all = ap refs_in c.as_slice.ensures ∙ sym (refs-items c.in-Items.slots) ∙ sym (ap refs_of c.in-Items.is) in
    subst (λ ns. OnOk c.mark_slots.result (found_in c.mark_slots.new.reach ≡ mark_each ns (found_in c.args.reach.now))) all c.mark_slots.ensures

pub mark_slot-returns-in-Map : goal.mark_slot-returns-in-Map
mark_slot-returns-in-Map t c =
    let all = ap refs_of_pairs c.as_slice-in-Map.ensures ∙ sym (refs-map c.in-Map.pairs) ∙ sym (ap refs_of c.in-Map.is) in
    subst (λ ns. OnOk c.mark_pairs.result (found_in c.mark_pairs.new.reach ≡ mark_each ns (found_in c.args.reach.now))) all c.mark_pairs.ensures

pub mark_slots-loop-slot-preserved : goal.mark_slots-loop-slot-preserved
mark_slots-loop-slot-preserved t c =
    each_more refs_of c.args.slots.now c.loop-slot.slot-index c.slot-item.result (found_in c.loop-slot.reach) (found_in c.mark_slot.new.reach) _ (omega arith)
    (c.in_ok-mark_slot.ensures ∙ ap (λ s. mark_each (refs_of s) (found_in c.loop-slot.reach)) c.slot-item.is) c.loop-slot.invariant

pub mark_pairs-loop-pair-preserved : goal.mark_pairs-loop-pair-preserved
mark_pairs-loop-pair-preserved t c =
    each_more (λ p. refs_of p.1) c.args.pairs.now c.loop-pair.pair-index c.pair-item.result (found_in c.loop-pair.reach) (found_in c.mark_slot.new.reach) _ (omega arith)
    (c.in_ok-mark_slot.ensures ∙ ap (λ (p : Sub × Slot). mark_each (refs_of p.1) (found_in c.loop-pair.reach)) c.pair-item.is) c.loop-pair.invariant
