use Rattle.std.proofs.Common.{◌≡◌, [], ◌∷◌, ap, ◌∙◌, arith}
use Rattle.oref_table.specs.Refs.{times}
use Rattle.oref_table.specs.Filling.{IsHeldFor, passed}
use Rattle.oref_table.specs.declared.fill.Fill.TheVariants as fill
use Rattle.obj_props.proofs.PartLaws.{holder-slot, may-fill, part-few, part-live, part-memory, passed-to, slot-live}
use Rattle.obj_props.proofs.part.make_part.Goals as goal

pub make-requires-clause-free : goal.make-requires-clause-free
make-requires-clause-free c = λ e i h k. cc

pub hold_again-again-requires-clause-live : goal.hold_again-again-requires-clause-live
hold_again-again-requires-clause-live c =
    part-live c.args.table.now c.make.new.self c.args.part.class c.args.part.extent c.args.part.level c.args.part.slots c.in_ok-held.held.number c.soundness.ensures c.in_ok-held.ensures.ok c.in_ok-held.ensures.held

pub hold_again-again-requires-clause-few : goal.hold_again-again-requires-clause-few
hold_again-again-requires-clause-few c =
    part-few c.args.table.now c.make.new.self c.args.part.class c.args.part.extent c.args.part.level c.args.part.slots c.in_ok-held.held.number c.soundness.ensures c.requires.no_refs c.in_ok-held.ensures.ok c.in_ok-held.ensures.held

pub fill_slot-requires-clause-live : goal.fill_slot-requires-clause-live
fill_slot-requires-clause-live c =
    slot-live c.hold_again-again.new.table c.args.holder.0 c.args.at
    (holder-slot c.args.table.now c.make.new.self c.hold_again-again.new.table c.args.part.class c.args.part.extent c.args.part.level c.args.part.slots c.in_ok-held.held.number c.args.holder.0 c.args.at c.in_ok-held.ensures.ok c.hold_again-again.ensures.memory c.requires.slot)

pub fill_slot-requires-clause-place : goal.fill_slot-requires-clause-place
fill_slot-requires-clause-place c =
    may-fill c.hold_again-again.new.table c.args.holder.0 c.args.at (fill.To c.hold_again-again.result)
    (holder-slot c.args.table.now c.make.new.self c.hold_again-again.new.table c.args.part.class c.args.part.extent c.args.part.level c.args.part.slots c.in_ok-held.held.number c.args.holder.0 c.args.at c.in_ok-held.ensures.ok c.hold_again-again.ensures.memory c.requires.slot)

pub fill_slot-requires-clause-held : goal.fill_slot-requires-clause-held
unfolding IsHeldFor
fill_slot-requires-clause-held c = c.hold_again-again.ensures.outside

pub returns-clause-memory : goal.returns-clause-memory
returns-clause-memory c =
    part-memory c.args.table.now c.make.new.self c.hold_again-again.new.table c.fill_slot.new.table c.args.part.class c.args.part.extent c.args.part.level c.args.part.slots c.args.holder.0 c.args.at c.in_ok-held.held.number c.hold_again-again.result
    c.in_ok-held.ensures.ok c.in_ok-held.ensures.held c.hold_again-again.ensures.memory c.hold_again-again.ensures.held c.fill_slot.ensures.memory

pub returns-clause-holds : goal.returns-clause-holds
returns-clause-holds c = λ n.
    let p : times n (passed (fill.To c.hold_again-again.result)) ≡ times n (c.in_ok-held.held.number ∷ [])
    = ap (times n) (passed-to c.hold_again-again.result ∙ ap (λ k. k ∷ []) c.hold_again-again.ensures.held) in
    omega (arith, c.fill_slot.ensures.holds n, c.hold_again-again.ensures.holds n, c.in_ok-held.ensures.holds n, p)
