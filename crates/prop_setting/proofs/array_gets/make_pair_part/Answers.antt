use Rattle.oref_table.specs.Filling.{IsHeldFor}
use Rattle.oref_table.specs.declared.fill.Fill.TheVariants as fill
use Rattle.obj_props.proofs.PartLaws.{part-few, part-live}
use Rattle.prop_setting.proofs.ArrayLaws.{array-live, pair-may, pair-there}
use Rattle.prop_setting.proofs.ArrayReadLaws.{array-held, pair-part}
use Rattle.prop_setting.proofs.array_gets.make_pair_part.Goals as goal

pub make-requires-clause-free : goal.make-requires-clause-free
make-requires-clause-free c = λ e i h k. cc

pub hold_again-again-requires-clause-live : goal.hold_again-again-requires-clause-live
hold_again-again-requires-clause-live c =
    part-live c.args.table.now c.make.new.self c.args.part.class c.args.part.extent c.args.part.level c.args.part.slots c.in_ok-held.held.number c.soundness.ensures c.in_ok-held.ensures.ok c.in_ok-held.ensures.held

pub hold_again-again-requires-clause-few : goal.hold_again-again-requires-clause-few
hold_again-again-requires-clause-few c =
    part-few c.args.table.now c.make.new.self c.args.part.class c.args.part.extent c.args.part.level c.args.part.slots c.in_ok-held.held.number c.soundness.ensures c.requires.no_refs c.in_ok-held.ensures.ok c.in_ok-held.ensures.held

pub fill_pair-requires-clause-live : goal.fill_pair-requires-clause-live
fill_pair-requires-clause-live c =
    array-live c.hold_again-again.new.table c.args.holder.0 c.args.at c.requires.array.0
    (array-held c.args.table.now c.make.new.self c.hold_again-again.new.table c.args.part.class c.args.part.extent c.args.part.level c.args.part.slots c.in_ok-held.held.number c.args.holder.0 c.args.at c.requires.array.0 c.in_ok-held.ensures.ok c.hold_again-again.ensures.memory c.requires.array.1)

pub fill_pair-requires-clause-place : goal.fill_pair-requires-clause-place
fill_pair-requires-clause-place c =
    pair-may c.hold_again-again.new.table c.args.holder.0 c.args.at c.args.key (fill.To c.hold_again-again.result) c.requires.array.0 (λ z. absurd (cc))
    (array-held c.args.table.now c.make.new.self c.hold_again-again.new.table c.args.part.class c.args.part.extent c.args.part.level c.args.part.slots c.in_ok-held.held.number c.args.holder.0 c.args.at c.requires.array.0 c.in_ok-held.ensures.ok c.hold_again-again.ensures.memory c.requires.array.1)
    c.requires.array.2

pub fill_pair-requires-clause-there : goal.fill_pair-requires-clause-there
fill_pair-requires-clause-there c =
    pair-there c.hold_again-again.new.table c.args.holder.0 c.args.at c.args.key c.requires.array.0
    (array-held c.args.table.now c.make.new.self c.hold_again-again.new.table c.args.part.class c.args.part.extent c.args.part.level c.args.part.slots c.in_ok-held.held.number c.args.holder.0 c.args.at c.requires.array.0 c.in_ok-held.ensures.ok c.hold_again-again.ensures.memory c.requires.array.1)
    c.requires.array.3

pub fill_pair-requires-clause-held : goal.fill_pair-requires-clause-held
unfolding IsHeldFor
fill_pair-requires-clause-held c = c.hold_again-again.ensures.outside

pub returns-clause-memory : goal.returns-clause-memory
returns-clause-memory c = λ pairs array.
    pair-part c.args.table.now c.make.new.self c.hold_again-again.new.table c.fill_pair.new.table c.args.part.class c.args.part.extent c.args.part.level c.args.part.slots c.args.holder.0 c.args.at c.in_ok-held.held.number c.args.key c.hold_again-again.result pairs
    c.in_ok-held.ensures.ok c.in_ok-held.ensures.held c.hold_again-again.ensures.memory c.hold_again-again.ensures.held c.fill_pair.ensures array
