use Rattle.std.proofs.Common.{◌+◌, ◌∷◌, [], ap, sym, ◌∙◌}
use Rattle.oref_table.specs.Memory.{outside_of}
use Rattle.oref_table.specs.Refs.{times}
use Rattle.part_copies.specs.Holding.{tightened}
use Rattle.part_copies.proofs.MakeCopies.{enough-held, made-held, made-memory, made-outside}
use Rattle.part_copies.proofs.make.make.Goals as goal

pub make_all-requires : goal.make_all-requires
make_all-requires c =
    enough-held c.args.table.now c.hold_all.new.table c.requires.0 c.args.copy c.requires.1 c.requires.2 (c.in_ok-hold_all.ensures.ok ∙ ap (tightened c.args.table.now) c.as_slice.ensures.value)

pub unpark-requires : goal.unpark-requires
unpark-requires c =
    let held = c.in_ok-hold_all.ensures.ok ∙ ap (tightened c.args.table.now) c.as_slice.ensures.value in
    let is = made-memory c.args.table.now c.hold_all.new.table c.make_all.new.self c.requires.0 c.args.copy c.requires.1 c.requires.2 held c.in-Ok.ensures.ok in
    made-held c.args.table.now c.make_all.new.self c.requires.0 c.args.copy c.requires.1 c.requires.2 is

pub returns-in-Ok-clause-ok : goal.returns-in-Ok-clause-ok
returns-in-Ok-clause-ok c = λ copies are whole.
    let held = c.in_ok-hold_all.ensures.ok ∙ ap (tightened c.args.table.now) c.as_slice.ensures.value in
    let is = made-memory c.args.table.now c.hold_all.new.table c.make_all.new.self copies c.args.copy are whole held c.in-Ok.ensures.ok in
    (c.unpark.ensures.same ∙ is, c.unpark.ensures.held ∙ whole.number)

pub returns-in-Ok-clause-holds : goal.returns-in-Ok-clause-holds
returns-in-Ok-clause-holds c = λ k.
    let held = c.in_ok-hold_all.ensures.ok ∙ ap (tightened c.args.table.now) c.as_slice.ensures.value in
    let is = made-memory c.args.table.now c.hold_all.new.table c.make_all.new.self c.requires.0 c.args.copy c.requires.1 c.requires.2 held c.in-Ok.ensures.ok in
    made-outside c.args.table.now c.unpark.new.self c.requires.0 c.args.copy c.requires.1 c.requires.2 (c.unpark.ensures.same ∙ is) k
    ∙ ap (λ n. outside_of c.args.table.now k + times k (n ∷ [])) (sym c.unpark.ensures.held)
