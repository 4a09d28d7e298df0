use Rattle.std.proofs.Common.{subst}
use Rattle.part_copies.specs.Making.{IsCopied}
use Rattle.prop_setting.proofs.CopyLaws.{copy-held, copy-stands, given-held, slot-behind, takes-copy}
use Rattle.prop_setting.proofs.set.put_copy.Goals as goal

pub put-requires-clause-slot : goal.put-requires-clause-slot
put-requires-clause-slot c =
    slot-behind c.args.spot.now.schema.now c.args.table.now c.copy_object.new.table c.args.spot.now.level c.oref.result.0 c.args.spot.now.oref.0 c.args.spot.now.at c.in-Ok.copy.number c.in-Ok.ensures.ok c.requires.slot

pub put-requires-clause-held : goal.put-requires-clause-held
put-requires-clause-held c = copy-held c.args.table.now c.copy_object.new.table c.in-Ok.copy c.in-Ok.ensures.holds

pub let_go-requires : goal.let_go-requires
let_go-requires c = given-held c.args.table.now c.copy_object.new.table c.put.new.table c.args.held.number c.in-Ok.copy c.in-Ok.ensures.holds c.put.ensures.holds c.requires.held

pub returns-in-Ok-clause-ok : goal.returns-in-Ok-clause-ok
returns-in-Ok-clause-ok c = λ o e.
    copy-stands c.args.spot.now.schema.now c.args.table.now c.copy_object.new.table c.put.new.table c.let_go.new.table c.args.spot.now.level c.args.spot.now.oref.0 c.args.spot.now.at c.args.held c.in-Ok.copy o e
    (subst (λ k. IsCopied c.args.spot.now.schema.now c.args.table.now c.args.spot.now.level k c.copy_object.new.table c.in-Ok.copy.number) c.oref.ensures c.in-Ok.ensures.ok)
    c.put.ensures.memory c.let_go.ensures.memory

pub returns-in-Ok-clause-fits : goal.returns-in-Ok-clause-fits
returns-in-Ok-clause-fits c = λ o e slot.
    c.let_go.ensures.fits c.args.spot.now.schema.now
    (c.put.ensures.fits c.args.spot.now.schema.now
    (takes-copy c.args.spot.now.schema.now c.args.table.now c.copy_object.new.table c.args.spot.now.level c.args.spot.now.oref.0 c.args.spot.now.at c.args.held c.in-Ok.copy o c.requires.whole c.requires.level c.soundness.ensures c.requires.fits e
    (subst (λ k. IsCopied c.args.spot.now.schema.now c.args.table.now c.args.spot.now.level k c.copy_object.new.table c.in-Ok.copy.number) c.oref.ensures c.in-Ok.ensures.ok) slot)
    c.in-Ok.ensures.fits)
