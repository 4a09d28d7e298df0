use Rattle.std.proofs.Common.{◌≡◌, IsSome, subst, sym, refl}
use Rattle.schema_kinds.specs.declared.kind.Item.TheVariants as of
use Rattle.obj_kinds.specs.declared.error_name.ErrorName.TheVariants as error
use Rattle.prop_setting.specs.Elements.{MayStand}
use Rattle.prop_setting.proofs.CopyLaws.{part_copied, part_lacks, slot-of-class, stands-live}
use Rattle.prop_setting.proofs.set.set_copy.Goals as goal

pub put_copy-requires-clause-live : goal.put_copy-requires-clause-live
put_copy-requires-clause-live c =
    let stands = subst (λ k. MayStand c.args.spot.now.schema.now c.args.table.now (of.Serial c.args.class.now) k) c.oref.ensures ((c.is_of.ensures c.args.spot.now.schema.now).0 c.if-is_of.true) in
    let o = stands-live c.args.spot.now.schema.now c.args.table.now c.args.class.now c.args.held.number stands in
    subst (λ x. IsSome x) (sym o.1) refl

pub returns-then-is_of-clause-ok : goal.returns-then-is_of-clause-ok
returns-then-is_of-clause-ok c =
    let stands = subst (λ k. MayStand c.args.spot.now.schema.now c.args.table.now (of.Serial c.args.class.now) k) c.oref.ensures ((c.is_of.ensures c.args.spot.now.schema.now).0 c.if-is_of.true) in
    part_copied c.args.spot.now.schema.now c.args.table.now c.put_copy.new.table c.args.spot.now.level c.args.spot.now.oref.0 c.args.spot.now.at c.args.class.now c.args.held c.put_copy.result stands c.put_copy.ensures.ok

pub returns-then-is_of-clause-err : goal.returns-then-is_of-clause-err
returns-then-is_of-clause-err c =
    part_lacks (λ n. (¬ MayStand c.args.spot.now.schema.now c.args.table.now (of.Serial c.args.class.now) c.args.held.number) × (n ≡ error.CannotSetThisProperty)) c.args.table.now c.put_copy.new.table c.args.held c.put_copy.result c.put_copy.ensures.err

pub returns-then-is_of-clause-fits : goal.returns-then-is_of-clause-fits
returns-then-is_of-clause-fits c = λ slot.
    let stands = subst (λ k. MayStand c.args.spot.now.schema.now c.args.table.now (of.Serial c.args.class.now) k) c.oref.ensures ((c.is_of.ensures c.args.spot.now.schema.now).0 c.if-is_of.true) in
    let o = stands-live c.args.spot.now.schema.now c.args.table.now c.args.class.now c.args.held.number stands in
    c.put_copy.ensures.fits o.0 o.1 (slot-of-class c.args.spot.now.schema.now c.args.table.now c.args.spot.now.oref.0 c.args.spot.now.at c.args.class.now o.0.class o.2 slot)
