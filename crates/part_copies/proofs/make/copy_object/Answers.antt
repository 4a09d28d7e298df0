use Rattle.part_copies.specs.Making.{copy_of}
use Rattle.part_copies.proofs.MakeCopies.{are-copies, copied-fits, ok-copied}
use Rattle.part_copies.proofs.make.copy_object.Goals as goal

pub make-requires : goal.make-requires
make-requires c =
    let o = c.in_ok-copy.ensures in
    (copy_of c.args.schema.now c.args.table.now c.args.level o.0, are-copies c.args.schema.now c.args.table.now c.args.level c.args.part.0 o.0 c.standing.ensures.sound o.1, o.2)

pub returns-clause-ok : goal.returns-clause-ok
returns-clause-ok c =
    let o = c.in_ok-copy.ensures in
    ok-copied c.args.schema.now c.args.table.now c.make.new.table c.args.level c.args.part.0 o.0 c.make.result o.1
    (c.make.ensures.ok (copy_of c.args.schema.now c.args.table.now c.args.level o.0) (are-copies c.args.schema.now c.args.table.now c.args.level c.args.part.0 o.0 c.standing.ensures.sound o.1) o.2)

pub returns-clause-fits : goal.returns-clause-fits
returns-clause-fits c =
    let o = c.in_ok-copy.ensures in
    copied-fits c.args.schema.now c.args.table.now c.make.new.table c.args.level c.args.part.0 o.0 c.make.result c.requires.whole c.requires.level c.standing.ensures.sound c.requires.fits o.1
    (c.make.ensures.ok (copy_of c.args.schema.now c.args.table.now c.args.level o.0) (are-copies c.args.schema.now c.args.table.now c.args.level c.args.part.0 o.0 c.standing.ensures.sound o.1) o.2)
    c.make.ensures.err
