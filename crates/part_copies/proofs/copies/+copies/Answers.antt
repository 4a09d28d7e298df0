use Rattle.std.proofs.Common.{rules}
use Rattle.part_copies.proofs.CopyLaws.{items_none, part_slots}
use Rattle.part_copies.proofs.copies.+copies.Goals as goal

pub copy_part_at-copy_part-requires : goal.copy_part_at-copy_part-requires
copy_part_at-copy_part-requires t c = (
  search rules,
  (c.requires.table, part_slots c.args.from.now.schema.now c.args.from.now.table.now c.args.class.now c.args.slot.now c.in-To.oref c.object_slots-slots.result.now c.requires.table c.in-To.is c.requires.fits c.object_slots-slots.ensures),
)

pub copy_part_at-copy_plain-requires-in-Items : goal.copy_part_at-copy_plain-requires-in-Items
copy_part_at-copy_plain-requires-in-Items t c = items_none c.args.from.now.schema.now c.args.from.now.table.now c.args.class.now c.args.slot.now _ c.in-Items.is c.requires.fits
