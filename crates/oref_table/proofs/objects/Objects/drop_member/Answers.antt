use Rattle.oref_table.proofs.IndexLaws as index
use Rattle.std.specs.HashMap.{spare}
use Rattle.oref_table.specs.Rows.{entries_in}
use Rattle.std.proofs.Common.{refl}
use Rattle.std.specs.BinaryHeap.{heap_items, heap_len, heap_capacity}
use Rattle.oref_table.specs.Exchanges.{HasMembersAt}
use Rattle.oref_table.proofs.RowLaws.{row-slots, rows-kept, drops-first}
use Rattle.oref_table.proofs.objects.Objects.drop_member.Goals as goal

pub drop_member-requires : goal.drop_member-requires
drop_member-requires c = row-slots (HasMembersAt c.args.at) c.args.number c.self.inside.rows.entries c.args.self.now c.self.view_is c.requires

pub invariant_of-self : goal.invariant_of-self
invariant_of-self c = (
  rows-kept c.self.inside.rows.entries c.drop_member.new.rows.entries (heap_items c.self.inside.waiting) (heap_len c.self.inside.waiting) (heap_capacity c.self.inside.waiting) c.drop_member.ensures.4.idle c.self.invariant.0,
  index.indexed-kept (entries_in c.self.inside.rows.entries) (entries_in c.drop_member.new.rows.entries) c.self.inside.keys.extents.keys c.self.inside.keys.numbers.entries (spare c.self.inside.keys.numbers)
      (index.edit-tags c.args.number _ c.self.inside.rows.entries c.drop_member.new.rows.entries (λ e. refl) c.drop_member.ensures.4)
      c.self.invariant.1,
)

pub returns : goal.returns
returns c = drops-first c.args.number c.args.at c.args.member c.self.inside.rows.entries c.drop_member.new.rows.entries c.args.self.now c.self.view_is c.drop_member.ensures
