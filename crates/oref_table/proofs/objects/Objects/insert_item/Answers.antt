use Rattle.oref_table.proofs.IndexLaws as index
use Rattle.std.specs.HashMap.{spare}
use Rattle.oref_table.specs.Rows.{entries_in}
use Rattle.std.specs.BinaryHeap.{heap_items, heap_len, heap_capacity}
use Rattle.oref_table.specs.Exchanges.{HasItemsAt}
use Rattle.oref_table.proofs.RowLaws.{row-slots, inserted-kept, inserts-first}
use Rattle.oref_table.proofs.objects.Objects.insert_item.Goals as goal

pub insert_item-requires : goal.insert_item-requires
insert_item-requires c = row-slots (HasItemsAt c.args.at c.args.before) c.args.number c.self.inside.rows.entries c.args.self.now c.self.view_is c.requires

pub invariant_of-self : goal.invariant_of-self
invariant_of-self c = (
  inserted-kept c.args.number c.args.at c.args.before c.args.item c.self.inside.rows.entries c.insert_item.new.rows.entries (heap_items c.self.inside.waiting) (heap_len c.self.inside.waiting) (heap_capacity c.self.inside.waiting) c.insert_item.result c.insert_item.ensures.added c.insert_item.ensures.refused c.self.invariant.0,
  index.indexed-kept (entries_in c.self.inside.rows.entries) (entries_in c.insert_item.new.rows.entries) c.self.inside.keys.extents.keys c.self.inside.keys.numbers.entries (spare c.self.inside.keys.numbers)
      (index.inserted-tags c.args.number c.args.at c.args.before c.args.item c.self.inside.rows.entries c.insert_item.new.rows.entries c.insert_item.result c.insert_item.ensures.added c.insert_item.ensures.refused)
      c.self.invariant.1,
)

pub returns-clause-added : goal.returns-clause-added
returns-clause-added c = λ e. inserts-first c.args.number c.args.at c.args.before c.args.item c.self.inside.rows.entries c.insert_item.new.rows.entries c.args.self.now c.self.view_is (c.insert_item.ensures.added e)
