use Rattle.oref_table.proofs.IndexLaws as index
use Rattle.std.specs.HashMap.{spare}
use Rattle.oref_table.specs.Rows.{entries_in}
use Rattle.std.proofs.Common.{ap, ◌∙◌, refl}
use Rattle.std.specs.BinaryHeap.{heap_items, heap_len, heap_capacity}
use Rattle.oref_table.specs.Entries.{is_entry, with_entry_mark}
use Rattle.oref_table.specs.Memory.{at_first}
use Rattle.oref_table.proofs.RowLaws.{rows-kept}
use Rattle.oref_table.proofs.objects.Objects.set_modified.Goals as goal

pub invariant_of-self : goal.invariant_of-self
invariant_of-self c = (
  rows-kept c.self.inside.rows.entries c.set_modified.new.rows.entries (heap_items c.self.inside.waiting) (heap_len c.self.inside.waiting) (heap_capacity c.self.inside.waiting) c.set_modified.ensures.idle c.self.invariant.0,
  index.indexed-kept (entries_in c.self.inside.rows.entries) (entries_in c.set_modified.new.rows.entries) c.self.inside.keys.extents.keys c.self.inside.keys.numbers.entries (spare c.self.inside.keys.numbers)
      (index.edit-tags c.args.number (with_entry_mark c.args.modified) c.self.inside.rows.entries c.set_modified.new.rows.entries (λ e. refl) c.set_modified.ensures)
      c.self.invariant.1,
)

pub returns : goal.returns
returns c = c.set_modified.ensures.entries ∙ ap (at_first (is_entry c.args.number) (with_entry_mark c.args.modified)) c.self.view_is
