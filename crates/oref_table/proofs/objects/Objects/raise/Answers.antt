use Rattle.oref_table.proofs.IndexLaws as index
use Rattle.std.specs.HashMap.{spare}
use Rattle.oref_table.specs.Rows.{entries_in}
use Rattle.std.proofs.Common.{◌≡◌, refl}
use Rattle.std.specs.BinaryHeap.{heap_items, heap_len, heap_capacity}
use Rattle.obj_kinds.specs.declared.memory.Lack.TheVariants.{Count}
use Rattle.oref_table.specs.Entries.{raised}
use Rattle.oref_table.proofs.RowLaws.{kept-or-same, row-of}
use Rattle.oref_table.proofs.objects.Objects.raise.Goals as goal

pub invariant_of-self : goal.invariant_of-self
invariant_of-self c = (
  kept-or-same c.args.number raised c.self.inside.rows.entries c.raise.new.rows.entries (heap_items c.self.inside.waiting) (heap_len c.self.inside.waiting) (heap_capacity c.self.inside.waiting) c.raise.result (λ e. e ≡ Count) c.raise.ensures.ok c.raise.ensures.err c.self.invariant.0,
  index.indexed-kept (entries_in c.self.inside.rows.entries) (entries_in c.raise.new.rows.entries) c.self.inside.keys.extents.keys c.self.inside.keys.numbers.entries (spare c.self.inside.keys.numbers)
      (index.ok-tags c.args.number raised c.self.inside.rows.entries c.raise.new.rows.entries c.raise.result (λ e. e ≡ Count) (λ e. refl) c.raise.ensures.ok c.raise.ensures.err)
      c.self.invariant.1,
)

pub returns-clause-count : goal.returns-clause-count
returns-clause-count c = λ e g. c.raise.ensures.count e.obj (row-of c.args.number c.self.inside.rows.entries c.args.self.now e c.self.view_is g)
