use Rattle.oref_table.proofs.IndexLaws as index
use Rattle.std.specs.HashMap.{spare}
use Rattle.oref_table.specs.Rows.{entries_in}
use Rattle.std.proofs.Common.{ap, ◌∙◌, ◌∷◌, []}
use Rattle.oref_table.specs.Keys.{tags}
use Rattle.std.specs.BinaryHeap.{heap_items, heap_len, heap_capacity}
use Rattle.oref_table.proofs.RowLaws.{lower-rows, lower-kept}
use Rattle.oref_table.proofs.objects.Objects.lower.Goals as goal

pub invariant_of-self : goal.invariant_of-self
invariant_of-self c = (
  lower-rows c.args.number c.count_off.result c.self.inside.rows.entries c.count_off.new.rows.entries (heap_items c.self.inside.waiting) (heap_items c.await_release.new.waiting) (heap_len c.self.inside.waiting) (heap_len c.await_release.new.waiting) (heap_capacity c.self.inside.waiting) (heap_capacity c.await_release.new.waiting)
      c.self.invariant.0 c.count_off.ensures.rising c.count_off.ensures.counted c.count_off.ensures.awaited c.if-count_off.true c.await_release.ensures.items c.await_release.ensures.order c.await_release.ensures.len c.await_release.ensures.room,
  index.indexed-kept (entries_in c.self.inside.rows.entries) (entries_in c.count_off.new.rows.entries) c.self.inside.keys.extents.keys c.self.inside.keys.numbers.entries (spare c.self.inside.keys.numbers)
      (ap tags c.count_off.ensures.rows ∙ index.tags-lowered (c.args.number ∷ []) (entries_in c.self.inside.rows.entries))
      c.self.invariant.1,
)

pub invariant_of-self-else-count_off : goal.invariant_of-self-else-count_off
invariant_of-self-else-count_off c = (
  lower-kept c.args.number c.count_off.result c.self.inside.rows.entries c.count_off.new.rows.entries (heap_items c.self.inside.waiting) (heap_len c.self.inside.waiting) (heap_capacity c.self.inside.waiting) c.self.invariant.0 c.count_off.ensures.rising c.count_off.ensures.counted c.count_off.ensures.awaited c.if-count_off.false,
  index.indexed-kept (entries_in c.self.inside.rows.entries) (entries_in c.count_off.new.rows.entries) c.self.inside.keys.extents.keys c.self.inside.keys.numbers.entries (spare c.self.inside.keys.numbers)
      (ap tags c.count_off.ensures.rows ∙ index.tags-lowered (c.args.number ∷ []) (entries_in c.self.inside.rows.entries))
      c.self.invariant.1,
)
