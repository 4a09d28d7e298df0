use Rattle.std.proofs.Common.{◌≡◌}
use Rattle.std.specs.BinaryHeap.{heap_items, heap_len, heap_capacity}
use Rattle.oref_table.specs.Rows.{AreRows}
use Rattle.oref_table.proofs.rows.take_first.Given as goal

-- only what waits has changed
abbrev pub invariant-loop-number : goal.invariant-loop-number
invariant-loop-number l = record {
  same : l.rows.entries ≡ l.initial.rows.entries;
  rows : AreRows l.rows.entries (heap_items l.waiting) (heap_len l.waiting) (heap_capacity l.waiting);
}

abbrev pub decreases-loop-number : goal.decreases-loop-number
decreases-loop-number l = heap_len l.waiting
