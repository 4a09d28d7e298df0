use Rattle.std.proofs.Common.{◌≡◌, drop}
use Rattle.oref_table.specs.Memory.{Memory}
use Rattle.part_copies.specs.Holding.{AreLive, IsKept, tightened}
use Rattle.part_copies.proofs.hold.let_all_go.Given as goal

-- the holds of those that are left are still there
abbrev pub invariant-loop-number : goal.invariant-loop-number
invariant-loop-number l = record {
  left : (m : Memory) → IsKept m → l.initial.table ≡ tightened m l.numbers → l.table ≡ tightened m (drop l.number-index l.numbers);
  some : (m : Memory) × IsKept m × AreLive m (drop l.number-index l.numbers) × (l.table ≡ tightened m (drop l.number-index l.numbers));
}
