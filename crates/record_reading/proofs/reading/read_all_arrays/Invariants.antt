use Rattle.std.proofs.Common.{◌≡◌, ◌++◌, map, drop}
use Rattle.record_layout.specs.Reading.{Read, then_read, read_arrays}
use Rattle.record_reading.specs.Steps.{array_seen}
use Rattle.record_reading.specs.Stored.{source_of}
use Rattle.record_reading.proofs.reading.read_all_arrays.Given as goal

-- the arrays so far, and those that are still to be read
abbrev pub invariant-loop-array : goal.invariant-loop-array
invariant-loop-array l =
    then_read (read_arrays l.stored.schema.now (source_of l.stored) (map array_seen (drop l.array-index l.arrays))) (λ more. Read (l.all ++ more))
    ≡ read_arrays l.stored.schema.now (source_of l.stored) (map array_seen l.arrays)
