use Rattle.std.proofs.Common.{◌≡◌, ◌++◌}
use Rattle.std.specs.Vec.Iter.{into_iter_items}
use Rattle.record_layout.specs.Reading.{Read, then_read, read_elements}
use Rattle.record_reading.specs.Stored.{source_of}
use Rattle.record_reading.proofs.reading.read_keys.Given as goal

-- the elements so far, and those that are still to be read
abbrev pub invariant-loop-key : goal.invariant-loop-key
invariant-loop-key l =
    then_read (read_elements l.stored.schema.now (source_of l.stored) l.array.name.now l.array.item.now (into_iter_items l.key-iterator)) (λ more. Read (l.pairs ++ more))
    ≡ read_elements l.stored.schema.now (source_of l.stored) l.array.name.now l.array.item.now l.fn.keys.items
