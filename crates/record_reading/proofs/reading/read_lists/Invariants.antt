use Rattle.std.proofs.Common.{◌≡◌, ◌++◌, map, drop}
use Rattle.record_layout.specs.Reading.{Read, then_read, read_lower}
use Rattle.record_reading.specs.Steps.{list_seen}
use Rattle.record_reading.specs.Stored.{source_of}
use Rattle.record_reading.proofs.reading.read_lists.Given as goal

-- the fields so far, and those that are still to be read
abbrev pub invariant-loop-list : goal.invariant-loop-list
invariant-loop-list l =
    then_read (read_lower l.stored.schema.now (source_of l.stored) (map list_seen (drop l.list-index l.lists))) (λ more. Read (l.all ++ more))
    ≡ read_lower l.stored.schema.now (source_of l.stored) (map list_seen l.lists)
