-- The source of the nodes of an object.
use Rattle.record_layout.specs.Reading.{Source}
use Rattle.record_reading.specs.Rows.{source_in}
use Rattle.record_reading.specs.declared.reading.Stored.{Stored}

abbrev pub source_of : Stored → Source
source_of s = source_in s.nodes.now s.row.now
