use Rattle.std.proofs.Common.{◌≡◌, ◌≤◌, ◌+◌, length}
use Rattle.text_lines.specs.Lines.{lines}
use Rattle.text_lines.specs.Reading.{read_lines}
use Rattle.text_lines.proofs.reading.read_text.Given as goal

abbrev pub invariant-lines : goal.invariant-lines
invariant-lines g l =
    (read_lines (g.R.LineReader.step l.reader) l.number l.said (lines l.rest) ≡ read_lines (g.R.LineReader.step l.reader) 1 l.initial.said (lines l.fn.text))
    × (l.number + length l.rest ≤ length l.fn.text + 1)

abbrev pub decreases-lines : goal.decreases-lines
decreases-lines g l = length l.rest
