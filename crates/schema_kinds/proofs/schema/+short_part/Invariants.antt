use Rattle.std.proofs.Common.{length}
use Rattle.schema_kinds.proofs.schema.+short_part.Given as goal

abbrev pub decreases-short_part : goal.decreases-short_part
decreases-short_part l = length l.text.now
