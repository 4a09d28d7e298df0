use Rattle.std.proofs.Common.{◌≡◌, ◌++◌, length, map}
use Rattle.save_works.specs.Works.{key_seen, moved_by, uniques_at}
use Rattle.save_works.proofs.keys.moved_from.Given as goal

-- those so far, and those of the indexes that are left
abbrev pub invariant-loop-index : goal.invariant-loop-index
invariant-loop-index l =
    map key_seen l.moved ++ moved_by l.rest (uniques_at l.of.key.now l.indexes l.of.props.now l.of.fields.now) ≡ moved_by l.olds (uniques_at l.of.key.now l.of.indexes.now l.of.props.now l.of.fields.now)

abbrev pub decreases-loop-index : goal.decreases-loop-index
decreases-loop-index l = length l.indexes
