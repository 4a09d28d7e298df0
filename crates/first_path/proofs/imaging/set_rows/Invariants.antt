use Rattle.std.proofs.Common.{◌≡◌, ◌+◌, drop}
use Rattle.first_path.specs.Image.{rows_from}
use Rattle.first_path.specs.Sets.{after_sets, PinnedAtMost}
use Rattle.first_path.proofs.imaging.set_rows.Given as goal

-- the rows so far are set, and the others are left
abbrev pub invariant-loop-index : goal.invariant-loop-index
invariant-loop-index l = record {
  rows : after_sets l.tree.globals (rows_from l.class.0 (l.index + 1) (drop l.index l.saved)) ≡ after_sets l.fn.tree.globals (rows_from l.class.0 1 l.saved);
  pins : PinnedAtMost (l.index + 1) l.tree.pins;
}
