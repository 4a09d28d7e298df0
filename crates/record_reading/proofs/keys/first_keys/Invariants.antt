use Rattle.std.proofs.Common.{◌≡◌, ◌++◌, length, None, IsTrue}
use Rattle.std.specs.Option.{option_copied}
use Rattle.std.specs.FinMap.{is_sorted}
use Rattle.std.specs.FinMap.Entries.{below_all}
use Rattle.obj_kinds.specs.Order.{node_cmp}
use Rattle.record_reading.specs.Keys.{keys_after}
use Rattle.record_reading.proofs.keys.first_keys.Given as goal

-- the subscripts so far, and those that are left; what is left rises behind the node
abbrev pub invariant-loop-pair : goal.invariant-loop-pair
invariant-loop-pair l =
    (l.keys.items ++ keys_after l.node (option_copied l.last) l.rest ≡ keys_after l.node None l.pairs)
    × IsTrue (is_sorted node_cmp l.rest) × IsTrue (below_all node_cmp l.node l.rest)

abbrev pub decreases-loop-pair : goal.decreases-loop-pair
decreases-loop-pair l = length l.rest
