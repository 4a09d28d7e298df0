use Rattle.std.proofs.Common.{◌≡◌, ◌++◌, length, map}
use Rattle.std.specs.List.{flat_map}
use Rattle.save_works.specs.Works.{key_locks, key_seen}
use Rattle.save_works.proofs.locks.push_keys.Given as goal

-- the locks so far, and those of the keys that are left
abbrev pub invariant-loop-key : goal.invariant-loop-key
invariant-loop-key l = l.askings ++ flat_map key_locks (map key_seen l.rest) ≡ l.initial.askings ++ flat_map key_locks (map key_seen l.keys)

abbrev pub decreases-loop-key : goal.decreases-loop-key
decreases-loop-key l = length l.rest
