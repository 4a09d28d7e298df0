use Rattle.std.proofs.Common.{◌≡◌, ◌++◌, length, map}
use Rattle.std.specs.List.{flat_map}
use Rattle.save_works.specs.Works.{key_seen, key_test}
use Rattle.save_works.proofs.tests.push_keys.Given as goal

-- the tests so far, and those of the keys that are left
abbrev pub invariant-loop-key : goal.invariant-loop-key
invariant-loop-key l = l.askings ++ flat_map (key_test l.extent) (map key_seen l.rest) ≡ l.initial.askings ++ flat_map (key_test l.extent) (map key_seen l.keys)

abbrev pub decreases-loop-key : goal.decreases-loop-key
decreases-loop-key l = length l.rest
