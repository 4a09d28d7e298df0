use Rattle.std.proofs.Common.{◌≡◌, ◌∷◌, map, take}
use Rattle.storage_map.specs.Entries.{capital}
use Rattle.storage_map.proofs.entry_nodes.capitals.Given as goal

abbrev pub invariant-loop-byte : goal.invariant-loop-byte
invariant-loop-byte l = l.capitals ≡ 32 ∷ map capital (take l.byte-index l.text)
