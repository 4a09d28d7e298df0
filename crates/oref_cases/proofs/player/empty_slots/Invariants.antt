use Rattle.std.proofs.Common.{◌≡◌, []}
use Rattle.oref_table.specs.Refs.{refs_in}
use Rattle.oref_cases.proofs.player.empty_slots.Given as goal

-- none names an object
abbrev pub invariant-loop-letter : goal.invariant-loop-letter
invariant-loop-letter l = refs_in l.slots ≡ []
