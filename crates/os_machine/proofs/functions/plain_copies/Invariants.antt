use Rattle.std.proofs.Common.{◌≡◌, ◌++◌, drop, map}
use Rattle.os_meaning.specs.Values.{plain}
use Rattle.os_machine.proofs.functions.plain_copies.Given as goal

-- what is copied and what is left are all
abbrev pub invariant-loop-value : goal.invariant-loop-value
invariant-loop-value l = l.copies ++ map plain (drop l.value-index l.values) ≡ map plain l.values
