use Rattle.std.proofs.Common.{◌≡◌}
use Rattle.std.specs.List.{find}
use Rattle.std.specs.Map.{keys_of}
use Rattle.std.specs.BTreeMap.{keys}
use Rattle.lock_table.specs.Holders.{keeps_out}
use Rattle.lock_table.proofs.refusal.first_against.Given as goal

-- what is left has the answer
abbrev pub invariant-loop-holder : goal.invariant-loop-holder
invariant-loop-holder l = find (keeps_out l.pid l.mode) (keys_of l.holder-iterator) ≡ find (keeps_out l.pid l.mode) (keys l.holders)
