use Rattle.std.proofs.Common.{◌≡◌, length}
use Rattle.os_machine.specs.Variables.{vars_of, last_object}
use Rattle.os_machine.proofs.variables.Variables.drop_object.Given as goal

-- only data have gone
abbrev pub invariant-variables : goal.invariant-variables
invariant-variables l = last_object (vars_of l.self-inside.values.entries) ≡ last_object (vars_of l.initial.self-inside.values.entries)

abbrev pub decreases-variables : goal.decreases-variables
decreases-variables l = length l.self-inside.values.entries
