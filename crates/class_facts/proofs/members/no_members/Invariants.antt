use Rattle.std.proofs.Common.{◌≡◌, length}
use Rattle.class_facts.proofs.members.no_members.Given as goal

abbrev pub invariant-loop : goal.invariant-loop
invariant-loop l = length l.done ≡ l.counter
