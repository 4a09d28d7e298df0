use Rattle.std.proofs.Common.{◌≡◌, ◌++◌, drop}
use Rattle.std.specs.List.{flat_map}
use Rattle.read_plan.proofs.gathering.own_fields.Given as goal

-- the fields so far, and those of the lists that are left
abbrev pub invariant-loop-list : goal.invariant-loop-list
invariant-loop-list l = l.own ++ flat_map (λ fields. fields) (drop l.list-index l.begun.lists) ≡ l.begun.first ++ flat_map (λ fields. fields) l.begun.lists
