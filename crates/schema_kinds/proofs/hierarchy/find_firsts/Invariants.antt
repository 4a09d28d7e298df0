use Rattle.std.proofs.Common.{◌≡◌, map, take}
use Rattle.schema_kinds.specs.Hierarchy.{first_place}
use Rattle.schema_kinds.proofs.hierarchy.find_firsts.Given as goal

abbrev pub invariant-loop-header : goal.invariant-loop-header
invariant-loop-header l = l.firsts ≡ map (λ h. first_place l.names h.supers) (take l.header-index l.headers)
