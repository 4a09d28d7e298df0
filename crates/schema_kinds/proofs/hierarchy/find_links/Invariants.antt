use Rattle.std.proofs.Common.{◌≡◌, map, take}
use Rattle.schema_kinds.specs.Hierarchy.{super_places}
use Rattle.schema_kinds.proofs.hierarchy.find_links.Given as goal

abbrev pub invariant-loop-header : goal.invariant-loop-header
invariant-loop-header l = l.links ≡ map (λ h. super_places l.names h.supers) (take l.header-index l.headers)
