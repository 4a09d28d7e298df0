use Rattle.std.proofs.Common.{◌≡◌, map, take}
use Rattle.first_class.proofs.text_class.names_of.Given as goal

-- the names so far
abbrev pub invariant-loop-prop : goal.invariant-loop-prop
invariant-loop-prop l = l.names ≡ map (λ p. p.name) (take l.prop-index l.props)
