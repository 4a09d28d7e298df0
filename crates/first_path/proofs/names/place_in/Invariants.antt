use Rattle.std.proofs.Common.{◌≡◌, ◌+◌, drop}
use Rattle.std.specs.Option.{option_map}
use Rattle.first_path.specs.Meaning.{property_of}
use Rattle.first_path.proofs.names.place_in.Given as goal

-- the place is among those that are left
abbrev pub invariant-loop-at : goal.invariant-loop-at
invariant-loop-at l = option_map (λ n. l.at + n) (property_of (drop l.at l.props) l.name) ≡ property_of l.props l.name
