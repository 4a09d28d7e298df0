use Rattle.std.proofs.Common.{◌≡◌, take}
use Rattle.schema_kinds.proofs.prop.copy_props.Given as goal

-- the props so far are copied
abbrev pub invariant-loop-prop : goal.invariant-loop-prop
invariant-loop-prop l = l.copy ≡ take l.prop-index l.props
