use Rattle.std.proofs.Common.{◌≡◌, ◌++◌, reverse, drop}
use Rattle.record_layout.specs.Shapes.{forms_of}
use Rattle.record_layout.specs.Reading.{merged}
use Rattle.record_reading.proofs.merge.merge_turned.Given as goal

-- the fields so far, and those that are left
abbrev pub invariant-loop-prop : goal.invariant-loop-prop
invariant-loop-prop l =
    l.fields ++ merged (forms_of (drop l.prop-index l.props)) (reverse l.own) (reverse l.maps)
    ≡ merged (forms_of l.props) (reverse l.fn.own) (reverse l.fn.maps)
