use Rattle.first_path.specs.Turns.{IsBetween}
use Rattle.first_path.proofs.script.read_script.Given as goal

abbrev pub invariant-loop-rest : goal.invariant-loop-rest
invariant-loop-rest l = IsBetween l.class.name.0 l.class.props l.text l.rest l.room l.reading

abbrev pub decreases-loop-rest : goal.decreases-loop-rest
decreases-loop-rest l = l.room
