use Rattle.store_core.proofs.FrameLaws.{cleared_same, cleared_opening}
use Rattle.store_core.proofs.laws.cleared_without_levels.Goals as goal

pub returns : goal.returns
returns c = record { same = cleared_same; opening = cleared_opening }
