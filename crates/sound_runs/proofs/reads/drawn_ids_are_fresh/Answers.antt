use Rattle.sound_runs.proofs.Viewed.{draws_are_fresh, drawn_are_bare}
use Rattle.sound_runs.proofs.reads.drawn_ids_are_fresh.Goals as goal

pub returns-clause-fresh : goal.returns-clause-fresh
returns-clause-fresh c = draws_are_fresh

pub returns-clause-bare : goal.returns-clause-bare
returns-clause-bare c = drawn_are_bare
