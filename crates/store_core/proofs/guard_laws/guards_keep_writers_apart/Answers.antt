use Rattle.store_core.proofs.GuardLaws.{opening_guarded, guarded_after, one_writer, closed_unnamed, closed_unchanged}
use Rattle.store_core.proofs.guard_laws.guards_keep_writers_apart.Goals as goal

pub returns : goal.returns
returns c = record {
  opening = opening_guarded;
  kept = λ guard s p op live may k. guarded_after guard s p op may k live;
  alone = one_writer;
  closed = closed_unnamed;
  unchanged = closed_unchanged;
}
