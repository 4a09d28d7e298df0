-- The law of deletes in steady runs.
use Rattle.std.proofs.Common.{refl}
use Rattle.object_calls.specs.Deletes.{delete}
use Rattle.sound_runs.specs.Closing.{Deletes}
use Rattle.good_calls.specs.Laws.{ShowsLoads}
use Rattle.good_calls.proofs.Rested.{steadily, to_idle, shows_tells, rests}
use Rattle.good_deletes.specs.Laws.{DeletesAreGood}
use Rattle.good_deletes.proofs.Deletes.{meets_delete}

pub deletes_are_good : DeletesAreGood
deletes_are_good classes tries most p key class level schema real high b r =
    rests classes schema p (delete classes tries most key class level) b
    (meets_delete (steadily classes schema ShowsLoads p) schema.storable tries most (shows_tells classes schema p) (λ b k h. Deletes k refl h) key real class level high b (to_idle classes schema p ShowsLoads b r))
