use Rattle.turn_queue.proofs.Sent.{seat_crosses}
use Rattle.turn_queue.proofs.crossing.seats_cross_threads.Goals as goal

pub returns : goal.returns
returns c = seat_crosses c.stores_cross_threads.ensures
