use Rattle.turn_queue.proofs.crossing.stores_cross_threads.Goals as goal

pub returns : goal.returns
returns c = record { owned = c.crosses_threads.ensures.owned; leaving = λ k x w. tt }
