use Rattle.store_core.proofs.WithinLaws.{nodes_legal, beginning_ops, opening_within, states_within, replies_within, reply_within}
use Rattle.store_core.proofs.laws.histories_stay_within_limits.Goals as goal

pub returns : goal.returns
returns c = record {
  opening = nodes_legal;
  beginnings = beginning_ops;
  states = λ pids g es legal ops. states_within _ es (opening_within pids g legal) ops;
  replies = λ pids g es legal ops steps. replies_within _ es (opening_within pids g legal) steps ops;
  next = λ pids g es p op legal ops. reply_within _ p op (states_within _ es (opening_within pids g legal) ops);
}
