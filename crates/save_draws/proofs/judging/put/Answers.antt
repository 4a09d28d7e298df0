use Rattle.save_draws.proofs.judging.put.Goals as goal

pub returns-clause-ids_stay : goal.returns-clause-ids_stay
returns-clause-ids_stay c = c.take_back.ensures c.args.ids.now (c.args.number, c.args.key.id) c.in_ok-push.ensures.ok
