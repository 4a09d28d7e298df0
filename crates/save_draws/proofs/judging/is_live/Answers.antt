use Rattle.save_draws.proofs.KeyLaws.{live_some}
use Rattle.save_draws.proofs.judging.is_live.Goals as goal

pub returns-in-Some : goal.returns-in-Some
returns-in-Some c = live_some c.args.key.now c.args.table.now c.by_id.result c.in-Some.field-0 c.in-Some.is c.by_id.ensures.found
