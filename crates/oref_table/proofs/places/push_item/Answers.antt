use Rattle.oref_table.proofs.PlaceLaws.{exchange_push}
use Rattle.oref_table.proofs.places.push_item.Goals as goal

pub returns-in-Ok-clause-ok : goal.returns-in-Ok-clause-ok
returns-in-Ok-clause-ok c = (c.in-Ok.ensures.ok, exchange_push c.args.items c.args.item c.push.new.self c.in-Ok.ensures.ok)
