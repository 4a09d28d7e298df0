use Rattle.oref_table.proofs.PlaceLaws.{exchange_set}
use Rattle.oref_table.proofs.places.set_item.Goals as goal

pub returns-clause-exchange : goal.returns-clause-exchange
returns-clause-exchange c = exchange_set c.args.items c.args.item c.replace-old.result c.args.at c.replace-old.new.self c.replace-old.ensures.rest c.replace-old.ensures.item
