use Rattle.oref_table.proofs.PlaceLaws.{exchange_take}
use Rattle.oref_table.proofs.places.take_item.Goals as goal

pub returns-clause-exchange : goal.returns-clause-exchange
returns-clause-exchange c = exchange_take c.args.items c.remove-old.result c.args.at c.remove-old.new.self c.remove-old.ensures.rest c.remove-old.ensures.item
