use Rattle.oref_table.proofs.PlaceLaws.{not_ok}
use Rattle.prop_setting.proofs.lists.fill_item.Goals as goal

pub returns-clause-memory : goal.returns-clause-memory
returns-clause-memory c = absurd (not_ok c.fill.result _ c.in-Err.is (c.fill.ensures.there c.requires.there.0 c.requires.there.1 c.requires.there.2))

pub returns-clause-holds : goal.returns-clause-holds
returns-clause-holds c = absurd (not_ok c.fill.result _ c.in-Err.is (c.fill.ensures.there c.requires.there.0 c.requires.there.1 c.requires.there.2))
