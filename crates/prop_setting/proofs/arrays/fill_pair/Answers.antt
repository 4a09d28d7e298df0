use Rattle.oref_table.proofs.PlaceLaws.{not_ok}
use Rattle.prop_setting.proofs.arrays.fill_pair.Goals as goal

pub returns : goal.returns
returns c = absurd (not_ok c.fill.result _ c.in-Err.is (c.fill.ensures.there c.requires.there.0 c.requires.there.1 c.requires.there.2))
