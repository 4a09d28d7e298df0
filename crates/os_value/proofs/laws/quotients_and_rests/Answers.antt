use Rattle.os_value.proofs.RestLaws.{parts, rest_above, rest_below, cut_small, cut_above, cut_below}
use Rattle.os_value.proofs.laws.quotients_and_rests.Goals as goal

pub returns : goal.returns
returns c = record { parts = parts; above = rest_above; below = rest_below; cut = cut_small; cut_above = cut_above; cut_below = cut_below }
