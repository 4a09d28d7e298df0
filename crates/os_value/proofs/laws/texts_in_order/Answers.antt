use Rattle.os_value.proofs.FollowLaws.{not_behind_itself, behind_both, one_behind_other}
use Rattle.os_value.proofs.laws.texts_in_order.Goals as goal

pub returns : goal.returns
returns c = record { not_itself = not_behind_itself; behind_both = behind_both; one_of_two = one_behind_other }
