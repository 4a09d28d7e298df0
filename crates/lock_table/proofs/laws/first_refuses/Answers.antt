use Rattle.lock_table.proofs.FirstLaws.{first_is, is_first, none_is, is_none}
use Rattle.lock_table.proofs.laws.first_refuses.Goals as goal

pub returns : goal.returns
returns c = record { first = λ hs h x. (first_is hs h x, is_first hs h x); none = λ hs h. (none_is hs h, is_none hs h) }
