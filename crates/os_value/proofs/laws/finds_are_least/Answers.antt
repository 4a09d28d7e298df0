use Rattle.os_value.proofs.LeastLaws.{stands_at, least_at, none_at}
use Rattle.os_value.proofs.laws.finds_are_least.Goals as goal

pub returns : goal.returns
returns c = record { stands = stands_at; least = least_at; none = none_at }
