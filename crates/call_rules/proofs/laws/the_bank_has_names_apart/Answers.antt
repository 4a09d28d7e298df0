use Rattle.call_rules.proofs.Sampled.{bank_is_apart}
use Rattle.call_rules.proofs.laws.the_bank_has_names_apart.Goals as goal

pub returns : goal.returns
returns c = bank_is_apart
