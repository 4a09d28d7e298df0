use Rattle.known_keys.proofs.Steps.{others_keep_knowledge}
use Rattle.known_keys.proofs.laws.others_keep_what_is_known.Goals as goal

pub returns : goal.returns
returns c = others_keep_knowledge
