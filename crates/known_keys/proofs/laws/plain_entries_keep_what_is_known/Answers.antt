use Rattle.known_keys.proofs.Steps.{plain_keeps_knowledge}
use Rattle.known_keys.proofs.laws.plain_entries_keep_what_is_known.Goals as goal

pub returns : goal.returns
returns c = plain_keeps_knowledge
