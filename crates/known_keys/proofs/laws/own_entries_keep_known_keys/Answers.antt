use Rattle.known_keys.proofs.OneKept.{own_keeps_known}
use Rattle.known_keys.proofs.laws.own_entries_keep_known_keys.Goals as goal

pub returns : goal.returns
returns c = own_keeps_known
