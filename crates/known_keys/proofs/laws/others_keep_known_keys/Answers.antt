use Rattle.known_keys.proofs.OneKept.{others_keep_known}
use Rattle.known_keys.proofs.laws.others_keep_known_keys.Goals as goal

pub returns : goal.returns
returns c = others_keep_known
