use Rattle.os_value.proofs.PieceLaws.{all_joined}
use Rattle.os_value.proofs.laws.pieces_of_texts.Goals as goal

pub returns : goal.returns
returns c = all_joined
