use Rattle.store_core.proofs.FrameLaws.{others_stay, stays_free}
use Rattle.store_core.proofs.laws.turns_leave_others_alone.Goals as goal

pub returns : goal.returns
returns c = record { levels = others_stay; free = stays_free }
