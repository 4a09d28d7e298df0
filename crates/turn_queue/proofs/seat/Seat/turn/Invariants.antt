use Rattle.std.specs.Prelude.{Some}
use Rattle.turn_queue.proofs.seat.Seat.turn.Given as goal

-- the operation that was refused
abbrev pub ghosts-refuse : goal.ghosts-refuse
ghosts-refuse g a = record { op = Some a.refused.asked.value }
