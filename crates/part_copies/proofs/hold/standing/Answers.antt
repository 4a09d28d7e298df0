use Rattle.part_copies.proofs.hold.standing.Goals as goal

pub returns : goal.returns
returns c = record { sound = c.live.ensures.sound; held = c.live.ensures.held }
