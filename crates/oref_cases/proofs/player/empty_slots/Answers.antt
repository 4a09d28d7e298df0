use Rattle.oref_cases.proofs.ParkedLaws.{no-refs-more}
use Rattle.oref_cases.proofs.player.empty_slots.Goals as goal

pub loop-letter-preserved : goal.loop-letter-preserved
loop-letter-preserved c = no-refs-more c.loop-letter.slots c.push.new.self c.in_ok-empty_slot.field-0 c.loop-letter.invariant c.in_ok-empty_slot.ensures c.in_ok-push.ensures.ok
