use Rattle.std.proofs.Common.{sym, subst, IfSome}
use Rattle.turn_queue.specs.Parts.{IsRefused}
use Rattle.turn_queue.proofs.Seats.{refused_now}
use Rattle.turn_queue.proofs.turns.refuse.Goals as goal

pub enter-requires-clause-refused : goal.enter-requires-clause-refused
enter-requires-clause-refused g c =
    subst (λ r. IfSome r (IsRefused c.apply_end.new.self c.args.refused.pid)) (sym c.requires.op)
    (refused_now c.args.store c.apply_end.new.self c.args.refused.pid c.args.refused.asked.value c.apply_end.ensures.entry c.requires.volume)
