use Rattle.std.proofs.Common.{◌≡◌, sym, subst, true, IfSome}
use Rattle.obj_kinds.specs.declared.op.Pid.{Pid}
use Rattle.turn_queue.specs.Parts.{has, IsRefused}
use Rattle.crossbeam_queue.specs.Passes.{view}
use Rattle.turn_queue.proofs.Rules.{enters, empties, entered_once}
use Rattle.turn_queue.proofs.turns.enter.Goals as goal

pub push_as-requires-clause-rule : goal.push_as-requires-clause-rule
push_as-requires-clause-rule g c =
    let e = c.requires.entry.0 in
    let by : e.pid ≡ c.args.turn.pid = c.requires.entry.1 in (
      enters _ _ _ _ _ e _ c.requires.taken c.requires.entry.2
          (subst (λ (p : Pid). has p.0 (view c.args.turns.now).parts ≡ true) (sym by) c.requires.own)
          (subst (λ p. IfSome g.N.Refusal.op (IsRefused c.args.store p)) (sym by) c.requires.refused),
      empties _ _ _ c.requires.taken,
    )

pub returns-clause-entered : goal.returns-clause-entered
returns-clause-entered g c e is = entered_once _ _ c.args.turn.before.value c.args.store e g.N.Refusal.op c.requires.taken is c.in-Ok.ensures.rule
