use Rattle.std.proofs.Common.{◌-◌}
use Rattle.process_core.specs.declared.end.End.TheVariants as own
use Rattle.process_core.specs.Left.{next_try}
use Rattle.process_core.proofs.Turns.{lacks, ends_so, no_try, locks_now, one_less}
use Rattle.process_core.proofs.process.Proc.ask_lock.Goals as goal

pub returns-then-self-eq0-clause-steps : goal.returns-then-self-eq0-clause-steps
returns-then-self-eq0-clause-steps c =
    let p = c.args.self.now in
    ends_so own.Fuel c.close.result c.close.new.self p (next_try p.fuel c.args.node c.args.mode c.args.times p.stack p.units p.kept) c.close.ensures
    (no_try p.fuel c.args.node c.args.mode p.stack p.kept c.args.times p.units c.if-self-eq0.true)

pub returns-in-Ok-clause-steps : goal.returns-in-Ok-clause-steps
returns-in-Ok-clause-steps c =
    let p = c.args.self.now in
    locks_now p c.args.node c.in-Ok.copy c.args.mode c.args.times (p.units - 1) (one_less p.units c.if-self-eq0.false) c.in-Ok.ensures

pub returns-in-Err-clause-steps : goal.returns-in-Err-clause-steps
returns-in-Err-clause-steps c = lacks c.close-in-Err.result c.close-in-Err.new.self c.args.self.now _ c.close-in-Err.ensures
