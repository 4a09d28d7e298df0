use Rattle.std.proofs.Common.{◌-◌, Some, sym, subst}
use Rattle.process_core.specs.declared.end.End.TheVariants as own
use Rattle.process_core.specs.declared.process.Phase.TheVariants as phase
use Rattle.process_core.specs.declared.turn.Turn.TheVariants as turn
use Rattle.process_core.specs.Left.{Steps, asked}
use Rattle.process_core.proofs.Turns.{ends_so, out_of_units, stores, one_less}
use Rattle.process_core.proofs.process.Proc.ask_store.Goals as goal

pub returns-then-self-eq0-clause-steps : goal.returns-then-self-eq0-clause-steps
returns-then-self-eq0-clause-steps c =
    ends_so own.Fuel c.close.result c.close.new.self c.args.self.now (asked c.args.op c.args.self.now) c.close.ensures (out_of_units c.args.op c.args.self.now c.if-self-eq0.true)

pub returns-clause-steps : goal.returns-clause-steps
returns-clause-steps c =
    let p = c.args.self.now in
    subst (λ l. Steps (Some (turn.Ask c.args.op)) (asked c.args.op p) (record p { units = p.units - 1; phase = phase.Stores l })) (sym c.level_move.ensures)
    (stores c.args.op p (p.units - 1) (one_less p.units c.if-self-eq0.false))
