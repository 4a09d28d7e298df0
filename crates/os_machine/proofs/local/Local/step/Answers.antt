use Rattle.std.proofs.Common.{sym, refl}
use Rattle.std.proofs.lemmas.Option.{slice_get_within}
use Rattle.os_machine.proofs.Steps.{none_at, steps, falls}
use Rattle.os_machine.proofs.Accounts.{step_counts}
use Rattle.os_machine.proofs.local.Local.step.Goals as goal

pub returns-in-None-clause-ok : goal.returns-in-None-clause-ok
returns-in-None-clause-ok c = none_at c.args.code.now c.args.units.now c.args.self.now (sym c.in-None.ensures)

pub returns-in_ok-stepped-in-Some : goal.returns-in_ok-stepped-in-Some
returns-in_ok-stepped-in-Some c =
    let code = c.args.code.now in
    let old = c.args.self.now in
    let here = sym c.in-Some.ensures in
    let moved = c.in_ok-stepped-in-Some.ensures.ok in
    record {
      ok = steps code c.in-Some.instruction.now old c.after.new.self c.act.new.self c.in_ok-stepped-in-Some.stepped c.args.units.now c.after.new.units c.after.result here moved c.after.ensures;
      orefs = step_counts c.in-Some.instruction.now old c.after.new.self c.act.new.self c.in_ok-stepped-in-Some.stepped _ c.args.units.now c.after.new.units c.after.result moved c.after.ensures;
      falls = falls code c.args.units.now c.after.new.units old (record old { work = c.act.new.self }) c.after.new.self c.in_ok-stepped-in-Some.stepped c.after.result (slice_get_within code old.place c.in-Some.instruction.now here) refl c.after.ensures;
      err = tt;
    }
