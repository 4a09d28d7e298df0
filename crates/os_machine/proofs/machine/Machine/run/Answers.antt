use Rattle.std.proofs.Common.{◌-◌, refl}
use Rattle.os_machine.specs.States.{behind, frame_at}
use Rattle.os_machine.specs.declared.machine.Phase.TheVariants as phase
use Rattle.os_machine.proofs.Steps.{owes, pays}
use Rattle.os_machine.proofs.Machines.{sees, counts, owes_again}
use Rattle.os_machine.proofs.machine.Machine.run.Goals as goal

pub returns-then-start-self-clause-sees : goal.returns-then-start-self-clause-sees
returns-then-start-self-clause-sees c =
    owes c.args.self.now.owed c.args.units.now (frame_at c.args.self.now.code.now c.args.self.now.local) c.if-start-self.true

pub returns-in-Ok-clause-sees : goal.returns-in-Ok-clause-sees
returns-in-Ok-clause-sees c =
    let old = c.args.self.now in
    let first = frame_at old.code.now old.local in
    sees c.args.units.now c.run.new.units (behind old.owed first) c.in-Ok.told (record old { local = c.run.new.self; owed = 0 }) c.tell.result c.tell.new.self c.tell.ensures refl
    (pays old.code.now old.owed c.args.units.now c.run.new.units first c.in-Ok.told c.run.new.self c.if-start-self.false c.in-Ok.ensures.ok)

pub returns-in-Ok-clause-orefs : goal.returns-in-Ok-clause-orefs
returns-in-Ok-clause-orefs c =
    let old = c.args.self.now in
    counts c.in-Ok.told old.local (record old { local = c.run.new.self; owed = 0 }) c.tell.result c.tell.new.self c.tell.ensures c.requires c.in-Ok.ensures.orefs

pub returns-in-Err-clause-same : goal.returns-in-Err-clause-same
returns-in-Err-clause-same c =
    let old = c.args.self.now in
    owes_again (record old { local = c.run.new.self; phase = phase.Runs; owed = c.args.units.now - c.run.new.units }) old.owed c.args.units.now c.run.new.units (frame_at old.code.now old.local) refl refl c.if-start-self.false c.in-Err.ensures.err
