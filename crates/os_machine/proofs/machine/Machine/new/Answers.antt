use Rattle.std.proofs.Common.{[], ap, ◌∙◌}
use Rattle.os_machine.specs.Runs.{running}
use Rattle.os_machine.proofs.Steps.{starts}
use Rattle.os_machine.proofs.machine.Machine.new.Goals as goal

pub returns-clause-frame : goal.returns-clause-frame
unfolding running
returns-clause-frame c = λ n.
    starts c.args.code.now _ c.args.this c.args.vars
    (ap (λ s. record { place = 0; this = c.args.this; work = record { stack = s; numbers = c.new-2.result; vars = c.args.vars } }) c.new.ensures
    ∙ ap (λ s. record { place = 0; this = c.args.this; work = record { stack = []; numbers = s; vars = c.args.vars } }) c.new-2.ensures) n
