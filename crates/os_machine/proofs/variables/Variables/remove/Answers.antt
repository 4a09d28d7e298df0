use Rattle.std.proofs.Common.{◌∙◌, ap}
use Rattle.os_meaning.specs.Frames.{value_in, without_var}
use Rattle.os_machine.specs.Variables.{vars_of}
use Rattle.os_machine.proofs.VariableLaws.{value_found, entry_removed}
use Rattle.os_machine.proofs.variables.Variables.remove.Goals as goal

pub returns-clause-value : goal.returns-clause-value
returns-clause-value c = c.shift_remove.ensures.value ∙ value_found c.args.name.now c.self.inside.values.entries ∙ ap (value_in c.args.name.now) c.self.view_is

pub returns-clause-rest : goal.returns-clause-rest
returns-clause-rest c =
    ap vars_of c.shift_remove.ensures.entries ∙ entry_removed c.args.name.now c.self.inside.values.entries ∙ ap (without_var c.args.name.now) c.self.view_is
