use Rattle.std.proofs.Common.{◌∙◌, ap}
use Rattle.os_meaning.specs.Frames.{value_in}
use Rattle.os_machine.proofs.VariableLaws.{value_found}
use Rattle.os_machine.proofs.variables.Variables.value.Goals as goal

pub returns : goal.returns
returns c = c.get.ensures.value ∙ value_found c.args.name.now c.self.inside.values.entries ∙ ap (value_in c.args.name.now) c.self.view_is
