use Rattle.std.proofs.Common.{◌++◌, ap, sym, ◌∙◌, option_to_list}
use Rattle.os_machine.specs.Variables.{last_object}
use Rattle.os_machine.proofs.VariableLaws.{data_dropped, object_dropped}
use Rattle.os_machine.proofs.variables.Variables.drop_object.Goals as goal

pub returns-in-Ref : goal.returns-in-Ref
returns-in-Ref c =
    ap last_object (sym c.self.view_is) ∙ sym c.variables.invariant
    ∙ object_dropped c.variables.self-inside.values.entries c.pop.new.self.entries c.in-Some.field-0-0 c.in-Some.value c.in-Ref.number c.in-Ref.class (c.pop.ensures.entries ∙ ap (λ r. c.pop.new.self.entries ++ option_to_list r) c.in-Some.is) c.in-Ref.is

pub variables-preserved : goal.variables-preserved
variables-preserved c =
    data_dropped c.variables.self-inside.values.entries c.pop.new.self.entries c.in-Some.field-0-0 c.in-Some.value c.in_default-value.field-0 (c.pop.ensures.entries ∙ ap (λ r. c.pop.new.self.entries ++ option_to_list r) c.in-Some.is) c.in_default-value.is
    ∙ c.variables.invariant
