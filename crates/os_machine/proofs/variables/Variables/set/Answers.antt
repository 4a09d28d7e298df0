use Rattle.std.proofs.Common.{◌∙◌, ap, sym, Some}
use Rattle.std.specs.Option.{option_copied_mut}
use Rattle.os_meaning.specs.Frames.{value_in, with_var}
use Rattle.os_machine.specs.Variables.{vars_of}
use Rattle.os_machine.proofs.VariableLaws.{value_found, value_set}
use Rattle.os_machine.proofs.variables.Variables.set.Goals as goal

pub returns-in-Some-clause-ok : goal.returns-in-Some-clause-ok
returns-in-Some-clause-ok c =
    let found = sym c.get_mut.ensures.value ∙ ap option_copied_mut c.in-Some.is in (
      ap Some c.replace.ensures.old ∙ sym found ∙ value_found c.args.name.now c.self.inside.values.entries ∙ ap (value_in c.args.name.now) c.self.view_is,
      ap vars_of (c.get_mut.follows.holds c.replace.new.slot).0 ∙ value_set c.args.name.now _ c.in-Some.slot.now c.self.inside.values.entries found
          ∙ ap (λ v. with_var c.args.name.now v (vars_of c.self.inside.values.entries)) c.replace.ensures.value ∙ ap (with_var c.args.name.now c.args.value) c.self.view_is,
    )
