use Rattle.std.proofs.Common.{◌≡◌, IfOk, ◌∙◌, ap, sym, subst}
use Rattle.std.specs.Map.{lookup}
use Rattle.std.specs.Str.{bytes_eq}
use Rattle.indexmap.specs.IndexMap.{insert_entry}
use Rattle.os_meaning.specs.Frames.{value_in, with_var}
use Rattle.os_machine.specs.Variables.{vars_of}
use Rattle.os_machine.proofs.VariableLaws.{value_found, entry_inserted}
use Rattle.os_machine.proofs.variables.Variables.add.Goals as goal
use Rattle.os_machine.proofs.variables.Variables.add.Goals.{in-Ok-insert, in-Err-insert}

pub returns-after-insert-clause-ok : goal.returns-after-insert-clause-ok
returns-after-insert-clause-ok c =
    let entries = c.self.inside.values.entries in
    let before = value_found c.args.name.now entries ∙ ap (value_in c.args.name.now) c.self.view_is in
    let after = entry_inserted c.args.name.now c.args.value entries ∙ ap (with_var c.args.name.now c.args.value) c.self.view_is in
    elim c.match-insert.branch [
      | in-Ok-insert w ↦
          subst (λ r. IfOk r (λ old. old ≡ value_in c.args.name.now c.args.self.now × vars_of c.insert.new.self.entries ≡ with_var c.args.name.now c.args.value c.args.self.now)) (sym w.result-is) (
            w.in-Ok-insert.ensures.old ∙ ap (λ k. lookup (bytes_eq k) entries) c.in-Ok.ensures ∙ before,
            ap vars_of w.in-Ok-insert.ensures.entries ∙ ap (λ k. vars_of (insert_entry bytes_eq entries k c.args.value)) c.in-Ok.ensures ∙ after,
          )
      | in-Err-insert w ↦
          subst (λ r. IfOk r (λ old. old ≡ value_in c.args.name.now c.args.self.now × vars_of c.insert.new.self.entries ≡ with_var c.args.name.now c.args.value c.args.self.now)) (sym w.result-is) tt
    ]
