use Rattle.std.proofs.Common.{◌≡◌, sym, ap, ◌∙◌, Option}
use Rattle.std.specs.Option.{option_copied}
use Rattle.storage_map.specs.Changes.{same_there}
use Rattle.storage_map.proofs.ChangeLaws.{same_from}
use Rattle.storage_map.proofs.edits.is_there.Goals as goal

pub returns-in-Some : goal.returns-in-Some
returns-in-Some c = same_from c.is_same.result c.in-Some.old.now c.args.value.now c.is_same.ensures ∙ ap (λ o. same_there (option_copied o) c.args.value.now) (sym c.in-Some.is)
