use Rattle.std.proofs.Common.{ap, ◌∙◌}
use Rattle.std.specs.List.{list_any}
use Rattle.obj_kinds.specs.Texts.{same_text}
use Rattle.schema_kinds.specs.Classes.{class_names, is_own_global}
use Rattle.schema_kinds.proofs.GlobalLaws.{own_globals}
use Rattle.schema_kinds.proofs.schema.Schema.is_own.Goals as goal

pub returns : goal.returns
returns c =
    c.contains.ensures ∙ ap (list_any (same_text c.args.global.now)) c.self.invariant.globals_of
    ∙ own_globals c.args.global.now (class_names c.self.inside.classes) c.self.inside.classes
    ∙ ap (λ classes. is_own_global classes c.args.global.now) c.self.view_is
