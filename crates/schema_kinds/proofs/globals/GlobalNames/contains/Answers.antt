use Rattle.std.proofs.Common.{ap, ◌∙◌}
use Rattle.std.specs.List.{list_any}
use Rattle.obj_kinds.specs.Texts.{same_text}
use Rattle.schema_kinds.proofs.GlobalLaws.{any_map}
use Rattle.schema_kinds.proofs.globals.GlobalNames.contains.Goals as goal

pub returns : goal.returns
returns c =
    c.contains.ensures ∙ any_map c.self.inside.names.keys (λ v. v.items) (same_text c.args.name.now)
    ∙ ap (list_any (same_text c.args.name.now)) c.self.view_is
