use Rattle.std.proofs.Common.{map, ap, ◌∙◌}
use Rattle.schema_kinds.specs.OwnGlobals.{put_name}
use Rattle.schema_kinds.proofs.GlobalLaws.{put_seen}
use Rattle.schema_kinds.proofs.globals.GlobalNames.insert.Goals as goal

pub returns : goal.returns
returns c =
    ap (map (λ v. v.items)) c.in_ok-insert_full.ensures.keys ∙ put_seen c.self.inside.names.keys c.args.name (λ v. v.items)
    ∙ ap (λ names. put_name names c.args.name.items) c.self.view_is
