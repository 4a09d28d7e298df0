use Rattle.std.proofs.Common.{ap, []}
use Rattle.schema_kinds.specs.Links.{mark_at}
use Rattle.schema_kinds.proofs.Hierarchies.{get_or-None}
use Rattle.schema_kinds.proofs.hierarchy.Hierarchy.is_at_or_below.Goals as goal

pub returns-in-None : goal.returns-in-None
returns-in-None c = ap (λ marks. mark_at marks c.args.above) (get_or-None c.args.self.now.above c.args.below [] c.in-None.ensures.value)
