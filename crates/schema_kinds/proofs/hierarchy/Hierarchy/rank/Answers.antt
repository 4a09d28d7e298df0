use Rattle.std.proofs.Common.{ap, []}
use Rattle.schema_kinds.specs.Links.{marked}
use Rattle.schema_kinds.proofs.Hierarchies.{get_or-None}
use Rattle.schema_kinds.proofs.hierarchy.Hierarchy.rank.Goals as goal

pub returns-in-None : goal.returns-in-None
returns-in-None c = ap marked (get_or-None c.args.self.now.above c.args.place [] c.in-None.ensures.value)
