use Rattle.std.proofs.Common.{[]}
use Rattle.schema_kinds.proofs.Hierarchies.{get_or-None}
use Rattle.class_facts.proofs.members.supers_at.Goals as goal

pub returns-in-None : goal.returns-in-None
returns-in-None c = get_or-None c.args.hierarchy.now.links c.args.class [] c.in-None.ensures.value
