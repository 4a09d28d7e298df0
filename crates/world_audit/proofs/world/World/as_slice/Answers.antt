use Rattle.std.proofs.Common.{◌∙◌, sym, ap}
use Rattle.std.specs.FinMap.{entries as listed}
use Rattle.obj_kinds.proofs.Sorted.{entries_sorted_list}
use Rattle.schema_kinds.specs.KeyLaws.{key_total}
use Rattle.schema_kinds.specs.Worlds.{key_cmp}
use Rattle.world_audit.proofs.world.World.as_slice.Goals as goal

pub returns : goal.returns
returns c = c.as_slice.ensures ∙ sym (entries_sorted_list key_cmp key_total c.self.inside.objects c.self.invariant) ∙ ap listed c.self.view_is
