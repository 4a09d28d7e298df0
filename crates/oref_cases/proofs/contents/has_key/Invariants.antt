use Rattle.std.proofs.Common.{length, ◌≡◌, is_some}
use Rattle.std.specs.FinMap.{find}
use Rattle.obj_kinds.specs.SubOrder.{sub_cmp}
use Rattle.oref_cases.proofs.contents.has_key.Given as goal

abbrev pub invariant-loop-first : goal.invariant-loop-first
invariant-loop-first l = is_some (find sub_cmp l.fn.key l.rest) ≡ is_some (find sub_cmp l.fn.key l.fn.pairs)

abbrev pub decreases-loop-first : goal.decreases-loop-first
decreases-loop-first l = length l.rest
