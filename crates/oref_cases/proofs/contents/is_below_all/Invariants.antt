use Rattle.std.proofs.Common.{length, ◌≡◌}
use Rattle.std.specs.FinMap.{is_sorted}
use Rattle.std.specs.FinMap.Entries.{below_all}
use Rattle.obj_kinds.specs.SubOrder.{sub_cmp}
use Rattle.oref_cases.proofs.contents.is_below_all.Given as goal

abbrev pub invariant-loop-first : goal.invariant-loop-first
invariant-loop-first l = below_all sub_cmp l.fn.key l.rest ≡ below_all sub_cmp l.fn.key l.fn.pairs

abbrev pub decreases-loop-first : goal.decreases-loop-first
decreases-loop-first l = length l.rest
