use Rattle.std.proofs.Common.{length, ◌≡◌, is_some}
use Rattle.oref_table.specs.Filling.{is_member}
use Rattle.oref_table.specs.Memory.{first_that}
use Rattle.oref_cases.proofs.contents.has_member.Given as goal

abbrev pub invariant-loop-first : goal.invariant-loop-first
invariant-loop-first l = is_some (first_that (is_member l.fn.member.0) l.rest) ≡ is_some (first_that (is_member l.fn.member.0) l.fn.members)

abbrev pub decreases-loop-first : goal.decreases-loop-first
decreases-loop-first l = length l.rest
