use Rattle.std.proofs.Common.{◌≤◌, arith}
use Rattle.member_plan.proofs.NextLaws.{none_left, one_left}
use Rattle.member_plan.proofs.taking.refused.Goals as goal

pub returns-then-left-eq0-clause-left : goal.returns-then-left-eq0-clause-left
returns-then-left-eq0-clause-left c classes call rs = none_left classes call c.args.left c.args.cause rs c.if-left-eq0.true

pub returns-else-left-eq0-clause-left : goal.returns-else-left-eq0-clause-left
returns-else-left-eq0-clause-left c classes call rs = one_left classes call c.args.left c.args.cause rs some
  where
    some : 1 ≤ c.args.left
    some = let no = c.if-left-eq0.false in grind arith
