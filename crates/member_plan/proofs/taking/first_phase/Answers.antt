use Rattle.std.proofs.Common.{◌≡◌, ◌-◌, ◌≤◌, ◌<◌, true, false, refl, sym, ap, subst, ◌∙◌, arith}
use Rattle.std.specs.Prelude.{nat_lt}
use Rattle.std.proofs.lemmas.Bool.{lt-ltb}
use Rattle.member_plan.specs.declared.phase.MemberPhase.TheVariants as phase
use Rattle.member_plan.specs.Nexts.{IsBegun}
use Rattle.member_plan.proofs.NextLaws.{begun_locked, begun_free}
use Rattle.member_plan.proofs.taking.first_phase.Goals as goal

pub returns-then-level-gt0-clause-begun : goal.returns-then-level-gt0-clause-begun
returns-then-level-gt0-clause-begun c classes call level tries =
    subst (λ n. IsBegun classes call (phase.Locking (n - 1))) tries
    (begun_locked classes call (subst (λ n. 1 ≤ n) (sym tries) c.requires) (ap (nat_lt 0) level ∙ lt-ltb 0 c.args.level c.if-level-gt0.true))

pub returns-else-level-gt0-clause-begun : goal.returns-else-level-gt0-clause-begun
returns-else-level-gt0-clause-begun c classes call level tries =
    begun_free classes call (ap (nat_lt 0) (level ∙ none))
  where
    none : c.args.level ≡ 0
    none = let no = c.if-level-gt0.false in omega arith
