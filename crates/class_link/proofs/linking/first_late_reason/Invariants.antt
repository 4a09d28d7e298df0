use Rattle.std.proofs.Common.{◌≡◌, ℕ, ◌<◌, None}
use Rattle.class_facts.specs.Facts.{seen}
use Rattle.class_link.specs.Refusal.{late_reason}
use Rattle.class_link.proofs.linking.first_late_reason.Given as goal

abbrev pub invariant-loop-class : goal.invariant-loop-class
invariant-loop-class l = (j : ℕ) → j < l.class → late_reason l.trees (seen l.hierarchy l.tables) j ≡ None
