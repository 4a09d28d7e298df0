use Rattle.std.proofs.Common.{◌≡◌, ◌++◌, length}
use Rattle.os_expressions.specs.Literals.{content_from, content}
use Rattle.os_expressions.proofs.words.content.Given as goal

abbrev pub invariant-bytes : goal.invariant-bytes
invariant-bytes l = l.said ++ content_from l.second l.z ≡ content l.text

abbrev pub decreases-bytes : goal.decreases-bytes
decreases-bytes l = length l.z
