use Rattle.std.proofs.Common.{◌≡◌, drop}
use Rattle.os_meaning.specs.Frames.{subs_by}
use Rattle.os_machine.specs.Plains.{subs_after}
use Rattle.os_machine.proofs.nodes.subscripts.Given as goal

-- what is made and what is left are all
abbrev pub invariant-loop-others : goal.invariant-loop-others
invariant-loop-others l = subs_after l.subs (subs_by l.others (drop l.others l.values)) ≡ subs_by 0 l.values
