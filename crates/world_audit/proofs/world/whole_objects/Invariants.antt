use Rattle.std.proofs.Common.{◌≡◌, ◌++◌}
use Rattle.world_audit.specs.Finds.{wholes}
use Rattle.world_audit.proofs.world.whole_objects.Given as goal

-- the objects so far, and those that are left
abbrev pub invariant-loop-key : goal.invariant-loop-key
invariant-loop-key l = l.objects ++ wholes l.key-iterator ≡ wholes l.fn.finds.entries
