use Rattle.std.proofs.Common.{◌≡◌, take}
use Rattle.schema_kinds.proofs.method.copy_args.Given as goal

-- the args so far are copied
abbrev pub invariant-loop-arg : goal.invariant-loop-arg
invariant-loop-arg l = l.copy ≡ take l.arg-index l.args
