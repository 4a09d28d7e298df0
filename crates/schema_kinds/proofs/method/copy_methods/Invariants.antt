use Rattle.std.proofs.Common.{◌≡◌, take}
use Rattle.schema_kinds.proofs.method.copy_methods.Given as goal

-- the methods so far are copied
abbrev pub invariant-loop-method : goal.invariant-loop-method
invariant-loop-method l = l.copy ≡ take l.method-index l.methods
