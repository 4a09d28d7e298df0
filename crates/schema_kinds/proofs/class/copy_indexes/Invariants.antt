use Rattle.std.proofs.Common.{◌≡◌, take}
use Rattle.schema_kinds.proofs.class.copy_indexes.Given as goal

-- the indexes so far are copied
abbrev pub invariant-loop-index : goal.invariant-loop-index
invariant-loop-index l = l.copy ≡ take l.index-index l.indexes
