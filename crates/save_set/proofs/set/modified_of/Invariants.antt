use Rattle.std.proofs.Common.{◌≡◌, ◌++◌, map, filter}
use Rattle.object_calls.specs.Memories.{is_modified}
use Rattle.object_members.specs.Seeing.{memories}
use Rattle.save_set.proofs.set.modified_of.Given as goal

-- those so far, and those of what is left
abbrev pub invariant-loop-number : goal.invariant-loop-number
invariant-loop-number l =
    map (λ o. o.0) l.orefs ++ filter (is_modified (memories l.of.schema.now) l.of.table.now) l.number-iterator ≡ filter (is_modified (memories l.of.schema.now) l.of.table.now) l.found.keys
