use Rattle.std.proofs.Common.{◌≡◌, take}
use Rattle.lock_table.specs.Against.{NoneBefore}
use Rattle.lock_table.proofs.refusal.refuser.Given as goal

-- the way is the next ancestor, and no hold before it stops the lock
abbrev pub invariant-loop-sub : goal.invariant-loop-sub
invariant-loop-sub l = (l.way.global ≡ l.node.global) × (l.way.subs ≡ take l.sub-index l.node.subs) × NoneBefore l.sub-index l.rows l.pid l.mode l.node
