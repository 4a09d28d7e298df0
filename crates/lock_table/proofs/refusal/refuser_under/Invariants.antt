use Rattle.lock_table.proofs.AgainstLaws.{IsLeft}
use Rattle.lock_table.proofs.refusal.refuser_under.Given as goal

-- no hold before what is left stops the lock
abbrev pub invariant-loop-place : goal.invariant-loop-place
invariant-loop-place l = IsLeft l.rows l.pid l.mode l.node l.place-iterator
