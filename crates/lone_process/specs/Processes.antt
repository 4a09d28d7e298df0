-- What is still to be played of a process.
use Rattle.std.specs.Prelude.{◌≡◌, ℕ, List}
use Rattle.os_kinds.specs.declared.call.ScriptEnd.{ScriptEnd}
use Rattle.os_machine.specs.Runs.{running}
use Rattle.store_core.specs.Ledger.{Ledger}
use Rattle.lone_process.specs.Plays.{Played, plays}
use Rattle.lone_process.specs.declared.process.Process.{Process}

-- all that is left of it, behind what was printed
abbrev pub played_of : Process → Ledger → List ℕ → Played
played_of p l out = plays (running p.machine p.left) p.kept l out

-- from one moment to the next
abbrev pub IsPlayedTo : Process → Ledger → List ℕ → Process → Ledger → List ℕ → Type 0
IsPlayedTo p l out q m more = played_of p l out ≡ played_of q m more

-- up to its end
abbrev pub IsPlayed : Process → Ledger → List ℕ → ScriptEnd → Ledger → List ℕ → Type 0
IsPlayed p l out end m more = played_of p l out ≡ (end, (more, m))
