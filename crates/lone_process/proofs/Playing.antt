-- A machine over a store plays its frame.
use Rattle.std.proofs.Common.{◌≡◌, ℕ, zero, suc, ◌+◌, List, [], ◌++◌, None, refl, sym, ap, ◌∙◌, arith}
use Rattle.os_kinds.specs.declared.call.Call.{Call}
use Rattle.os_kinds.specs.declared.call.Answer.{Answer}
use Rattle.os_kinds.specs.declared.call.Event.TheVariants as event
use Rattle.os_kinds.specs.declared.call.ScriptEnd.{ScriptEnd}
use Rattle.os_kinds.specs.declared.call.ScriptEnd.TheVariants as end
use Rattle.os_kinds.specs.declared.command.Command.{Command}
use Rattle.os_meaning.specs.Tree.{script_of}
use Rattle.os_meaning.specs.Frames.{Ends, Prints, Holds, Loses, Points, Asks}
use Rattle.os_meaning.specs.Meaning.{meaning}
use Rattle.os_code.specs.declared.instruction.Instruction.{Instruction}
use Rattle.os_code.specs.Machine.{flat}
use Rattle.os_code.specs.Coding.{script_code}
use Rattle.os_code.proofs.Simulation.{agrees}
use Rattle.os_machine.specs.States.{Left, behind, Quiets}
use Rattle.os_machine.specs.Runs.{running, awaited, Sees}
use Rattle.os_machine.specs.declared.machine.Machine.{Machine}
use Rattle.store_core.specs.Ledger.{Ledger}
use Rattle.lone_process.specs.Plays.{plays, answered}
use Rattle.lone_process.specs.declared.process.Kept.{Kept}

module _ (k : Kept) (l : Ledger) (out : List ℕ) where
  -- units that are there are taken
  paid : (taken : ℕ) (x : Left) (a b : ℕ) → a + taken ≡ b → plays (behind taken x b) k l out ≡ plays (x a) k l out
  paid zero x a b e = let same : b ≡ a = omega (arith, e) in ap (λ n. plays (x n) k l out) same
  paid (suc taken) x a zero e = absurd (omega (arith, e))
  paid (suc taken) x a (suc b) e = paid taken x a b (omega (arith, e))

  quiet : (f x : Left) (b a : ℕ) → Quiets b a f x → plays (f b) k l out ≡ plays (x a) k l out
  quiet f x b a q = ap (λ g. plays g k l out) (q.2 b) ∙ paid q.0 x a b q.1

  -- units that aren't there
  dry : (b n : ℕ) (f : Left) → plays (behind (suc n) f b) k l out ≡ (end.Fuel, (out, l)) → plays (behind (suc (suc n)) f (suc b)) k l out ≡ (end.Fuel, (out, l))
  dry b n f h = h

  used : (b : ℕ) (f : Left) → plays (behind (suc b) f b) k l out ≡ (end.Fuel, (out, l))
  used zero f = refl
  used (suc b) f = used b f

  module _ (b a : ℕ) (f : Left) (m : Machine) where
    pub printed : (t : List ℕ) → Sees (event.Print t) b a f m → plays (f b) k l out ≡ plays (running m a) k l (out ++ t)
    printed t s = quiet f (λ n. Prints t (running m n)) b a s

    pub held : (o : ℕ) → Sees (event.More o) b a f m → plays (f b) k l out ≡ plays (running m a) k l out
    held o s = quiet f (λ n. Holds o (running m n)) b a s

    pub lost : (o : ℕ) → Sees (event.Less o) b a f m → plays (f b) k l out ≡ plays (running m a) k l out
    lost o s = quiet f (λ n. Loses o (running m n)) b a s

    pub pointed : Sees event.Point b a f m → plays (f b) k l out ≡ plays (running m a) k l out
    pointed s = quiet f (λ n. Points (running m n)) b a s

    pub asked : (c : Call) → Sees (event.Need c) b a f m → plays (f b) k l out ≡ plays (awaited m (answered c k l).0 a) (answered c k l).1.0 (answered c k l).1.1 out
    asked c s = quiet f (λ n. Asks c (λ x. awaited m x n)) b a s

    pub ended : (e : ScriptEnd) → Sees (event.Finished e) b a f m → plays (f b) k l out ≡ (e, (out, l))
    ended (end.Done v) s = quiet f (λ n. Ends (end.Done v)) b a s
    ended end.Halt s = quiet f (λ n. Ends end.Halt) b a s
    ended (end.Error name line) s = quiet f (λ n. Ends (end.Error name line)) b a s
    ended end.Fuel s = ap (λ g. plays g k l out) (s.2 b) ∙ used b s.1

-- an answer that is the one meant
pub given : (c : Call) (k k' : Kept) (l l' : Ledger) (x : Answer) (m m' : Machine) (a : ℕ) (out : List ℕ) → (x, (k', l')) ≡ answered c k l → ((n : ℕ) → running m' n ≡ awaited m x n)
    → plays (awaited m (answered c k l).0 a) (answered c k l).1.0 (answered c k l).1.1 out ≡ plays (running m' a) k' l' out
given c k k' l l' x m m' a out is goes = ap (λ p. plays (awaited m p.0 a) p.1.0 p.1.1 out) (sym is) ∙ ap (λ g. plays g k' l' out) (sym (goes a))

-- the code of a script plays what the script means
pub means : (script : List Command) (code : List Instruction) (units : ℕ) → code ≡ script_code (script_of script) → flat None units code [] ≡ meaning None units script []
unfolding meaning
means script code units is = ap (λ c. flat None units c []) is ∙ agrees (script_of script) None [] units units (omega arith)
