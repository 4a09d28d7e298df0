-- A frame stays steady from event to event.
use Rattle.std.proofs.Common.{◌≡◌, ℕ, zero, suc, ◌+◌, ◌≤◌, List, Option, refl, sym, ap, ◌∙◌, arith}
use Rattle.os_kinds.specs.declared.val.Val.{Val}
use Rattle.os_kinds.specs.declared.call.Call.{Call}
use Rattle.os_kinds.specs.declared.call.Answer.{Answer}
use Rattle.os_kinds.specs.declared.call.Event.TheVariants as event
use Rattle.os_kinds.specs.declared.call.ScriptEnd.TheVariants as end
use Rattle.os_meaning.specs.Syntax.{Block}
use Rattle.os_meaning.specs.Frames.{Frame, Ends, Prints, Holds, Loses, Points, Spends, Asks, Vars, misfit, within}
use Rattle.os_meaning.specs.Meaning.{frame}
use Rattle.os_code.specs.Machine.{flat}
use Rattle.os_code.specs.Coding.{script_code}
use Rattle.os_code.proofs.Simulation.{agrees}
use Rattle.os_machine.specs.States.{Left, behind, Quiets}
use Rattle.os_machine.specs.Runs.{running, awaited, Sees}
use Rattle.os_machine.specs.declared.machine.Machine.{Machine}
use Rattle.frame_stack.specs.Stacks.{IsSteady}

-- what follows one step of a frame
abbrev rest_of : Frame → Frame
rest_of (Prints t f) = f
rest_of (Holds o f) = f
rest_of (Loses o f) = f
rest_of (Points f) = f
rest_of (Spends f) = f
rest_of f = f

abbrev asked_of : Answer → Frame → Frame
asked_of a (Asks c f) = f a
asked_of a f = f

-- cut twice, where the first cut is no shorter
within_twice : (f : Frame) (n most : ℕ) → n ≤ most → within (within f most) n ≡ within f n
within_twice (Ends e) n most le = refl
within_twice (Prints t f) n most le = ap (Prints t) (within_twice f n most le)
within_twice (Holds o f) n most le = ap (Holds o) (within_twice f n most le)
within_twice (Loses o f) n most le = ap (Loses o) (within_twice f n most le)
within_twice (Points f) n most le = ap Points (within_twice f n most le)
within_twice (Spends f) zero zero le = refl
within_twice (Spends f) zero (suc most) le = refl
within_twice (Spends f) (suc n) zero le = absurd (omega (arith, le))
within_twice (Spends f) (suc n) (suc most) le = ap Spends (within_twice f n most (omega (arith, le)))
within_twice (Asks c f) n most le = λ i. Asks c (λ a. within_twice (f a) n most le i)

-- the code of a script is steady
pub flat_steady : (script : Block) (this : Option Val) (vars : Vars) → IsSteady (λ n. flat this n (script_code script) vars)
flat_steady script this vars n most le =
    agrees script this vars n most le
    ∙ sym (within_twice (frame this most script vars) n most le)
    ∙ ap (λ f. within f n) (sym (agrees script this vars most most (omega arith)))

pub same_steady : (f g : Left) → ((n : ℕ) → f n ≡ g n) → IsSteady g → IsSteady f
same_steady f g is steady n most le = is n ∙ steady n most le ∙ ap (λ x. within x n) (sym (is most))

-- what stands behind units that were taken
behind_steady : (taken : ℕ) (x : Left) (n most p q : ℕ) → p ≡ n + taken → q ≡ most + taken → behind taken x p ≡ within (behind taken x q) p → x n ≡ within (x most) n
behind_steady zero x n most p q e g h =
    let ep : p ≡ n = omega (arith, e) in
    let eq : q ≡ most = omega (arith, g) in
    sym (ap x ep) ∙ h ∙ (λ i. within (x (eq i)) (ep i))
behind_steady (suc taken) x n most zero q e g h = absurd (omega (arith, e))
behind_steady (suc taken) x n most (suc p) zero e g h = absurd (omega (arith, g))
behind_steady (suc taken) x n most (suc p) (suc q) e g h = behind_steady taken x n most p q (omega (arith, e)) (omega (arith, g)) (ap rest_of h)

quiet_steady : (old x : Left) (before after : ℕ) → IsSteady old → Quiets before after old x → IsSteady x
quiet_steady old x before after steady q n most le =
    behind_steady q.0 x n most (n + q.0) (most + q.0) refl refl (sym (q.2 (n + q.0)) ∙ steady (n + q.0) (most + q.0) (omega (arith, le)) ∙ ap (λ f. within f (n + q.0)) (q.2 (most + q.0)))

module _ (old : Left) (steady : IsSteady old) (before after : ℕ) (m : Machine) where
  pub print_steady : (t : List ℕ) → Sees (event.Print t) before after old m → IsSteady (running m)
  print_steady t s n most le = ap rest_of (quiet_steady old (λ n. Prints t (running m n)) before after steady s n most le)

  pub more_steady : (o : ℕ) → Sees (event.More o) before after old m → IsSteady (running m)
  more_steady o s n most le = ap rest_of (quiet_steady old (λ n. Holds o (running m n)) before after steady s n most le)

  pub less_steady : (o : ℕ) → Sees (event.Less o) before after old m → IsSteady (running m)
  less_steady o s n most le = ap rest_of (quiet_steady old (λ n. Loses o (running m n)) before after steady s n most le)

  pub point_steady : Sees event.Point before after old m → IsSteady (running m)
  point_steady s n most le = ap rest_of (quiet_steady old (λ n. Points (running m n)) before after steady s n most le)

  pub need_steady : (c : Call) → Sees (event.Need c) before after old m → (a : Answer) → IsSteady (awaited m a)
  need_steady c s a n most le = ap (asked_of a) (quiet_steady old (λ n. Asks c (λ a. awaited m a n)) before after steady s n most le)
