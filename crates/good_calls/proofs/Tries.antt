-- A lock that was refused each time that it was asked for.
use Rattle.std.proofs.Common.{◌≡◌, ◌≤◌, ℕ, zero, suc, List, [], ◌∷◌, take, length, Option, Some, None, ◌⊎◌, inl, inr, refl, sym, ap, subst, arith}
use Rattle.obj_kinds.specs.declared.node.Node.{Node}
use Rattle.obj_kinds.specs.declared.cause.Cause.{Cause}
use Rattle.obj_kinds.specs.declared.cause.Cause.TheVariants.{Busy}
use Rattle.obj_kinds.specs.declared.op.Pid.{Pid}
use Rattle.obj_kinds.specs.declared.op.Op.{Op}
use Rattle.obj_kinds.specs.declared.op.Op.TheVariants.{Lock}
use Rattle.obj_kinds.specs.declared.op.Mode.{Mode}
use Rattle.obj_kinds.specs.declared.op.Owner.{Owner}
use Rattle.obj_kinds.specs.declared.op.Keep.{Keep}
use Rattle.obj_kinds.specs.declared.op.Reply.TheVariants.{Granted, Held}
use Rattle.lock_table.specs.declared.hold.Hold.{Hold}
use Rattle.lock_table.specs.Conflict.{told, refusing}
use Rattle.lock_table.specs.Holds.{hold}
use Rattle.schema_kinds.specs.declared.class.Class.{Class}
use Rattle.store_core.specs.Machine.{State, reply, answer}
use Rattle.store_calls.specs.Calls.{About}
use Rattle.object_runs.specs.ObjectMachine.{Own}
use Rattle.object_runs.specs.Causes.{Each, IsRefused, HasTrueCause}

-- a lock is granted, or a hold of a process is told
pub lock_reply : (s : State) (p : Pid) (n : Node) (m : Mode) (o : Owner) (k : Keep) → (reply s p (Lock n m o k) ≡ Granted) ⊎ ((q : Pid) × (at : Node) × (d : Mode) × (reply s p (Lock n m o k) ≡ Held q at d))
unfolding reply answer
lock_reply s p n m o k = by (refusing s.holds (hold p n m o))
  where
    by : (x : Option Hold) → (told x ≡ Granted) ⊎ ((q : Pid) × (at : Node) × (d : Mode) × (told x ≡ Held q at d))
    by None = inl refl
    by (Some h) = inr (h.pid, h.node, h.mode, refl)

-- the lock was asked for and refused so many times, and nothing else was asked since
abbrev pub AreRefused : Op → ℕ → List Own → Type 0
AreRefused op zero os = Unit {0}
AreRefused op (suc k) [] = ⊥
AreRefused op (suc k) (o ∷ os) = IsRefused op o × AreRefused op k os

-- the cause is that of the last refusal, where there was one
abbrev pub IsLast : ℕ → Cause → List Own → Type 0
IsLast zero last os = Unit {0}
IsLast (suc k) last [] = ⊥
IsLast (suc k) last (o ∷ os) = (q : Pid) × (at : Node) × (d : Mode) × (last ≡ Busy q at) × (o.reply ≡ Held q at d)

first_refused : (op : Op) (k : ℕ) (os : List Own) → AreRefused op k os → (length (take k os) ≡ k) × Each (IsRefused op) (take k os)
first_refused op zero os h = (refl, tt)
first_refused op (suc k) [] h = absurd h
first_refused op (suc k) (o ∷ os) h = let more = first_refused op k os h.1 in (ap suc more.0, (h.0, more.1))

-- then the cause is true
pub busy_true : (classes : List Class) (tries : ℕ) (about : About) (n : Node) (m : Mode) (w : Owner) (keep : Keep) (last : Cause) (os : List Own)
    → 1 ≤ tries → AreRefused (Lock n m w keep) tries os → IsLast tries last os → HasTrueCause classes tries os about 0 last
busy_true classes zero about n m w keep last os some h l = absurd (omega (arith, some))
busy_true classes (suc k) about n m w keep last [] some h l = absurd h
busy_true classes (suc k) about n m w keep last (o ∷ os) some h l =
    let all = first_refused (Lock n m w keep) (suc k) (o ∷ os) h in
    subst (λ x. HasTrueCause classes (suc k) (o ∷ os) about 0 x) (sym l.3) (
      o,
      refl,
      record {
        lock = (n, m, w, keep, h.0.0);
        last = (l.2, l.4);
        many = all.0;
        all = subst (λ op. Each (IsRefused op) (take (suc k) (o ∷ os))) (sym h.0.0) all.1;
      },
    )
