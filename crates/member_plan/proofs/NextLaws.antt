-- Looks for members, phase by phase.
use Rattle.std.proofs.Common.{◌≡◌, ℕ, zero, suc, ◌-◌, ◌≤◌, Bool, true, false, List, [], ◌∷◌, Option, None, Some, Ok, Err, refl, ap, ◌∙◌, arith}
use Rattle.std.specs.Prelude.{nat_lt}
use Rattle.obj_kinds.specs.declared.op.Op.{Op}
use Rattle.obj_kinds.specs.declared.op.Mode.TheVariants.{Shared}
use Rattle.obj_kinds.specs.declared.op.Reply.{Reply}
use Rattle.obj_kinds.specs.declared.cause.Cause.{Cause}
use Rattle.obj_kinds.specs.Limits.{is_legal_reply}
use Rattle.schema_kinds.specs.declared.class.Class.{Class}
use Rattle.store_calls.specs.Calls.{Call, Give, bind, Plain, Tried, Got, Lost, try, try_from, run}
use Rattle.object_calls.specs.Asking.{lock_counted}
use Rattle.object_calls.specs.Extents.{extent_at}
use Rattle.object_calls.specs.Members.{next_ends, on_next_member, next_locked, next_member}
use Rattle.read_plan.specs.Reads.{tried_of}
use Rattle.member_plan.specs.declared.call.MemberCall.{MemberCall}
use Rattle.member_plan.specs.declared.call.MemberStep.TheVariants as step
use Rattle.member_plan.specs.declared.phase.MemberPhase.{MemberPhase}
use Rattle.member_plan.specs.declared.phase.MemberPhase.TheVariants as phase
use Rattle.member_plan.specs.Nexts.{meant, node_of, asked_in, key_ends, to_come_now, IsBegun, IsNext, IsTaken, is_asking, is_unlocking, behind_unlock}

module _ (classes : List Class) (c : MemberCall) where
  pub asks : (p : MemberPhase) (op : Op) → asked_in classes c p ≡ Some op → IsNext classes c (step.Ask op) p
  unfolding to_come_now
  asks (phase.Locking n) op e = λ most. (Plain, cc)
  asks (phase.AtKey locked) op e = λ most. (Plain, cc)
  asks (phase.Unlocking a) op e = λ most. (Plain, cc)
  asks (phase.Over a) op e = absurd (cc e)
  asks phase.Told op e = absurd (cc e)

  pub asking : (p : MemberPhase) (op : Op) → asked_in classes c p ≡ Some op → is_asking p ≡ true
  asking (phase.Over a) op e = absurd (cc e)
  asking phase.Told op e = absurd (cc e)
  asking p op e = refl

  -- a failure is told, and that doesn't show in what is asked and answered
  pub ends_the_same : (back : ℕ) (a : Tried (Option (List ℕ))) (rs : List Reply) → run (Give a) rs ≡ run (next_ends back a) rs
  ends_the_same back (Got id) rs = refl
  ends_the_same back (Lost x) rs = refl

  pub key_taken : (locked : Bool) (now : MemberPhase) (r : Reply) (a : Tried (Option (List ℕ)))
      → (is_legal_reply r ≡ true → a ≡ on_next_member classes (extent_at classes c.class) (node_of classes c) r)
      → ((rs : List Reply) → run (to_come_now classes c now) rs ≡ run (key_ends classes c locked a) rs)
      → IsTaken classes c r (phase.AtKey locked) now
  unfolding to_come_now
  key_taken locked now r a tells left legal most rs le = left rs ∙ ap (λ x. run (key_ends classes c locked x) rs) (tells legal)

  pub given_back : (p : MemberPhase) (r : Reply) → is_unlocking p ≡ true → IsTaken classes c r p (behind_unlock p)
  unfolding to_come_now
  given_back (phase.Locking n) r e = absurd (cc e)
  given_back (phase.AtKey locked) r e = absurd (cc e)
  given_back (phase.Unlocking a) r e = λ legal most rs le. ends_the_same 1 (tried_of a) rs
  given_back (phase.Over a) r e = absurd (cc e)
  given_back phase.Told r e = absurd (cc e)

  abbrev next_lock : Op
  next_lock = lock_counted Shared (node_of classes c)

  abbrev behind_lock : Tried (Unit {0}) → Call (Tried (Option (List ℕ)))
  behind_lock = next_locked classes 0 (meant c) c.holder c.behind

  -- with a level the lock is tried first, and else the key is asked for at once
  pub begun_locked : 1 ≤ c.tries → nat_lt 0 c.level ≡ true → IsBegun classes c (phase.Locking (c.tries - 1))
  unfolding to_come_now next_member
  begun_locked one on = rw on (ap (λ n. bind (try Plain n next_lock) behind_lock) tries)
    where
      tries : suc (c.tries - 1) ≡ c.tries
      tries = omega arith

  pub begun_free : nat_lt 0 c.level ≡ false → IsBegun classes c (phase.AtKey false)
  unfolding to_come_now next_member
  begun_free off = rw off refl

  -- a lock that was refused is tried again, or not
  pub none_left : (left : ℕ) (x : Cause) (rs : List Reply) → left ≡ 0 → run (to_come_now classes c (phase.Over (Err x))) rs ≡ run (bind (try_from x Plain left next_lock) behind_lock) rs
  unfolding to_come_now
  none_left left x rs e = rw e refl

  pub one_left : (left : ℕ) (x : Cause) (rs : List Reply) → 1 ≤ left → run (to_come_now classes c (phase.Locking (left - 1))) rs ≡ run (bind (try_from x Plain left next_lock) behind_lock) rs
  unfolding to_come_now
  one_left zero x rs le = absurd (omega arith)
  one_left (suc m) x rs le = let same : suc m - 1 ≡ m = omega arith in ap (λ n. run (bind (try Plain (suc n) next_lock) behind_lock) rs) same
