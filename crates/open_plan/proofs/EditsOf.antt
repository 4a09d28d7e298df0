-- A hold of a live object, and its level.
use Rattle.std.proofs.Common.{◌≡◌, ℕ, ◌==◌, cond, Bool, true, false, List, [], ◌∷◌, Some, IsSome, refl, ap}
use Rattle.oref_table.specs.Memory.{Object, Memory, object_of, changed, edited, tighten, with_level, IsLive}

either_first : (n level : ℕ) (o : Object) (os : List Object) (b : Bool) → (o.number == n) ≡ b
    → changed n (with_level level) (changed n tighten os) ≡ changed n tighten (changed n (with_level level) os)
    → changed n (with_level level) (cond b (tighten o ∷ os) (o ∷ changed n tighten os)) ≡ changed n tighten (cond b (with_level level o ∷ os) (o ∷ changed n (with_level level) os))
either_first n level o os true e more = rw e refl
either_first n level o os false e more = rw e (ap (λ qs. o ∷ qs) more)

in_either_order : (n level : ℕ) (os : List Object) → changed n (with_level level) (changed n tighten os) ≡ changed n tighten (changed n (with_level level) os)
in_either_order n level [] = refl
in_either_order n level (o ∷ os) = either_first n level o os (o.number == n) refl (in_either_order n level os)

-- it may be held before it has its level
pub held_first : (m : Memory) (n level : ℕ) → edited (edited m n tighten) n (with_level level) ≡ edited (edited m n (with_level level)) n tighten
unfolding edited
held_first m n level = ap (λ (os : List Object). record m { objects = os }) (in_either_order n level m.objects)

live_step : (n : ℕ) (o : Object) (os w : List Object) (b : Bool) → (o.number == n) ≡ b → (IsSome (object_of n os) → IsSome (object_of n w)) → IsSome (cond b (Some o) (object_of n os))
    → IsSome (object_of n (cond b (tighten o ∷ os) (o ∷ w)))
live_step n o os w true e more h = rw e refl
live_step n o os w false e more h = rw e (more h)

still_live : (n : ℕ) (os : List Object) → IsSome (object_of n os) → IsSome (object_of n (changed n tighten os))
still_live n [] h = h
still_live n (o ∷ os) h = live_step n o os (changed n tighten os) (o.number == n) refl (still_live n os) h

-- what is held is live
pub held_live : (m : Memory) (n : ℕ) → IsLive m n → IsLive (edited m n tighten) n
unfolding edited
held_live m n h = still_live n m.objects h
