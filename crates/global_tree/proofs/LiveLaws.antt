-- Each place of a tree has a value or a pin, whatever is edited.
use Rattle.std.proofs.Common.{◌≡◌, ℕ, zero, suc, ◌+◌, ◌<◌, cond, [], ◌∷◌, length, get_or, set, Option, Some, None, is_some, refl, arith}
use Rattle.std.specs.List.{insert, remove}
use Rattle.obj_kinds.specs.declared.node.Node.{Node}
use Rattle.obj_kinds.specs.declared.value.Value.{Value}
use Rattle.global_tree.specs.declared.place.Place.{Place}
use Rattle.global_tree.specs.Places.{IsLive, AllLive, emptied}
use Rattle.global_tree.specs.Run.{emptied_in}
use Rattle.global_tree.proofs.Seen.{Places}

pub live_set : (es : Places) (i : ℕ) (e : Node × Place) → AllLive es → IsLive e.1 → AllLive (set es i e)
live_set [] i e all is = tt
live_set (x ∷ es) zero e all is = (is, all.1)
live_set (x ∷ es) (suc i) e all is = (all.0, live_set es i e all.1 is)

pub live_insert : (es : Places) (i : ℕ) (e : Node × Place) → AllLive es → IsLive e.1 → AllLive (insert es i e)
live_insert es zero e all is = (is, all)
live_insert [] (suc i) e all is = (is, tt)
live_insert (x ∷ es) (suc i) e all is = (all.0, live_insert es i e all.1 is)

pub live_remove : (es : Places) (i : ℕ) → AllLive es → AllLive (remove es i)
live_remove [] zero all = tt
live_remove [] (suc i) all = tt
live_remove (x ∷ es) zero all = all.1
live_remove (x ∷ es) (suc i) all = (all.0, live_remove es i all.1)

-- the other places are as they were
pub others_set : (es : Places) (i : ℕ) (e : Node × Place) → AllLive es → AllLive (remove (set es i e) i)
others_set [] zero e all = tt
others_set [] (suc i) e all = tt
others_set (x ∷ es) zero e all = all.1
others_set (x ∷ es) (suc i) e all = (all.0, others_set es i e all.1)

pub live_with : (es : Places) (i : ℕ) (d : Node × Place) → i < length es → AllLive (remove es i) → IsLive (get_or es i d).1 → AllLive es
live_with [] i d lt all is = tt
live_with (x ∷ es) zero d lt all is = (is, all)
live_with (x ∷ es) (suc i) d lt all is = (all.0, live_with es i d (omega arith) all.1 is)

live_emptied : (p : Place) → IsLive p → IsLive (emptied p)
unfolding emptied
live_emptied p is = by p.value refl
  where
    by : (v : Option Value) → p.value ≡ v → IsLive (cond (is_some v) (record { value = None; pins = p.pins + 1 }) p)
    by None e = is
    by (Some v) e = omega arith

pub live_run : (es : Places) (i m : ℕ) → AllLive es → AllLive (emptied_in i m es)
live_run es zero zero all = all
live_run [] zero (suc m) all = tt
live_run (x ∷ es) zero (suc m) all = (live_emptied x.1 all.0, live_run es zero m all.1)
live_run [] (suc i) m all = tt
live_run (x ∷ es) (suc i) m all = (all.0, live_run es i m all.1)
