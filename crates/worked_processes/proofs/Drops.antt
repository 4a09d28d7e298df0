-- What is dropped, in a form whose parts can be worked out one by one.
use Rattle.std.proofs.Common.{◌≡◌, ℕ, zero, suc, List, [], ◌∷◌, ◌++◌, map, length, Option, Some, None, refl, ap}
use Rattle.oref_table.specs.Memory.{Object, Memory}
use Rattle.oref_table.specs.Dropping.{first_unheld, one_less, left_after, gone_after, freed_of, dropped}

abbrev pub kept_or : Option Object → List Object → List Object → List Object
kept_or None all fewer = all
kept_or (Some o) all fewer = fewer

abbrev pub kept_after : ℕ → List Object → List Object
kept_after zero objects = objects
kept_after (suc turns) objects = kept_or (first_unheld objects) objects (kept_after turns (one_less objects))

abbrev pub went_or : Option Object → List Object → List Object
went_or None rest = []
went_or (Some o) rest = o ∷ rest

abbrev pub went_after : ℕ → List Object → List Object
went_after zero objects = []
went_after (suc turns) objects = went_or (first_unheld objects) (went_after turns (one_less objects))

left-kept : (n : ℕ) (objects : List Object) → left_after n objects ≡ kept_after n objects
unfolding left_after
left-kept zero objects = refl
left-kept (suc n) objects = by (first_unheld objects) (left-kept n (one_less objects))
  where
    by : (o : Option Object) → left_after n (one_less objects) ≡ kept_after n (one_less objects) → elim o [ None ↦ objects | Some _ ↦ left_after n (one_less objects) ] ≡ kept_or o objects (kept_after n (one_less objects))
    by None h = refl
    by (Some o) h = h

gone-went : (n : ℕ) (objects : List Object) → gone_after n objects ≡ went_after n objects
unfolding gone_after
gone-went zero objects = refl
gone-went (suc n) objects = by (first_unheld objects) (gone-went n (one_less objects))
  where
    by : (o : Option Object) → gone_after n (one_less objects) ≡ went_after n (one_less objects) → elim o [ None ↦ [] | Some o ↦ o ∷ gone_after n (one_less objects) ] ≡ went_or o (went_after n (one_less objects))
    by None h = refl
    by (Some o) h = ap (λ os. o ∷ os) h

pub drops : (m : Memory) → dropped m ≡ record { objects = kept_after (length m.objects) m.objects; last = m.last; freed = m.freed ++ map freed_of (went_after (length m.objects) m.objects) }
unfolding dropped
drops m = λ i. record { objects = left-kept (length m.objects) m.objects i; last = m.last; freed = m.freed ++ map freed_of (gone-went (length m.objects) m.objects i) }
