-- Marks that are passed on from each marked place, until none is ahead, are on all that is above.
use Rattle.std.proofs.Common.{◌≡◌, ℕ, zero, suc, ◌+◌, ◌<◌, ◌≤◌, ◌⊎◌, inl, inr, Bool, true, false, cond, List, [], ◌∷◌, ◌++◌, length, slice_set, IsTrue, replicate, refl, sym, ap, subst, ◌∙◌, arith}
use Rattle.schema_kinds.specs.Links.{IsIn, row, IsUp, IsAtOrBelow, IsWithin, AreWithin, AreAbove, mark_at, unmarked, mark_all, fresh, news}

-- what is marked in xs is marked in ys
abbrev pub Grows : List Bool → List Bool → Type 0
Grows [] [] = Unit {0}
Grows [] (y ∷ ys) = ⊥
Grows (x ∷ xs) [] = ⊥
Grows (x ∷ xs) (y ∷ ys) = (x ≡ true → y ≡ true) × Grows xs ys

pub Grows-refl : (xs : List Bool) → Grows xs xs
Grows-refl [] = tt
Grows-refl (x ∷ xs) = (λ h. h, Grows-refl xs)

pub Grows-trans : (xs ys zs : List Bool) → Grows xs ys → Grows ys zs → Grows xs zs
Grows-trans [] [] zs p q = q
Grows-trans [] (y ∷ ys) zs p q = absurd p
Grows-trans (x ∷ xs) [] zs p q = absurd p
Grows-trans (x ∷ xs) (y ∷ ys) [] p q = absurd q
Grows-trans (x ∷ xs) (y ∷ ys) (z ∷ zs) p q = (λ h. q.0 (p.0 h), Grows-trans xs ys zs p.1 q.1)

pub Grows-set : (xs : List Bool) (i : ℕ) → Grows xs (slice_set xs i true)
Grows-set [] i = tt
Grows-set (x ∷ xs) zero = (λ h. refl, Grows-refl xs)
Grows-set (x ∷ xs) (suc i) = (λ h. h, Grows-set xs i)

pub Grows-length : (xs ys : List Bool) → Grows xs ys → length ys ≡ length xs
Grows-length [] [] g = refl
Grows-length [] (y ∷ ys) g = absurd g
Grows-length (x ∷ xs) [] g = absurd g
Grows-length (x ∷ xs) (y ∷ ys) g = ap suc (Grows-length xs ys g.1)

pub Grows-mark : (xs ys : List Bool) (k : ℕ) → Grows xs ys → IsTrue (mark_at xs k) → IsTrue (mark_at ys k)
Grows-mark [] ys k g h = cc
Grows-mark (x ∷ xs) [] k g h = absurd g
Grows-mark (x ∷ xs) (y ∷ ys) zero g h = g.0 h
Grows-mark (x ∷ xs) (y ∷ ys) (suc k) g h = Grows-mark xs ys k g.1 h

pub unmarked-Grows : (xs ys : List Bool) → Grows xs ys → unmarked ys ≤ unmarked xs
unmarked-Grows [] [] g = omega arith
unmarked-Grows [] (y ∷ ys) g = absurd g
unmarked-Grows (x ∷ xs) [] g = absurd g
unmarked-Grows (true ∷ xs) (true ∷ ys) g = let r = unmarked-Grows xs ys g.1 in omega arith
unmarked-Grows (true ∷ xs) (false ∷ ys) g = cc (g.0 refl)
unmarked-Grows (false ∷ xs) (true ∷ ys) g = let r = unmarked-Grows xs ys g.1 in omega arith
unmarked-Grows (false ∷ xs) (false ∷ ys) g = let r = unmarked-Grows xs ys g.1 in omega arith

pub same-Grows : (xs ys : List Bool) → Grows xs ys → unmarked xs ≤ unmarked ys → ys ≡ xs
same-Grows [] [] g h = refl
same-Grows [] (y ∷ ys) g h = absurd g
same-Grows (x ∷ xs) [] g h = absurd g
same-Grows (true ∷ xs) (true ∷ ys) g h = ap (λ l. true ∷ l) (same-Grows xs ys g.1 (omega arith))
same-Grows (true ∷ xs) (false ∷ ys) g h = cc (g.0 refl)
same-Grows (false ∷ xs) (true ∷ ys) g h = let r = unmarked-Grows xs ys g.1 in absurd (omega arith)
same-Grows (false ∷ xs) (false ∷ ys) g h = ap (λ l. false ∷ l) (same-Grows xs ys g.1 (omega arith))

pub Grows-mark_all : (ss : List ℕ) (ms : List Bool) → Grows ms (mark_all ss ms)
Grows-mark_all [] ms = Grows-refl ms
Grows-mark_all (s ∷ ss) ms = Grows-trans ms (slice_set ms s true) (mark_all ss (slice_set ms s true)) (Grows-set ms s) (Grows-mark_all ss (slice_set ms s true))

set-marks : (ms : List Bool) (s : ℕ) → s < length ms → IsTrue (mark_at (slice_set ms s true) s)
set-marks [] s h = absurd (omega arith)
set-marks (m ∷ ms) zero h = refl
set-marks (m ∷ ms) (suc s) h = set-marks ms s (omega arith)

mark-was : (ms : List Bool) (s k : ℕ) → IsTrue (mark_at (slice_set ms s true) k) → (k ≡ s) ⊎ IsTrue (mark_at ms k)
mark-was [] s k h = inr h
mark-was (m ∷ ms) zero zero h = inl refl
mark-was (m ∷ ms) zero (suc k) h = inr h
mark-was (m ∷ ms) (suc s) zero h = inr h
mark-was (m ∷ ms) (suc s) (suc k) h = elim (mark-was ms s k h) [ inl e ↦ inl (ap suc e) | inr t ↦ inr t ]

pub mark_all-marks : (ss : List ℕ) (ms : List Bool) (s : ℕ) → IsWithin ss (length ms) → IsIn s ss → IsTrue (mark_at (mark_all ss ms) s)
mark_all-marks [] ms s w h = absurd h
mark_all-marks (t ∷ ss) ms s w (inl e) =
    Grows-mark (slice_set ms t true) (mark_all ss (slice_set ms t true)) s (Grows-mark_all ss (slice_set ms t true))
    (subst (λ k. IsTrue (mark_at (slice_set ms t true) k)) (sym e) (set-marks ms t w.0))
mark_all-marks (t ∷ ss) ms s w (inr i) =
    mark_all-marks ss (slice_set ms t true) s (subst (IsWithin ss) (sym (Grows-length ms (slice_set ms t true) (Grows-set ms t))) w.1) i

module _ (P : ℕ → Type 0) where
  pub mark_all-only : (ss : List ℕ) (ms : List Bool) → ((k : ℕ) → IsTrue (mark_at ms k) → P k) → ((k : ℕ) → IsIn k ss → P k) → (k : ℕ) → IsTrue (mark_at (mark_all ss ms) k) → P k
  mark_all-only [] ms was new k h = was k h
  mark_all-only (s ∷ ss) ms was new k h =
      mark_all-only ss (slice_set ms s true)
      (λ j m. elim (mark-was ms s j m) [ inl e ↦ new j (inl e) | inr t ↦ was j t ])
      (λ j i. new j (inr i)) k h

-- one more step up
pub IsUp-more : (links : List (List ℕ)) (k a s b : ℕ) → IsUp links k a s → IsIn b (row links s) → IsUp links (suc k) a b
IsUp-more links zero a s b up into = (b, subst (λ k. IsIn b (row links k)) (sym up) into, refl)
IsUp-more links (suc k) a s b up into = (up.0, up.1, IsUp-more links k up.0 s b up.2 into)

none-marked : (n k : ℕ) → mark_at (replicate n false) k ≡ false
none-marked zero k = refl
none-marked (suc n) zero = refl
none-marked (suc n) (suc k) = none-marked n k

length-none : (n : ℕ) → length (replicate n false) ≡ n
length-none zero = refl
length-none (suc n) = ap suc (length-none n)

row-within : (links : List (List ℕ)) (n a : ℕ) → AreWithin links n → IsWithin (row links a) n
row-within [] n a w = tt
row-within (r ∷ rows) n zero w = w.0
row-within (r ∷ rows) n (suc a) w = row-within rows n a w.1

-- places put together
into-left : (s : ℕ) (xs ys : List ℕ) → IsIn s xs → IsIn s (xs ++ ys)
into-left s [] ys h = absurd h
into-left s (x ∷ xs) ys (inl e) = inl e
into-left s (x ∷ xs) ys (inr h) = inr (into-left s xs ys h)

into-right : (s : ℕ) (xs ys : List ℕ) → IsIn s ys → IsIn s (xs ++ ys)
into-right s [] ys h = h
into-right s (x ∷ xs) ys h = inr (into-right s xs ys h)

into-either : (s : ℕ) (xs ys : List ℕ) → IsIn s (xs ++ ys) → IsIn s xs ⊎ IsIn s ys
into-either s [] ys h = inr h
into-either s (x ∷ xs) ys (inl e) = inl (inl e)
into-either s (x ∷ xs) ys (inr h) = elim (into-either s xs ys h) [ inl l ↦ inl (inr l) | inr r ↦ inr r ]

-- what is newly marked is put ahead
unmarked-set : (ms : List Bool) (s : ℕ) → s < length ms → unmarked (slice_set ms s true) + cond (mark_at ms s) 0 1 ≡ unmarked ms
unmarked-set [] s h = absurd (omega arith)
unmarked-set (true ∷ ms) zero h = omega arith
unmarked-set (false ∷ ms) zero h = omega arith
unmarked-set (true ∷ ms) (suc s) h = let r = unmarked-set ms s (omega arith) in omega (arith, r)
unmarked-set (false ∷ ms) (suc s) h = let r = unmarked-set ms s (omega arith) in omega (arith, r)

fresh-length : (b : Bool) (s : ℕ) → length (cond b [] (s ∷ [])) ≡ cond b 0 1
fresh-length true s = refl
fresh-length false s = refl

length-append : (xs ys : List ℕ) → length (xs ++ ys) ≡ length xs + length ys
length-append [] ys = omega arith
length-append (x ∷ xs) ys = let r = length-append xs ys in omega (arith, r)

pub unmarked-news : (ss : List ℕ) (ms : List Bool) → IsWithin ss (length ms) → unmarked (mark_all ss ms) + length (news ss ms) ≡ unmarked ms
unmarked-news [] ms w = omega arith
unmarked-news (s ∷ ss) ms w =
    let one = unmarked-set ms s w.0 in
    let more = unmarked-news ss (slice_set ms s true) (subst (IsWithin ss) (sym (Grows-length ms (slice_set ms s true) (Grows-set ms s))) w.1) in
    let both = length-append (fresh ms s) (news ss (slice_set ms s true)) in
    omega (arith, one, more, both, fresh-length (mark_at ms s) s)

news-in : (ss : List ℕ) (ms : List Bool) (k : ℕ) → IsIn k (news ss ms) → IsIn k ss
news-in [] ms k h = h
news-in (s ∷ ss) ms k h = elim (into-either k (fresh ms s) (news ss (slice_set ms s true)) h) [ inl f ↦ inl (by (mark_at ms s) f) | inr n ↦ inr (news-in ss (slice_set ms s true) k n) ]
  where
    by : (b : Bool) → IsIn k (cond b [] (s ∷ [])) → k ≡ s
    by true f = absurd f
    by false (inl e) = e
    by false (inr f) = absurd f

news-mark : (ss : List ℕ) (ms : List Bool) (k : ℕ) → IsTrue (mark_at (mark_all ss ms) k) → IsTrue (mark_at ms k) ⊎ IsIn k (news ss ms)
news-mark [] ms k h = inl h
news-mark (s ∷ ss) ms k h = elim (news-mark ss (slice_set ms s true) k h) [ inl m ↦ was (mark-was ms s k m) | inr n ↦ inr (into-right k (fresh ms s) (news ss (slice_set ms s true)) n) ]
  where
    here : k ≡ s → (b : Bool) → mark_at ms s ≡ b → IsTrue (mark_at ms k) ⊎ IsIn k (cond b [] (s ∷ []) ++ news ss (slice_set ms s true))
    here e true m = inl (subst (λ j. IsTrue (mark_at ms j)) (sym e) m)
    here e false m = inr (inl e)

    was : (k ≡ s) ⊎ IsTrue (mark_at ms k) → IsTrue (mark_at ms k) ⊎ IsIn k (fresh ms s ++ news ss (slice_set ms s true))
    was (inl e) = here e (mark_at ms s) refl
    was (inr m) = inl m

-- what is kept while some marked places are still ahead
pub record Worked (links : List (List ℕ)) (start : ℕ) (marks : List Bool) (ahead : List ℕ) : Type 0 where
  pub as_long : length marks ≡ length links
  pub first : IsTrue (mark_at marks start)
  pub true_marks : (b : ℕ) → IsTrue (mark_at marks b) → IsAtOrBelow links start b
  pub ahead_marked : (b : ℕ) → IsIn b ahead → IsTrue (mark_at marks b)
  pub closed : (b s : ℕ) → IsTrue (mark_at marks b) → IsIn s (row links b) → IsIn b ahead ⊎ IsTrue (mark_at marks s)

pub Worked-begin : (links : List (List ℕ)) (start : ℕ) (marks : List Bool) (ahead : List ℕ) → start < length links
    → marks ≡ slice_set (replicate (length links) false) start true → ahead ≡ start ∷ [] → Worked links start marks ahead
Worked-begin links start marks ahead h e f = subst (λ ms. Worked links start ms ahead) (sym e) (subst (Worked links start (slice_set (replicate (length links) false) start true)) (sym f) begun)
  where
    only : (b : ℕ) → IsTrue (mark_at (slice_set (replicate (length links) false) start true) b) → b ≡ start
    only b m = elim (mark-was (replicate (length links) false) start b m) [ inl e ↦ e | inr t ↦ cc (none-marked (length links) b) ]

    first : IsTrue (mark_at (slice_set (replicate (length links) false) start true) start)
    first = set-marks (replicate (length links) false) start (let l = length-none (length links) in omega arith)

    begun : Worked links start (slice_set (replicate (length links) false) start true) (start ∷ [])
    begun = record {
      as_long = Grows-length (replicate (length links) false) (slice_set (replicate (length links) false) start true) (Grows-set (replicate (length links) false) start) ∙ length-none (length links);
      first = first;
      true_marks = λ b m. (0, sym (only b m));
      ahead_marked = λ b into. elim into [ inl e ↦ subst (λ k. IsTrue (mark_at (slice_set (replicate (length links) false) start true) k)) (sym e) first | inr none ↦ absurd none ];
      closed = λ b s m into. inl (inl (only b m));
    }

module _ (links : List (List ℕ)) (start : ℕ) (marks : List Bool) (rest : List ℕ) (p : ℕ) (w : Worked links start marks (rest ++ p ∷ [])) (within : AreWithin links (length links)) where
  at-p : IsTrue (mark_at marks p)
  at-p = w.ahead_marked p (into-right p rest (p ∷ []) (inl refl))

  pub row-inside : IsWithin (row links p) (length marks)
  row-inside = subst (IsWithin (row links p)) (sym w.as_long) (row-within links (length links) p within)

  grown : Grows marks (mark_all (row links p) marks)
  grown = Grows-mark_all (row links p) marks

  pub Worked-next : Worked links start (mark_all (row links p) marks) (rest ++ news (row links p) marks)
  Worked-next = record {
    as_long = Grows-length marks (mark_all (row links p) marks) grown ∙ w.as_long;
    first = Grows-mark marks (mark_all (row links p) marks) start grown w.first;
    true_marks = mark_all-only (IsAtOrBelow links start) (row links p) marks w.true_marks
        (λ k into. let at = w.true_marks p at-p in (suc at.0, IsUp-more links at.0 start p k at.1 into));
    ahead_marked = λ b into. elim (into-either b rest (news (row links p) marks) into) [
      | inl l ↦ Grows-mark marks (mark_all (row links p) marks) b grown (w.ahead_marked b (into-left b rest (p ∷ []) l))
      | inr n ↦ mark_all-marks (row links p) marks b row-inside (news-in (row links p) marks b n)
    ];
    closed = λ b s m into. elim (news-mark (row links p) marks b m) [ inl t ↦ old b s t into | inr n ↦ inl (into-right b rest (news (row links p) marks) n) ];
  }
    where
      last : (b s : ℕ) → IsIn s (row links b) → IsIn b (p ∷ []) → IsTrue (mark_at (mark_all (row links p) marks) s)
      last b s into (inl e) = mark_all-marks (row links p) marks s row-inside (subst (λ k. IsIn s (row links k)) e into)
      last b s into (inr none) = absurd none

      still : (b s : ℕ) → IsIn s (row links b) → IsIn b rest ⊎ IsIn b (p ∷ []) → IsIn b (rest ++ news (row links p) marks) ⊎ IsTrue (mark_at (mark_all (row links p) marks) s)
      still b s into (inl l) = inl (into-left b rest (news (row links p) marks) l)
      still b s into (inr r) = inr (last b s into r)

      old : (b s : ℕ) → IsTrue (mark_at marks b) → IsIn s (row links b) → IsIn b (rest ++ news (row links p) marks) ⊎ IsTrue (mark_at (mark_all (row links p) marks) s)
      old b s m into = elim (w.closed b s m into) [ inl a ↦ still b s into (into-either b rest (p ∷ []) a) | inr t ↦ inr (Grows-mark marks (mark_all (row links p) marks) s grown t) ]

  -- each turn leaves less to mark and to look at
  pub turn-smaller : unmarked (mark_all (row links p) marks) + length (rest ++ news (row links p) marks) < unmarked marks + length (rest ++ p ∷ [])
  turn-smaller =
      let same = unmarked-news (row links p) marks row-inside in
      let here = length-append rest (news (row links p) marks) in
      let there = length-append rest (p ∷ []) in
      omega (arith, same, here, there)

marks-up : (links : List (List ℕ)) (start : ℕ) (marks : List Bool) → Worked links start marks [] → (k a b : ℕ) → IsTrue (mark_at marks a) → IsUp links k a b → IsTrue (mark_at marks b)
marks-up links start marks w zero a b h up = subst (λ k. IsTrue (mark_at marks k)) up h
marks-up links start marks w (suc k) a b h up = marks-up links start marks w k up.0 b (elim (w.closed a up.0 h up.1) [ inl none ↦ absurd none | inr t ↦ t ]) up.2

pub Worked-end : (links : List (List ℕ)) (start : ℕ) (marks : List Bool) → Worked links start marks [] → AreAbove links start marks
Worked-end links start marks w = record {
  as_long = w.as_long;
  true_marks = w.true_marks;
  all_marks = λ b at. marks-up links start marks w at.0 start b w.first at.1;
}
