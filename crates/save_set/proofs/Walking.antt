-- What is found by looking at all that is ahead is what paths of OREFs lead to.
use Rattle.std.proofs.Common.{◌≡◌, ◌⊎◌, inl, inr, ℕ, suc, ◌+◌, ◌≤◌, ◌<◌, ◌==◌, Bool, true, false, cond, ◌||◌, List, [], ◌∷◌, ◌++◌, length, drop, map, filter, slice_index_or, Option, None, Some, IsSome, is_some, refl, sym, ap, subst, ◌∙◌, arith}
use Rattle.std.proofs.Math.Seq.{drop-cons}
use Rattle.std.proofs.lemmas.List.{drop_all}
use Rattle.std.proofs.lemmas.Bool.{eq-eqb}
use Rattle.std.proofs.lemmas.Cmp.{ranked}
use Rattle.std.specs.List.{flat_map, AllByRecursion}
use Rattle.std.specs.List.Sorted.{IsStrictlySortedBy}
use Rattle.std.specs.Ordering.{nat_cmp}
use Rattle.std.specs.declared.cmp.Ordering.TheVariants.{Less}
use Rattle.oref_table.specs.Memory.{Object, Memory, object_of, object_refs, refs_among, IsLive}
use Rattle.oref_table.specs.Refs.{refs_in, times}
use Rattle.oref_table.specs.Sound.{AreRising, IsSound}
use Rattle.obj_shape.specs.Records.{slots_at, slots_part}
use Rattle.object_calls.specs.Reach.{is_among, Path, Here, Along, reached}
use Rattle.call_laws.specs.Reaching.{AreClosed}
use Rattle.call_laws.proofs.Growth.{among_first, among_more, among_split, among_filter}
use Rattle.call_laws.proofs.ReachLaws.{reach_follows, reach_keeps}
use Rattle.object_members.specs.Seeing.{numbers_of, refs_part}
use Rattle.save_set.specs.Marking.{Found, mark_one, mark_each, refs_at}
use Rattle.save_set.proofs.Marks.{Gains, gains, append_left, append_right, append_split, each_append, unfound}

-- ---- piece after piece

flat_at : {X : Type 0} (f : X → List ℕ) (xs : List X) (i : ℕ) (d : X) → i < length xs → f (slice_index_or xs i d) ++ flat_map f (drop (i + 1) xs) ≡ flat_map f (drop i xs)
flat_at f xs i d h =
    let e : suc i ≡ i + 1 = omega arith in
    sym (ap (flat_map f) (drop-cons xs i d h) ∙ ap (λ k. f (slice_index_or xs i d) ++ flat_map f (drop k xs)) e)

-- one more piece is marked
pub each_more : {X : Type 0} (f : X → List ℕ) (xs : List X) (i : ℕ) (d : X) (s new all : Found) → i < length xs → new ≡ mark_each (f (slice_index_or xs i d)) s
    → mark_each (flat_map f (drop i xs)) s ≡ all → mark_each (flat_map f (drop (i + 1) xs)) new ≡ all
each_more f xs i d s new all h is so =
    ap (mark_each (flat_map f (drop (i + 1) xs))) is
    ∙ sym (each_append (f (slice_index_or xs i d)) (flat_map f (drop (i + 1) xs)) s)
    ∙ ap (λ ns. mark_each ns s) (flat_at f xs i d h)
    ∙ so

-- and all pieces are
pub each_end : {X : Type 0} (f : X → List ℕ) (xs : List X) (i : ℕ) (s all : Found) → length xs ≤ i → mark_each (flat_map f (drop i xs)) s ≡ all → s ≡ all
each_end f xs i s all h so = ap (λ (ys : List _). mark_each (flat_map f ys) s) (sym (drop_all {X = _} i xs h)) ∙ so

pub refs_kept : (m : Memory) (n : ℕ) → refs_in (slots_at m n) ≡ refs_at m n
refs_kept m n = by (object_of n m.objects)
  where
    by : (x : Option Object) → refs_in (slots_part x) ≡ refs_part x
    by None = refl
    by (Some o) = refl

-- ---- what holds while something is ahead

-- whatever was found is the end of a path, and is ahead or names only what was found
pub record Worked (refs : ℕ → List ℕ) (root : ℕ) (f : Found) : Type 0 where
  pub begun : is_among root f.marks ≡ true
  pub ends : (k : ℕ) → is_among k f.marks ≡ true → Path refs root k
  pub queued : (k : ℕ) → is_among k f.ahead ≡ true → is_among k f.marks ≡ true
  pub done : (k j : ℕ) → is_among k f.marks ≡ true → (is_among k f.ahead ≡ true) ⊎ (is_among j (refs k) ≡ true → is_among j f.marks ≡ true)

abbrev pub none_found : Found
none_found = record { marks = []; ahead = [] }

pub first_found : (root : ℕ) → mark_one root none_found ≡ record { marks = root ∷ []; ahead = root ∷ [] }
unfolding mark_one
first_found root = refl

module _ (refs : ℕ → List ℕ) where
  one_more : (a b c : ℕ) → Path refs a b → is_among c (refs b) ≡ true → Path refs a c
  one_more a b c (Here n) h = Along n c c h (Here c)
  one_more a b c (Along n m k e p) h = Along n m c e (one_more m k c p h)

  pub worked_first : (root : ℕ) (f : Found) → f ≡ mark_one root none_found → Worked refs root f
  worked_first root f e = subst (Worked refs root) (sym (e ∙ first_found root)) (record {
    begun = among_first root [];
    ends = λ k h. at k (among_split k root [] h);
    queued = λ k h. h;
    done = λ k j h. inl h;
  })
    where
      at : (k : ℕ) → (root ≡ k) ⊎ (is_among k [] ≡ true) → Path refs root k
      at k (inl same) = subst (Path refs root) same (Here root)
      at k (inr none) = cc

  module _ (root n : ℕ) (f g h : Found) (was : Worked refs root f) (ahead : f.ahead ≡ g.ahead ++ n ∷ []) (same : g.marks ≡ f.marks) (all : Gains [] (refs n) g h) where
    mine : is_among n f.ahead ≡ true
    mine = ap (is_among n) ahead ∙ append_right g.ahead (n ∷ []) n (among_first n [])

    marked_then : (k : ℕ) → is_among k f.marks ≡ true → is_among k h.marks ≡ true
    marked_then k e = all.more k (ap (is_among k) same ∙ e)

    ends_then : (k : ℕ) → (is_among k g.marks ≡ true) ⊎ ((is_among k (refs n) ≡ true) × (is_among k h.ahead ≡ true)) → Path refs root k
    ends_then k (inl e) = was.ends k (ap (is_among k) (sym same) ∙ e)
    ends_then k (inr p) = one_more root n k (was.ends n (was.queued n mine)) p.0

    queued_then : (k : ℕ) → (is_among k g.ahead ≡ true) ⊎ (is_among k (refs n) ≡ true) → is_among k h.marks ≡ true
    queued_then k (inl e) = marked_then k (was.queued k (ap (is_among k) ahead ∙ append_left g.ahead (n ∷ []) k e))
    queued_then k (inr e) = all.has k e

    ahead_then : (k j : ℕ) → (is_among k g.ahead ≡ true) ⊎ (is_among k (n ∷ []) ≡ true) → (is_among k h.ahead ≡ true) ⊎ (is_among j (refs k) ≡ true → is_among j h.marks ≡ true)
    ahead_then k j (inl e) = inl (all.keeps k e)
    ahead_then k j (inr e) = looked (among_split k n [] e)
      where
        looked : (n ≡ k) ⊎ (is_among k [] ≡ true) → (is_among k h.ahead ≡ true) ⊎ (is_among j (refs k) ≡ true → is_among j h.marks ≡ true)
        looked (inl here) = inr (λ into. all.has j (ap (λ i. is_among j (refs i)) here ∙ into))
        looked (inr none) = cc

    old_then : (k j : ℕ) → (is_among k f.ahead ≡ true) ⊎ (is_among j (refs k) ≡ true → is_among j f.marks ≡ true) → (is_among k h.ahead ≡ true) ⊎ (is_among j (refs k) ≡ true → is_among j h.marks ≡ true)
    old_then k j (inl e) = ahead_then k j (append_split g.ahead (n ∷ []) k (sym (ap (is_among k) ahead) ∙ e))
    old_then k j (inr into) = inr (λ e. marked_then j (into e))

    done_then : (k j : ℕ) → (is_among k g.marks ≡ true) ⊎ ((is_among k (refs n) ≡ true) × (is_among k h.ahead ≡ true)) → (is_among k h.ahead ≡ true) ⊎ (is_among j (refs k) ≡ true → is_among j h.marks ≡ true)
    done_then k j (inl e) = old_then k j (was.done k j (ap (is_among k) (sym same) ∙ e))
    done_then k j (inr p) = inl p.1

    worked_then : Worked refs root h
    worked_then = record {
      begun = marked_then root was.begun;
      ends = λ k e. ends_then k (all.from k e);
      queued = λ k e. queued_then k (all.queued k e);
      done = λ k j e. done_then k j (all.from k e);
    }

  -- one is looked at
  pub worked_turn : (root n : ℕ) (f g h : Found) → Worked refs root f → f.ahead ≡ g.ahead ++ n ∷ [] → g.marks ≡ f.marks → h ≡ mark_each (refs n) g → Worked refs root h
  worked_turn root n f g h was ahead same is = worked_then root n f g h was ahead same (subst (Gains [] (refs n) g) (sym is) (gains [] (refs n) g))

  module _ (live : List ℕ) (closed : AreClosed refs live) where
    path_live : (a b : ℕ) → Path refs a b → is_among a live ≡ true → is_among b live ≡ true
    path_live a b (Here n) h = h
    path_live a b (Along n m k e p) h = path_live m k p (closed n m h e)

    -- and less is left than before
    pub worked_less : (root n : ℕ) (f g h : Found) → is_among root live ≡ true → Worked refs root f → f.ahead ≡ g.ahead ++ n ∷ [] → g.marks ≡ f.marks → h ≡ mark_each (refs n) g
        → unfound h.marks live + length h.ahead < unfound f.marks live + length f.ahead
    worked_less root n f g h is_live was ahead same is =
        let mine : is_among n f.ahead ≡ true = ap (is_among n) ahead ∙ append_right g.ahead (n ∷ []) n (among_first n []) in
        let n_live : is_among n live ≡ true = path_live root n (was.ends n (was.queued n mine)) is_live in
        let size = (subst (Gains live (refs n) g) (sym is) (gains live (refs n) g)).size (λ k e. closed n k n_live e) in
        let marks : unfound g.marks live ≡ unfound f.marks live = ap (λ ms. unfound ms live) same in
        let long : length f.ahead ≡ suc (length g.ahead) = ap length ahead ∙ longer g.ahead in
        omega (arith, size, marks, long)
      where
        longer : (xs : List ℕ) → length (xs ++ n ∷ []) ≡ suc (length xs)
        longer [] = refl
        longer (x ∷ xs) = ap suc (longer xs)

    module _ (root : ℕ) (f : Found) (is_live : is_among root live ≡ true) (was : Worked refs root f) (none : f.ahead ≡ []) where
      closed_by : (k j : ℕ) → (is_among k f.ahead ≡ true) ⊎ (is_among j (refs k) ≡ true → is_among j f.marks ≡ true) → is_among j (refs k) ≡ true → is_among j f.marks ≡ true
      closed_by k j (inl e) into = let wrong = sym (ap (is_among k) none) ∙ e in cc
      closed_by k j (inr more) into = more into

      along : (a b : ℕ) → Path refs a b → is_among a f.marks ≡ true → is_among b f.marks ≡ true
      along a b (Here n) h = h
      along a b (Along n m k e p) h = along m k p (closed_by n m (was.done n m h) e)

      -- exactly what is reached was found
      found_reached : (k : ℕ) → is_among k f.marks ≡ true → is_among k (reached refs live root) ≡ true
      found_reached k e = (reach_follows refs live root is_live closed k).1 (was.ends k e)

      reached_found : (k : ℕ) → is_among k (reached refs live root) ≡ true → is_among k f.marks ≡ true
      reached_found k e = along root k ((reach_follows refs live root is_live closed k).0 e) was.begun

-- ---- rising lists with the same numbers are the same

abbrev Above : ℕ → List ℕ → Type 0
Above a xs = (k : ℕ) → is_among k xs ≡ true → a < k

abbrev Rises : List ℕ → Type 0
Rises [] = Unit {0}
Rises (x ∷ xs) = Above x xs × Rises xs

above_of : (x : ℕ) (xs : List ℕ) → AllByRecursion (λ y. nat_cmp x y ≡ Less) xs → Above x xs
above_of x [] a k h = cc
above_of x (y ∷ ys) a k h = by (among_split k y ys h) (above_of x ys a.1 k)
  where
    by : (y ≡ k) ⊎ (is_among k ys ≡ true) → (is_among k ys ≡ true → x < k) → x < k
    by (inl same) rest = let less : x < y = ranked x y Less (sym a.0) in omega (arith, less, same)
    by (inr more) rest = rest more

rises_of : (xs : List ℕ) → IsStrictlySortedBy nat_cmp xs → Rises xs
unfolding IsStrictlySortedBy
rises_of [] s = tt
rises_of (x ∷ xs) s = (above_of x xs s.0, rises_of xs s.1)

rises_filter : (p : ℕ → Bool) (xs : List ℕ) → Rises xs → Rises (filter p xs)
rises_filter p [] r = tt
rises_filter p (x ∷ xs) r = by (p x) (rises_filter p xs r.1)
  where
    by : (b : Bool) → Rises (filter p xs) → Rises (cond b (x ∷ filter p xs) (filter p xs))
    by true more = (λ k h. r.0 k (among_filter p xs k h).0, more)
    by false more = more

tail_same : (x : ℕ) (xs ys : List ℕ) → Above x xs → Above x ys → ((k : ℕ) → is_among k (x ∷ xs) ≡ true → is_among k (x ∷ ys) ≡ true) → (k : ℕ) → is_among k xs ≡ true → is_among k ys ≡ true
tail_same x xs ys a b same k h = by (among_split k x ys (same k (among_more k x xs h)))
  where
    by : (x ≡ k) ⊎ (is_among k ys ≡ true) → is_among k ys ≡ true
    by (inl e) = let less = a k h in absurd (omega (arith, less, e))
    by (inr e) = e

same_rising : (xs ys : List ℕ) → Rises xs → Rises ys → ((k : ℕ) → is_among k xs ≡ true → is_among k ys ≡ true) → ((k : ℕ) → is_among k ys ≡ true → is_among k xs ≡ true) → xs ≡ ys
same_rising [] [] r s f g = refl
same_rising [] (y ∷ ys) r s f g = let wrong = g y (among_first y ys) in cc
same_rising (x ∷ xs) [] r s f g = let wrong = f x (among_first x xs) in cc
same_rising (x ∷ xs) (y ∷ ys) r s f g = by (among_split x y ys (f x (among_first x xs))) (among_split y x xs (g y (among_first y ys))) (same_rising xs ys r.1 s.1)
  where
    heads : x ≡ y → (((k : ℕ) → is_among k xs ≡ true → is_among k ys ≡ true) → ((k : ℕ) → is_among k ys ≡ true → is_among k xs ≡ true) → xs ≡ ys) → x ∷ xs ≡ y ∷ ys
    heads e rest =
        let s' : Above x ys = subst (λ z. Above z ys) (sym e) s.0 in
        let f' : (k : ℕ) → is_among k (x ∷ xs) ≡ true → is_among k (x ∷ ys) ≡ true = λ k h. ap (λ z. is_among k (z ∷ ys)) e ∙ f k h in
        let g' : (k : ℕ) → is_among k (x ∷ ys) ≡ true → is_among k (x ∷ xs) ≡ true = λ k h. g k (ap (λ z. is_among k (z ∷ ys)) (sym e) ∙ h) in
        ap (λ z. z ∷ xs) e ∙ ap (λ zs. y ∷ zs) (rest (tail_same x xs ys r.0 s' f') (tail_same x ys xs s' r.0 g'))

    by : (y ≡ x) ⊎ (is_among x ys ≡ true) → (x ≡ y) ⊎ (is_among y xs ≡ true)
        → (((k : ℕ) → is_among k xs ≡ true → is_among k ys ≡ true) → ((k : ℕ) → is_among k ys ≡ true → is_among k xs ≡ true) → xs ≡ ys) → x ∷ xs ≡ y ∷ ys
    by (inl e) q rest = heads (sym e) rest
    by (inr e) (inl d) rest = heads d rest
    by (inr e) (inr d) rest = let a = s.0 x e in let b = r.0 y d in absurd (omega (arith, a, b))

-- ---- the live objects of a memory

rising_above : (first last : ℕ) (os : List Object) → AreRising first last os → Above first (map (λ (o : Object). o.number) os)
rising_above first last [] r k h = cc
rising_above first last (o ∷ os) r k h = by (among_split k o.number (map (λ (o : Object). o.number) os) h) (rising_above o.number last os r.1 k)
  where
    by : (o.number ≡ k) ⊎ (is_among k (map (λ (o : Object). o.number) os) ≡ true) → (is_among k (map (λ (o : Object). o.number) os) ≡ true → o.number < k) → first < k
    by (inl e) rest = let less = r.0 in omega (arith, less, e)
    by (inr e) rest = let less = r.0 in let more = rest e in omega (arith, less, more)

rising_live : (first last : ℕ) (os : List Object) → AreRising first last os → Rises (map (λ (o : Object). o.number) os)
rising_live first last [] r = tt
rising_live first last (o ∷ os) r = (rising_above o.number last os r.1, rising_live o.number last os r.1)

live_told : (n : ℕ) (os : List Object) → is_among n (map (λ (o : Object). o.number) os) ≡ is_some (object_of n os)
live_told n [] = refl
live_told n (o ∷ os) = by (o.number == n) (live_told n os)
  where
    by : (b : Bool) → is_among n (map (λ (o : Object). o.number) os) ≡ is_some (object_of n os) → b || is_among n (map (λ (o : Object). o.number) os) ≡ is_some (cond b (Some o) (object_of n os))
    by true e = refl
    by false e = e

refs_more : (n k : ℕ) (os : List Object) → is_among k (refs_part (object_of n os)) ≡ true → is_among k (refs_among os) ≡ true
refs_more n k [] h = cc
refs_more n k (o ∷ os) h = by (o.number == n) h (refs_more n k os)
  where
    by : (b : Bool) → is_among k (refs_part (cond b (Some o) (object_of n os))) ≡ true → (is_among k (refs_part (object_of n os)) ≡ true → is_among k (refs_among os) ≡ true)
        → is_among k (object_refs o ++ refs_among os) ≡ true
    by true e more = append_left (object_refs o) (refs_among os) k e
    by false e more = append_right (object_refs o) (refs_among os) k (more e)

none_times : (k : ℕ) (xs : List ℕ) → times k xs ≡ 0 → is_among k xs ≡ true → ⊥
none_times k [] z h = absurd (cc)
none_times k (x ∷ xs) z h = by (among_split k x xs h) (k == x) refl z (none_times k xs)
  where
    by : (x ≡ k) ⊎ (is_among k xs ≡ true) → (b : Bool) → (k == x) ≡ b → cond b 1 0 + times k xs ≡ 0 → (times k xs ≡ 0 → is_among k xs ≡ true → ⊥) → ⊥
    by s true e z more = absurd (omega (arith, z))
    by (inl same) false e z more = let wrong = sym e ∙ eq-eqb k x (sym same) in absurd (cc)
    by (inr d) false e z more = more (omega (arith, z)) d

pub live_closed : (m : Memory) → IsSound m → AreClosed (refs_at m) (numbers_of m)
live_closed m sound n k n_live into = live_told k m.objects ∙ by (object_of k m.objects) refl
  where
    by : (x : Option Object) → object_of k m.objects ≡ x → is_some x ≡ true
    by None e = absurd (none_times k (refs_among m.objects) (sound.closed k e) (refs_more n k m.objects into))
    by (Some o) e = refl

pub live_root : (m : Memory) (n : ℕ) → IsLive m n → is_among n (numbers_of m) ≡ true
live_root m n h = live_told n m.objects ∙ by (object_of n m.objects) h
  where
    by : (x : Option Object) → IsSome x → is_some x ≡ true
    by None s = cc
    by (Some o) s = refl

-- all that is reached was found, in its order
pub all_found : (m : Memory) (root : ℕ) (f : Found) → IsSound m → IsLive m root → Worked (refs_at m) root f → f.ahead ≡ [] → IsStrictlySortedBy nat_cmp f.marks
    → f.marks ≡ reached (refs_at m) (numbers_of m) root
all_found m root f sound is_live was none sorted =
    let p = reach_keeps (refs_at m) (numbers_of m) root (live_root m root is_live) in
    let rising : Rises (reached (refs_at m) (numbers_of m) root) = subst Rises (sym p.1) (rises_filter p.0 (numbers_of m) (rising_live 0 m.last m.objects sound.rising)) in
    same_rising f.marks (reached (refs_at m) (numbers_of m) root) (rises_of f.marks sorted) rising
    (found_reached (refs_at m) (numbers_of m) (live_closed m sound) root f (live_root m root is_live) was none)
    (reached_found (refs_at m) (numbers_of m) (live_closed m sound) root f (live_root m root is_live) was none)

abbrev pub found_as : List ℕ → List ℕ → Found
found_as marks ahead = record { marks = marks; ahead = ahead }

pub same_found : (marks ahead others rest : List ℕ) → marks ≡ others → ahead ≡ rest → found_as marks ahead ≡ found_as others rest
same_found marks ahead others rest e f = ap (λ ms. found_as ms ahead) e ∙ ap (λ ns. found_as others ns) f
