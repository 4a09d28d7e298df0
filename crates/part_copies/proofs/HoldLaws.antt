-- Holds that are taken and given back.
use Rattle.std.proofs.Common.{◌≡◌, ◌<◌, ◌≤◌, ℕ, zero, suc, ◌+◌, ◌-◌, ◌==◌, cond, Bool, true, false, Option, None, Some, IsSome, List, [], ◌∷◌, ◌++◌, map, length, take, slice_index_or, refl, ap, ◌∙◌, arith}
use Rattle.std.specs.List.{AllByRecursion}
use Rattle.std.proofs.lemmas.Bool.{eqb-true, eq-eqb, ne_eqb}
use Rattle.oref_table.specs.Refs.{times}
use Rattle.oref_table.specs.Memory.{Object, Memory, object_of, is_numbered, object_refs, refs_among, holders, changed, edited, loosened, loosed, tighten, outside_of, outside_part, first_that}
use Rattle.oref_table.specs.Sound.{AreRising, IsSound}
use Rattle.oref_table.specs.Dropping.{freed_of, is_unheld, first_unheld, gone, left_after, gone_after, one_less as less_by_one, dropped}
use Rattle.oref_table.proofs.Lowered.{times-append}
use Rattle.part_copies.specs.Holding.{AreLive, IsKept, tighten_by, tightened}

with_outside : Object → ℕ → Object
with_outside o k = record o { outside = k }

tight-same : (o : Object) (xs ys : List ℕ) → times o.number xs ≡ times o.number ys → tighten_by xs o ≡ tighten_by ys o
unfolding with_outside
tight-same o xs ys e = ap (λ k. with_outside o (o.outside + k)) e

all-same : (xs ys : List ℕ) (os : List Object) → AllByRecursion (λ (o : Object). times o.number xs ≡ times o.number ys) os → map (tighten_by xs) os ≡ map (tighten_by ys) os
all-same xs ys [] h = refl
all-same xs ys (o ∷ os) h = ap (λ p. p ∷ map (tighten_by xs) os) (tight-same o xs ys h.0) ∙ ap (λ ps. tighten_by ys o ∷ ps) (all-same xs ys os h.1)

other-times : (k n : ℕ) (ns : List ℕ) → (k == n) ≡ false → times k ns ≡ times k (ns ++ n ∷ [])
other-times k n ns off = let none : times k (n ∷ []) ≡ 0 = rw off refl in omega (arith, times-append k ns (n ∷ []), none)

same-times : (k n : ℕ) (ns : List ℕ) → (k == n) ≡ true → times k ns + 1 ≡ times k (ns ++ n ∷ [])
same-times k n ns on = let one : times k (n ∷ []) ≡ 1 = rw on refl in omega (arith, times-append k ns (n ∷ []), one)

-- those behind an object have other numbers
later-others : (n first last : ℕ) (ns : List ℕ) (os : List Object) → AreRising first last os → n ≤ first → AllByRecursion (λ (o : Object). times o.number ns ≡ times o.number (ns ++ n ∷ [])) os
later-others n first last ns [] r h = tt
later-others n first last ns (o ∷ os) r h =
    let off : (o.number == n) ≡ false = ne_eqb o.number n (λ (s : o.number ≡ n). let lt : first < o.number = r.0 in omega (arith, s, lt, h)) in
    (other-times o.number n ns off, later-others n o.number last ns os r.1 (omega (arith, r.0, h)))

one-more : (n first last : ℕ) (ns : List ℕ) (os : List Object) → AreRising first last os → changed n tighten (map (tighten_by ns) os) ≡ map (tighten_by (ns ++ n ∷ [])) os
unfolding with_outside
one-more n first last ns [] r = refl
one-more n first last ns (o ∷ os) r = by (o.number == n) refl (one-more n o.number last ns os r.1)
  where
    by : (b : Bool) → (o.number == n) ≡ b → changed n tighten (map (tighten_by ns) os) ≡ map (tighten_by (ns ++ n ∷ [])) os
        → cond b (tighten (tighten_by ns o) ∷ map (tighten_by ns) os) (tighten_by ns o ∷ changed n tighten (map (tighten_by ns) os)) ≡ tighten_by (ns ++ n ∷ []) o ∷ map (tighten_by (ns ++ n ∷ [])) os
    by true on rest =
        let same : o.number ≡ n = eqb-true o.number n on in
        let head : o.outside + times o.number ns + 1 ≡ o.outside + times o.number (ns ++ n ∷ []) = omega (arith, same-times o.number n ns on) in
        ap (λ k. with_outside o k ∷ map (tighten_by ns) os) head
        ∙ ap (λ ps. tighten_by (ns ++ n ∷ []) o ∷ ps) (all-same ns (ns ++ n ∷ []) os (later-others n o.number last ns os r.1 (omega (arith, same))))
    by false off rest = ap (λ p. p ∷ changed n tighten (map (tighten_by ns) os)) (tight-same o ns (ns ++ n ∷ []) (other-times o.number n ns off)) ∙ ap (λ ps. tighten_by (ns ++ n ∷ []) o ∷ ps) rest

pub hold-more : (m : Memory) (ns : List ℕ) (n : ℕ) → IsSound m → edited (tightened m ns) n tighten ≡ tightened m (ns ++ n ∷ [])
unfolding tightened edited
hold-more m ns n s = ap (λ os. record m { objects = os }) (one-more n 0 m.last ns m.objects s.rising)

pub tight-none : (m : Memory) → tightened m [] ≡ m
unfolding tightened with_outside
tight-none m = ap (λ os. record m { objects = os }) (go m.objects)
  where
    go : (os : List Object) → map (tighten_by []) os ≡ os
    go [] = refl
    go (o ∷ os) = let none : o.outside + 0 ≡ o.outside = omega arith in ap (λ k. with_outside o k ∷ map (tighten_by []) os) none ∙ ap (λ ps. o ∷ ps) (go os)

pub one-less : (m : Memory) (n : ℕ) (ns : List ℕ) → loosed (tightened m (n ∷ ns)) (n ∷ []) ≡ tightened m ns
unfolding tightened loosed with_outside
one-less m n ns = ap (λ os. record m { objects = os }) (go m.objects)
  where
    go : (os : List Object) → loosened (n ∷ []) (map (tighten_by (n ∷ ns)) os) ≡ map (tighten_by ns) os
    go [] = refl
    go (o ∷ os) =
        let same : (o.outside + times o.number (n ∷ ns)) - times o.number (n ∷ []) ≡ o.outside + times o.number ns = omega arith in
        ap (λ k. with_outside o k ∷ loosened (n ∷ []) (map (tighten_by (n ∷ ns)) os)) same ∙ ap (λ ps. tighten_by ns o ∷ ps) (go os)

-- ---- who is live, and how many holds there are

pub tight-found : (m : Memory) (ns : List ℕ) (n : ℕ) → IsSome (object_of n m.objects) → IsSome (object_of n (tightened m ns).objects)
unfolding tightened
tight-found m ns n h = go m.objects h
  where
    go : (os : List Object) → IsSome (object_of n os) → IsSome (object_of n (map (tighten_by ns) os))
    go [] h = h
    go (o ∷ os) h = by (is_numbered n o) h (go os)
      where
        by : (b : Bool) → IsSome (cond b (Some o) (object_of n os)) → (IsSome (object_of n os) → IsSome (object_of n (map (tighten_by ns) os))) → IsSome (cond b (Some (tighten_by ns o)) (object_of n (map (tighten_by ns) os)))
        by true h rest = refl
        by false h rest = rest h

pub tight-outside : (m : Memory) (ns : List ℕ) (n : ℕ) → IsSome (object_of n m.objects) → outside_of (tightened m ns) n ≡ outside_of m n + times n ns
unfolding tightened outside_of
tight-outside m ns n h = go m.objects h
  where
    go : (os : List Object) → IsSome (object_of n os) → outside_part (object_of n (map (tighten_by ns) os)) ≡ outside_part (object_of n os) + times n ns
    go [] h = absurd (cc)
    go (o ∷ os) h = by (is_numbered n o) refl h (go os)
      where
        by : (b : Bool) → is_numbered n o ≡ b → IsSome (cond b (Some o) (object_of n os)) → (IsSome (object_of n os) → outside_part (object_of n (map (tighten_by ns) os)) ≡ outside_part (object_of n os) + times n ns)
            → outside_part (cond b (Some (tighten_by ns o)) (object_of n (map (tighten_by ns) os))) ≡ outside_part (cond b (Some o) (object_of n os)) + times n ns
        by true is h rest = let same : o.number ≡ n = eqb-true o.number n is in ap (λ k. o.outside + times k ns) same
        by false is h rest = rest h

pub live-first : (m : Memory) (n : ℕ) (ns : List ℕ) → AreLive m (n ∷ ns) → IsSome (object_of n m.objects)
unfolding AreLive
live-first m n ns h = h n (let one : (n == n) ≡ true = eq-eqb n n refl in rw one (omega arith))

pub live-rest : (m : Memory) (n : ℕ) (ns : List ℕ) → AreLive m (n ∷ ns) → AreLive m ns
unfolding AreLive
live-rest m n ns h = λ k l. h k (omega (arith, l))

pub live-front : (m : Memory) (xs ys : List ℕ) → AreLive m (xs ++ ys) → AreLive m xs
unfolding AreLive
live-front m xs ys h = λ k l. h k (omega (arith, l, times-append k xs ys))

pub live-back : (m : Memory) (xs ys : List ℕ) → AreLive m (xs ++ ys) → AreLive m ys
unfolding AreLive
live-back m xs ys h = λ k l. h k (omega (arith, l, times-append k xs ys))

-- ---- nothing is dropped

tight-refs : (ns : List ℕ) (os : List Object) → refs_among (map (tighten_by ns) os) ≡ refs_among os
tight-refs ns [] = refl
tight-refs ns (o ∷ os) = ap (λ rs. object_refs o ++ rs) (tight-refs ns os)

nothing-goes : (all os : List Object) → AllByRecursion (λ o. 0 < holders all o) os → first_that (is_unheld all) os ≡ None
nothing-goes all [] h = refl
nothing-goes all (o ∷ os) h =
    let held : is_unheld all o ≡ false = ne_eqb (holders all o) 0 (λ (s : holders all o ≡ 0). let l : 0 < holders all o = h.0 in omega (arith, s, l)) in
    rw held (nothing-goes all os h.1)

left-all : (turns : ℕ) (os : List Object) → first_unheld os ≡ None → left_after turns os ≡ os
unfolding left_after
left-all zero os e = refl
left-all (suc turns) os e = by (first_unheld os) e
  where
    by : (f : Option Object) → f ≡ None → (elim f as (λ _. List Object) [ None ↦ os | Some _ ↦ left_after turns (less_by_one os) ]) ≡ os
    by None e = refl
    by (Some o) e = absurd (cc)

gone-none : (turns : ℕ) (os : List Object) → first_unheld os ≡ None → gone_after turns os ≡ []
unfolding gone_after
gone-none zero os e = refl
gone-none (suc turns) os e = by (first_unheld os) e
  where
    by : (f : Option Object) → f ≡ None → (elim f as (λ _. List Object) [ None ↦ [] | Some o ↦ o ∷ gone_after turns (less_by_one os) ]) ≡ []
    by None e = refl
    by (Some o) e = absurd (cc)

append-none : {X : Type 0} (xs : List X) → xs ++ [] ≡ xs
append-none [] = refl
append-none (x ∷ xs) = ap (λ ys. x ∷ ys) (append-none xs)

pub dropped-none : (m : Memory) → AllByRecursion (λ o. 0 < holders m.objects o) m.objects → dropped m ≡ m
unfolding dropped
dropped-none m h =
    let none : first_unheld m.objects ≡ None = nothing-goes m.objects m.objects h in
    ap (λ os. record { objects = os; last = m.last; freed = m.freed ++ map freed_of (gone m.objects) }) (left-all (length m.objects) m.objects none)
    ∙ ap (λ gs. record { objects = m.objects; last = m.last; freed = m.freed ++ map freed_of gs }) (gone-none (length m.objects) m.objects none)
    ∙ ap (λ fs. record { objects = m.objects; last = m.last; freed = fs }) (append-none m.freed)

tight-held : (ns : List ℕ) (all os : List Object) → AllByRecursion (λ o. 0 < holders all o) os → AllByRecursion (λ o. 0 < holders (map (tighten_by ns) all) o) (map (tighten_by ns) os)
tight-held ns all [] h = tt
tight-held ns all (o ∷ os) h =
    let same : times o.number (refs_among (map (tighten_by ns) all)) ≡ times o.number (refs_among all) = ap (times o.number) (tight-refs ns all) in
    (omega (arith, h.0, same), tight-held ns all os h.1)

pub dropped-tight : (m : Memory) (ns : List ℕ) → IsKept m → dropped (tightened m ns) ≡ tightened m ns
unfolding tightened
dropped-tight m ns kept = dropped-none (record m { objects = map (tighten_by ns) m.objects }) (tight-held ns m.objects m.objects kept.held)

-- one of them is given back
pub gone-one : (m old new : Memory) (n : ℕ) (ns : List ℕ) → IsKept m → old ≡ tightened m (n ∷ ns) → new ≡ dropped (loosed old (n ∷ [])) → new ≡ tightened m ns
gone-one m old new n ns kept is go = go ∙ ap (λ x. dropped (loosed x (n ∷ []))) is ∙ ap dropped (one-less m n ns) ∙ dropped-tight m ns kept

pub held-one : (m old : Memory) (n : ℕ) (ns : List ℕ) → AreLive m (n ∷ ns) → old ≡ tightened m (n ∷ ns) → 0 < outside_of old n
held-one m old n ns live is =
    let one : (n == n) ≡ true = eq-eqb n n refl in
    let some : 0 < times n (n ∷ ns) = rw one (omega arith) in
    omega (arith, ap (λ x. outside_of x n) is, tight-outside m (n ∷ ns) n (live-first m n ns live), some)

-- ---- lists of numbers

pub live-at : (m : Memory) (ns : List ℕ) (i : ℕ) → i < length ns → AreLive m ns → IsSome (object_of (slice_index_or ns i 0) m.objects)
live-at m [] i l h = absurd (omega (arith, l))
live-at m (n ∷ ns) zero l h = live-first m n ns h
live-at m (n ∷ ns) (suc i) l h = live-at m ns i (omega (arith, l)) (live-rest m n ns h)

times-take : (k : ℕ) (ns : List ℕ) (i : ℕ) → times k (take i ns) ≤ times k ns
times-take k [] zero = omega arith
times-take k [] (suc i) = omega arith
times-take k (n ∷ ns) zero = omega arith
times-take k (n ∷ ns) (suc i) = omega (arith, times-take k ns i)

pub live-take : (m : Memory) (ns : List ℕ) (i : ℕ) → AreLive m ns → AreLive m (take i ns)
unfolding AreLive
live-take m ns i h = λ k l. h k (omega (arith, l, times-take k ns i))
