-- Memory with copies of a part.
use Rattle.std.proofs.Common.{◌≡◌, ◌≢◌, ◌<◌, ◌≤◌, ℕ, zero, suc, ◌+◌, ◌-◌, ◌==◌, cond, Bool, true, false, Option, None, Some, IsSome, List, [], ◌∷◌, ◌++◌, map, length, refl, ap, sym, subst, ◌∙◌, arith, append_assoc}
use Rattle.std.specs.List.{AllByRecursion}
use Rattle.std.proofs.lemmas.Bool.{eqb-true, eq-eqb, ne_eqb, true≢false}
use Rattle.std.proofs.lemmas.List.{map-append}
use Rattle.oref_table.specs.declared.obj.NewObj.{NewObj}
use Rattle.oref_table.specs.Refs.{times}
use Rattle.oref_table.specs.Memory.{Object, Memory, object_of, is_numbered, loosen, loosened, loosed, outside_of, outside_part, tighten, with_object}
use Rattle.oref_table.specs.Making.{fresh_of, refs_of_new, with_all}
use Rattle.oref_table.specs.Sound.{AreRising, IsSound}
use Rattle.oref_table.proofs.MakeLaws.{absent-beyond, rising-bound}
use Rattle.part_copies.specs.Copies.{Copies, part_object, objects_from, first_held, with_copies}
use Rattle.part_copies.specs.Holding.{AreLive, tighten_by, tightened}
use Rattle.part_copies.specs.Making.{AreCopies}
use Rattle.part_copies.specs.Sums.{numbers_from}
use Rattle.part_copies.proofs.HoldLaws.{tight-found, tight-outside}

-- ---- the numbers of new objects

numbers-absent : (k start : ℕ) (ns : List NewObj) → k ≤ start → times k (numbers_from start ns) ≡ 0
numbers-absent k start [] h = refl
numbers-absent k start (n ∷ ns) h =
    let off : (k == start + 1) ≡ false = ne_eqb k (start + 1) (λ (s : k ≡ start + 1). omega (arith, s, h)) in
    let rest : times k (numbers_from (start + 1) ns) ≡ 0 = numbers-absent k (start + 1) ns (omega (arith, h)) in
    rw off (omega (arith, rest))

numbers-once : (k start : ℕ) (ns : List NewObj) → start < k → k ≤ start + length ns → times k (numbers_from start ns) ≡ 1
numbers-once k start [] l h = absurd (omega (arith, l, h))
numbers-once k start (n ∷ ns) l h = by (k == start + 1) refl (λ more. numbers-once k (start + 1) ns more (omega (arith, h)))
  where
    by : (b : Bool) → (k == start + 1) ≡ b → (start + 1 < k → times k (numbers_from (start + 1) ns) ≡ 1) → cond b 1 0 + times k (numbers_from (start + 1) ns) ≡ 1
    by true is rest =
        let same : k ≡ start + 1 = eqb-true k (start + 1) is in
        let none : times k (numbers_from (start + 1) ns) ≡ 0 = numbers-absent k (start + 1) ns (omega (arith, same)) in
        omega (arith, none)
    by false is rest =
        let ne : k ≢ start + 1 = λ e. true≢false (sym (eq-eqb k (start + 1) e) ∙ is) in
        let once : times k (numbers_from (start + 1) ns) ≡ 1 = rest (omega (arith, l, ne)) in
        omega (arith, once)

-- ---- new objects behind the others

append-none : {X : Type 0} (xs : List X) → xs ++ [] ≡ xs
append-none [] = refl
append-none (x ∷ xs) = ap (λ ys. x ∷ ys) (append-none xs)

abbrev all_of : Memory → List Object → ℕ → Memory
all_of m os last = record { objects = os; last = last; freed = m.freed }

pub all-new : (m : Memory) (ns : List NewObj) → with_all m ns ≡ record { objects = m.objects ++ map tighten (objects_from m.last ns); last = m.last + length ns; freed = m.freed }
unfolding with_object
all-new m [] = ap (λ os. all_of m os m.last) (sym (append-none m.objects)) ∙ ap (λ k. all_of m (m.objects ++ []) k) (omega arith)
all-new m (n ∷ ns) =
    all-new (with_object m (fresh_of m n)) ns
    ∙ ap (λ os. all_of m os (m.last + 1 + length ns)) (append_assoc m.objects (fresh_of m n ∷ []) (map tighten (objects_from (m.last + 1) ns)))
    ∙ ap (λ k. all_of m (m.objects ++ map tighten (objects_from m.last (n ∷ ns))) k) (omega arith)

-- ---- who is found

pub found-front : (n : ℕ) (xs ys : List Object) (o : Object) → object_of n xs ≡ Some o → object_of n (xs ++ ys) ≡ Some o
found-front n [] ys o e = absurd (cc)
found-front n (x ∷ xs) ys o e = by (is_numbered n x) e (found-front n xs ys o)
  where
    by : (b : Bool) → cond b (Some x) (object_of n xs) ≡ Some o → (object_of n xs ≡ Some o → object_of n (xs ++ ys) ≡ Some o) → cond b (Some x) (object_of n (xs ++ ys)) ≡ Some o
    by true g rest = g
    by false g rest = rest g

pub found-back : (n : ℕ) (xs ys : List Object) → object_of n xs ≡ None → object_of n (xs ++ ys) ≡ object_of n ys
found-back n [] ys e = refl
found-back n (x ∷ xs) ys e = by (is_numbered n x) e (found-back n xs ys)
  where
    by : (b : Bool) → cond b (Some x) (object_of n xs) ≡ None → (object_of n xs ≡ None → object_of n (xs ++ ys) ≡ object_of n ys) → cond b (Some x) (object_of n (xs ++ ys)) ≡ object_of n ys
    by true g rest = absurd (cc)
    by false g rest = rest g

bounded : (first last : ℕ) (os : List Object) → AreRising first last os → AllByRecursion (λ (o : Object). o.number ≤ last) os
bounded first last [] r = tt
bounded first last (o ∷ os) r = (rising-bound o.number last os r.1, bounded o.number last os r.1)

found-bounded : (n first last : ℕ) (os : List Object) (o : Object) → AreRising first last os → object_of n os ≡ Some o → n ≤ last
found-bounded n first last [] o r e = absurd (cc)
found-bounded n first last (x ∷ os) o r e = by (is_numbered n x) refl e (found-bounded n x.number last os o r.1)
  where
    by : (b : Bool) → is_numbered n x ≡ b → cond b (Some x) (object_of n os) ≡ Some o → (object_of n os ≡ Some o → n ≤ last) → n ≤ last
    by true is g rest = let same : x.number ≡ n = eqb-true x.number n is in omega (arith, same, rising-bound x.number last os r.1)
    by false is g rest = rest g

new-outside : (n start : ℕ) (ns : List NewObj) → times n (numbers_from start ns) ≤ outside_part (object_of n (map tighten (objects_from start ns)))
new-outside n start [] = omega arith
new-outside n start (x ∷ ns) = by (n == start + 1) (start + 1 == n) refl refl (new-outside n (start + 1) ns)
  where
    by : (b c : Bool) → (n == start + 1) ≡ b → (start + 1 == n) ≡ c → times n (numbers_from (start + 1) ns) ≤ outside_part (object_of n (map tighten (objects_from (start + 1) ns)))
        → cond b 1 0 + times n (numbers_from (start + 1) ns) ≤ outside_part (cond c (Some (tighten (part_object (start + 1) x))) (object_of n (map tighten (objects_from (start + 1) ns))))
    by true true is si rest = let same : n ≡ start + 1 = eqb-true n (start + 1) is in let none : times n (numbers_from (start + 1) ns) ≡ 0 = numbers-absent n (start + 1) ns (omega (arith, same)) in omega (arith, none)
    by true false is si rest = absurd (true≢false (sym (eq-eqb (start + 1) n (sym (eqb-true n (start + 1) is))) ∙ si))
    by false true is si rest = absurd (true≢false (sym (eq-eqb n (start + 1) (sym (eqb-true (start + 1) n si))) ∙ is))
    by false false is si rest = omega (arith, rest)

pub dead-none : (m : Memory) (n : ℕ) (ns : List ℕ) → AreLive m ns → object_of n m.objects ≡ None → times n ns ≡ 0
unfolding AreLive
dead-none m n ns live gone = by (times n ns) refl
  where
    by : (t : ℕ) → times n ns ≡ t → times n ns ≡ 0
    by zero e = e
    by (suc t) e =
        let some : IsSome (object_of n m.objects) = live n (omega (arith, e)) in
        let none : IsSome {T = Object} None = subst (λ (x : Option Object). IsSome x) gone some in
        absurd (let f : false ≡ true = none in true≢false (sym f))

some-of : (x : Option Object) → IsSome x → (o : Object) × (x ≡ Some o)
some-of None h = absurd (cc)
some-of (Some o) h = (o, refl)

-- ---- each OREF of the copies finds its hold

pub enough : (m : Memory) (c : Copies ℕ) → AreCopies m c → (n : ℕ) → times n (refs_of_new c.made) ≤ outside_of (with_all (tightened m c.named) c.made) n
unfolding outside_of tightened
enough m c h n = by (object_of n m.objects) refl
  where
    held : Memory
    held = record m { objects = map (tighten_by c.named) m.objects }

    seen : outside_of (with_all held c.made) n ≡ outside_part (object_of n (held.objects ++ map tighten (objects_from m.last c.made)))
    seen = ap (λ (x : Memory). outside_part (object_of n x.objects)) (all-new held c.made)

    by : (x : Option Object) → object_of n m.objects ≡ x → times n (refs_of_new c.made) ≤ outside_of (with_all held c.made) n
    by (Some o) e =
        let live : IsSome (object_of n m.objects) = subst (λ (x : Option Object). IsSome x) (sym e) refl in
        let few : n ≤ m.last = found-bounded n 0 m.last m.objects o h.sound.rising e in
        let none : times n (numbers_from m.last c.made) ≡ 0 = numbers-absent n m.last c.made few in
        let there = some-of (object_of n held.objects) (tight-found m c.named n live) in
        let front : outside_part (object_of n (held.objects ++ map tighten (objects_from m.last c.made))) ≡ outside_part (object_of n held.objects)
        = ap outside_part (found-front n held.objects (map tighten (objects_from m.last c.made)) there.0 there.1) ∙ ap outside_part (sym there.1) in
        let out : outside_part (object_of n held.objects) ≡ outside_part (object_of n m.objects) + times n c.named = tight-outside m c.named n live in
        omega (arith, h.adds.even n, none, seen, front, out)
    by None e =
        let named : times n c.named ≡ 0 = dead-none m n c.named h.live e in
        let gone : object_of n held.objects ≡ None = still-gone m.objects e in
        let back : outside_part (object_of n (held.objects ++ map tighten (objects_from m.last c.made))) ≡ outside_part (object_of n (map tighten (objects_from m.last c.made)))
        = ap outside_part (found-back n held.objects (map tighten (objects_from m.last c.made)) gone) in
        omega (arith, h.adds.even n, named, seen, back, new-outside n m.last c.made)
      where
        still-gone : (os : List Object) → object_of n os ≡ None → object_of n (map (tighten_by c.named) os) ≡ None
        still-gone [] e = e
        still-gone (o ∷ os) e = at (is_numbered n o) e (still-gone os)
          where
            at : (b : Bool) → cond b (Some o) (object_of n os) ≡ None → (object_of n os ≡ None → object_of n (map (tighten_by c.named) os) ≡ None) → cond b (Some (tighten_by c.named o)) (object_of n (map (tighten_by c.named) os)) ≡ None
            at true g rest = absurd (cc)
            at false g rest = rest g

-- ---- what memory is then

with_outside : Object → ℕ → Object
with_outside o k = record o { outside = k }

old-same : (m : Memory) (c : Copies ℕ) → AreCopies m c → (os : List Object) → AllByRecursion (λ (o : Object). o.number ≤ m.last) os → loosened (refs_of_new c.made) (map (tighten_by c.named) os) ≡ os
unfolding with_outside
old-same m c h [] b = refl
old-same m c h (o ∷ os) b =
    let off : (o.number == c.copy) ≡ false = ne_eqb o.number c.copy (λ (s : o.number ≡ c.copy). let l : o.number ≤ m.last = b.0 in omega (arith, s, h.first, l)) in
    let copy : times o.number (c.copy ∷ []) ≡ 0 = rw off refl in
    let none : times o.number (numbers_from m.last c.made) ≡ 0 = numbers-absent o.number m.last c.made b.0 in
    let same : (o.outside + times o.number c.named) - times o.number (refs_of_new c.made) ≡ o.outside = omega (arith, h.adds.even o.number, copy, none) in
    ap (λ k. with_outside o k ∷ loosened (refs_of_new c.made) (map (tighten_by c.named) os)) same ∙ ap (λ ps. o ∷ ps) (old-same m c h os b.1)

inner-free : (rs : List ℕ) (start : ℕ) (ns : List NewObj) → ((k : ℕ) → start < k → k ≤ start + length ns → times k rs ≡ 1) → loosened rs (map tighten (objects_from start ns)) ≡ objects_from start ns
unfolding with_outside
inner-free rs start [] once = refl
inner-free rs start (n ∷ ns) once =
    let none : 1 - times (start + 1) rs ≡ 0 = omega (arith, once (start + 1) (omega arith) (omega arith)) in
    ap (λ k. with_outside (part_object (start + 1) n) k ∷ loosened rs (map tighten (objects_from (start + 1) ns))) none
    ∙ ap (λ os. part_object (start + 1) n ∷ os) (inner-free rs (start + 1) ns (λ k l h. once k (omega (arith, l)) (omega (arith, h))))

new-same : (m : Memory) (c : Copies ℕ) → AreCopies m c → (ns : List NewObj) → c.made ≡ ns → loosened (refs_of_new c.made) (map tighten (objects_from m.last ns)) ≡ first_held (objects_from m.last ns)
unfolding with_outside
new-same m c h [] is = refl
new-same m c h (n ∷ ns) is =
    let rs : List ℕ = refs_of_new c.made in
    let far : (k : ℕ) → m.last < k → times k c.named ≡ 0 = λ k l. dead-none m k c.named h.live (absent-beyond k 0 m.last m.objects h.sound.rising l) in
    let long : length c.made ≡ suc (length ns) = ap (λ xs. length xs) is in
    let numbers : (k : ℕ) → m.last < k → k ≤ m.last + suc (length ns) → times k (numbers_from m.last c.made) ≡ 1 = λ k l b. numbers-once k m.last c.made l (omega (arith, b, long)) in
    let on : (m.last + 1 == c.copy) ≡ true = eq-eqb (m.last + 1) c.copy (sym h.first) in
    let itself : times (m.last + 1) (c.copy ∷ []) ≡ 1 = rw on refl in
    let first : times (m.last + 1) rs ≡ 0 = omega (arith, h.adds.even (m.last + 1), itself, far (m.last + 1) (omega arith), numbers (m.last + 1) (omega arith) (omega arith)) in
    let one : 1 - times (m.last + 1) rs ≡ 1 = omega (arith, first) in
    let others : (k : ℕ) → m.last + 1 < k → k ≤ m.last + 1 + length ns → times k rs ≡ 1 = λ k l b.
    let off : (k == c.copy) ≡ false = ne_eqb k c.copy (λ (s : k ≡ c.copy). omega (arith, s, h.first, l)) in
    let none : times k (c.copy ∷ []) ≡ 0 = rw off refl in
    omega (arith, h.adds.even k, none, far k (omega (arith, l)), numbers k (omega (arith, l)) (omega (arith, b))) in
    ap (λ k. with_outside (part_object (m.last + 1) n) k ∷ loosened rs (map tighten (objects_from (m.last + 1) ns))) one
    ∙ ap (λ os. tighten (part_object (m.last + 1) n) ∷ os) (inner-free rs (m.last + 1) ns others)

pub copied-memory : (m m1 m2 : Memory) (c : Copies ℕ) → AreCopies m c → m1 ≡ tightened m c.named → m2 ≡ loosed (with_all m1 c.made) (refs_of_new c.made) → m2 ≡ with_copies m c
unfolding tightened loosed
copied-memory m m1 m2 c h tight made =
    let rs : List ℕ = refs_of_new c.made in
    let held : Memory = record m { objects = map (tighten_by c.named) m.objects } in
    made
    ∙ ap (λ (x : Memory). loosed (with_all x c.made) rs) tight
    ∙ ap (λ (x : Memory). loosed x rs) (all-new held c.made)
    ∙ ap (λ os. all_of m os (m.last + length c.made))
    (map-append (loosen rs) (map (tighten_by c.named) m.objects) (map tighten (objects_from m.last c.made))
    ∙ ap (λ os. os ++ loosened rs (map tighten (objects_from m.last c.made))) (old-same m c h m.objects (bounded 0 m.last m.objects h.sound.rising))
    ∙ ap (λ os. m.objects ++ os) (new-same m c h c.made refl))
    ∙ ap (λ k. all_of m (m.objects ++ first_held (objects_from m.last c.made)) k) (sym h.adds.long)

-- ---- holds outside with copies

inner-outside : (k start : ℕ) (ns : List NewObj) → outside_part (object_of k (objects_from start ns)) ≡ 0
inner-outside k start [] = refl
inner-outside k start (n ∷ ns) = by (is_numbered k (part_object (start + 1) n)) (inner-outside k (start + 1) ns)
  where
    by : (b : Bool) → outside_part (object_of k (objects_from (start + 1) ns)) ≡ 0 → outside_part (cond b (Some (part_object (start + 1) n)) (object_of k (objects_from (start + 1) ns))) ≡ 0
    by true rest = refl
    by false rest = rest

first-outside : (k start : ℕ) (n : NewObj) (ns : List NewObj) → outside_part (object_of k (first_held (objects_from start (n ∷ ns)))) ≡ times k ((start + 1) ∷ [])
first-outside k start n ns = by (start + 1 == k) (k == start + 1) refl refl (inner-outside k (start + 1) ns)
  where
    by : (b c : Bool) → (start + 1 == k) ≡ b → (k == start + 1) ≡ c → outside_part (object_of k (objects_from (start + 1) ns)) ≡ 0
        → outside_part (cond b (Some (tighten (part_object (start + 1) n))) (object_of k (objects_from (start + 1) ns))) ≡ cond c 1 0 + 0
    by true true is si rest = refl
    by true false is si rest = absurd (true≢false (sym (eq-eqb k (start + 1) (sym (eqb-true (start + 1) k is))) ∙ si))
    by false true is si rest = absurd (true≢false (sym (eq-eqb (start + 1) k (sym (eqb-true k (start + 1) si))) ∙ is))
    by false false is si rest = rest

pub copies-outside : (m : Memory) (c : Copies ℕ) (n : NewObj) (ns : List NewObj) → IsSound m → c.made ≡ n ∷ ns → (k : ℕ) → outside_of (with_copies m c) k ≡ outside_of m k + times k ((m.last + 1) ∷ [])
unfolding outside_of
copies-outside m c n ns s is k = by (object_of k m.objects) refl
  where
    fresh : outside_part (object_of k (first_held (objects_from m.last c.made))) ≡ times k ((m.last + 1) ∷ [])
    fresh = ap (λ xs. outside_part (object_of k (first_held (objects_from m.last xs)))) is ∙ first-outside k m.last n ns

    by : (x : Option Object) → object_of k m.objects ≡ x → outside_part (object_of k (m.objects ++ first_held (objects_from m.last c.made))) ≡ outside_part (object_of k m.objects) + times k ((m.last + 1) ∷ [])
    by (Some o) e =
        let few : k ≤ m.last = found-bounded k 0 m.last m.objects o s.rising e in
        let off : (k == m.last + 1) ≡ false = ne_eqb k (m.last + 1) (λ (t : k ≡ m.last + 1). omega (arith, t, few)) in
        let none : times k ((m.last + 1) ∷ []) ≡ 0 = rw off refl in
        omega (arith, ap outside_part (found-front k m.objects (first_held (objects_from m.last c.made)) o e), ap outside_part e, none)
    by None e = omega (arith, ap outside_part (found-back k m.objects (first_held (objects_from m.last c.made)) e), ap outside_part e, fresh)
