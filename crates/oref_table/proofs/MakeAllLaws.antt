-- Objects that are made together, and those that are taken out again.
use Rattle.std.proofs.Common.{◌≡◌, ℕ, suc, ◌+◌, ◌-◌, ◌==◌, ◌<◌, ◌≤◌, cond, Bool, true, false, Option, Some, None, IfSome, IfNone, List, [], ◌∷◌, ◌++◌, length, refl, ap, sym, subst, ◌∙◌, arith, length-append, append_assoc}
use Rattle.std.specs.List.{AllByRecursion}
use Rattle.std.proofs.lemmas.Bool.{eq-eqb, ne_eqb}
use Rattle.std.proofs.lemmas.List.{map-append}
use Rattle.obj_kinds.specs.declared.name.ClassName.{ClassName}
use Rattle.obj_kinds.specs.declared.id.Id.{Id}
use Rattle.oref_table.specs.declared.obj.Entry.{Entry}
use Rattle.oref_table.specs.declared.obj.Freed.{Freed}
use Rattle.oref_table.specs.declared.obj.NewObj.{NewObj}
use Rattle.oref_table.specs.Refs.{times, refs_in}
use Rattle.oref_table.specs.Memory.{Object, Memory, refs_among, object_of, outside_of, outside_part, is_numbered, loosened, loosed, with_object, first_that, without_first}
use Rattle.oref_table.specs.Entries.{refs_all, entry_refs, lower_by, lowered, seen_one, seen_by, seen, IsCounted, AreCounted, HasHolder, is_uncounted}
use Rattle.oref_table.specs.Sound.{AreRising, IsFree, AreSingle, IsSound}
use Rattle.oref_table.specs.Stands.{memory_of, IsTable}
use Rattle.oref_table.specs.Making.{fresh_of, with_all, refs_of_new, entry_of_new, new_entries}
use Rattle.oref_table.proofs.Counting.{IsAccount, IsCovered, account, counted-after, refs-seen}
use Rattle.oref_table.proofs.AlikeLaws.{sound-loosed}
use Rattle.oref_table.proofs.Lowered.{times-append, lowered-none}
use Rattle.oref_table.proofs.MakeLaws.{IsMade, absent-beyond}

-- ---- lists

pub append-none : {X : Type 0} (xs : List X) → xs ++ [] ≡ xs
append-none [] = refl
append-none (x ∷ xs) = ap (λ ys. x ∷ ys) (append-none xs)

pub all-both : {X : Type 0} (P : X → Type 0) (xs ys : List X) → AllByRecursion P xs → AllByRecursion P ys → AllByRecursion P (xs ++ ys)
all-both P [] ys h k = k
all-both P (x ∷ xs) ys h k = (h.0, all-both P xs ys h.1 k)

all-weaker : {X : Type 0} (P Q : X → Type 0) → ((x : X) → P x → Q x) → (xs : List X) → AllByRecursion P xs → AllByRecursion Q xs
all-weaker P Q f [] h = tt
all-weaker P Q f (x ∷ xs) h = (f x h.0, all-weaker P Q f xs h.1)

-- a list that has an item has a last one
pub has-last : {X : Type 0} (xs : List X) → 0 < length xs → (ys : List X) × (y : X) × (xs ≡ ys ++ y ∷ [])
has-last [] h = absurd (omega arith)
has-last (x ∷ []) h = ([], x, refl)
has-last (x ∷ (y ∷ ys)) h = let l = has-last (y ∷ ys) (omega arith) in (x ∷ l.0, l.1, ap (λ ws. x ∷ ws) l.2)

-- ---- entries of new objects

pub entries-more : (last : ℕ) (ns : List NewObj) (n : NewObj) → new_entries last (ns ++ n ∷ []) ≡ new_entries last ns ++ entry_of_new (last + length ns + 1) n ∷ []
entries-more last [] n = ap (λ k. entry_of_new k n ∷ []) (omega arith)
entries-more last (m ∷ ns) n =
    ap (λ es. entry_of_new (last + 1) m ∷ es)
    (entries-more (last + 1) ns n ∙ ap (λ k. new_entries (last + 1) ns ++ entry_of_new k n ∷ []) (omega arith))

pub new-held : (last : ℕ) (ns : List NewObj) → AllByRecursion HasHolder (new_entries last ns)
new-held last [] = tt
new-held last (n ∷ ns) = (omega arith, new-held (last + 1) ns)

new-below : (last : ℕ) (ns : List NewObj) → AllByRecursion (λ (e : Entry). e.number < last + length ns + 1) (new_entries last ns)
new-below last [] = tt
new-below last (n ∷ ns) = (omega arith, all-weaker (λ (e : Entry). e.number < last + 1 + length ns + 1) (λ (e : Entry). e.number < last + suc (length ns) + 1) (λ e h. omega (arith, h)) (new_entries (last + 1) ns) (new-below (last + 1) ns))

-- all entries so far are below the next number
pub below-more : (last : ℕ) (es : List Entry) (ns : List NewObj) → AllByRecursion (λ (e : Entry). e.number < last + 1) es → AllByRecursion (λ (e : Entry). e.number < last + length ns + 1) (es ++ new_entries last ns)
below-more last es ns h =
    all-both (λ (e : Entry). e.number < last + length ns + 1) es (new_entries last ns)
    (all-weaker (λ (e : Entry). e.number < last + 1) (λ (e : Entry). e.number < last + length ns + 1) (λ e l. omega (arith, l)) es h)
    (new-below last ns)

pub below-next : (last number : ℕ) (es : List Entry) (ns : List NewObj) → number ≡ last + length ns → AllByRecursion (λ (e : Entry). e.number < last + 1) es → AllByRecursion (λ (e : Entry). e.number < number + 1) (es ++ new_entries last ns)
below-next last number es ns is h = subst (λ k. AllByRecursion (λ (e : Entry). e.number < k + 1) (es ++ new_entries last ns)) (sym is) (below-more last es ns h)

-- one more is added
pub more-added : (last number : ℕ) (es now then : List Entry) (ns : List NewObj) (n : NewObj) → number ≡ last + length ns → now ≡ es ++ new_entries last ns → then ≡ now ++ entry_of_new (number + 1) n ∷ [] → then ≡ es ++ new_entries last (ns ++ n ∷ [])
more-added last number es now then ns n is at add =
    add ∙ ap (λ xs. xs ++ entry_of_new (number + 1) n ∷ []) at
    ∙ append_assoc es (new_entries last ns) (entry_of_new (number + 1) n ∷ [])
    ∙ ap (λ k. es ++ (new_entries last ns ++ entry_of_new (k + 1) n ∷ [])) is
    ∙ ap (λ xs. es ++ xs) (sym (entries-more last ns n))

-- ---- the last one is taken out again

with_count : Entry → ℕ → Entry
with_count e k = record e { obj = record e.obj { count = k } }

lower-other : (number : ℕ) (e : Entry) → e.number < number → lower_by (number ∷ []) e ≡ e
unfolding with_count
lower-other number e lt =
    let off : (e.number == number) ≡ false = ne_eqb e.number number (λ (s : e.number ≡ number). omega arith) in
    let same : e.obj.count - times e.number (number ∷ []) ≡ e.obj.count = rw off (omega arith) in
    ap (with_count e) same

counted : (number : ℕ) (e : Entry) → e.number < number → HasHolder e → is_uncounted (lower_by (number ∷ []) e) ≡ false
counted number e lt held =
    let off : (e.obj.count == 0) ≡ false = ne_eqb e.obj.count 0 (λ (s : e.obj.count ≡ 0). omega arith) in
    ap is_uncounted (lower-other number e lt) ∙ off

uncounted : (number : ℕ) (n : NewObj) → is_uncounted (lower_by (number ∷ []) (entry_of_new number n)) ≡ true
uncounted number n =
    let on : (number == number) ≡ true = eq-eqb number number refl in
    let none : 1 - times number (number ∷ []) ≡ 0 = rw on (omega arith) in
    eq-eqb (1 - times number (number ∷ [])) 0 none

without-last : (number : ℕ) (n : NewObj) (es : List Entry) → AllByRecursion HasHolder es → AllByRecursion (λ (e : Entry). e.number < number) es
    → without_first is_uncounted (lowered (number ∷ []) (es ++ entry_of_new number n ∷ [])) ≡ es
without-last number n [] held below = rw (uncounted number n) refl
without-last number n (e ∷ es) held below =
    rw (counted number e below.0 held.0)
    (ap (λ x. x ∷ without_first is_uncounted (lowered (number ∷ []) (es ++ entry_of_new number n ∷ []))) (lower-other number e below.0)
    ∙ ap (λ xs. e ∷ xs) (without-last number n es held.1 below.1))

none-without : {X : Type 0} (p : X → Bool) (xs : List X) → first_that p xs ≡ None → without_first p xs ≡ xs
none-without p [] h = refl
none-without p (x ∷ xs) h = by (p x) h (none-without p xs)
  where
    by : (b : Bool) → cond b (Some x) (first_that p xs) ≡ None → (first_that p xs ≡ None → without_first p xs ≡ xs) → cond b xs (x ∷ without_first p xs) ≡ x ∷ xs
    by true g rest = absurd (cc)
    by false g rest = ap (λ ys. x ∷ ys) (rest g)

out-or-none : (r : Option Entry) (old new : List Entry) → IfSome r (λ e. (first_that is_uncounted old ≡ Some e) × (new ≡ without_first is_uncounted old)) → IfNone r ((new ≡ old) × (first_that is_uncounted old ≡ None))
    → new ≡ without_first is_uncounted old
out-or-none None old new some none = none.0 ∙ sym (none-without is_uncounted old none.1)
out-or-none (Some e) old new some none = some.1

pub last-out : (number : ℕ) (r : Option Entry) (old lower new es : List Entry) (n : NewObj) → lower ≡ lowered (number ∷ []) old
    → IfSome r (λ e. (first_that is_uncounted lower ≡ Some e) × (new ≡ without_first is_uncounted lower)) → IfNone r ((new ≡ lower) × (first_that is_uncounted lower ≡ None))
    → old ≡ es ++ entry_of_new number n ∷ [] → AllByRecursion HasHolder es → AllByRecursion (λ (e : Entry). e.number < number) es → new ≡ es
last-out number r old lower new es n lowers some none is held below =
    out-or-none r lower new some none
    ∙ ap (without_first is_uncounted) (lowers ∙ ap (lowered (number ∷ [])) is)
    ∙ without-last number n es held below

-- ---- and so all of them

abbrev pub IsBack : ℕ → ℕ → List Entry → List Entry → Type 0
IsBack last left es now = (ks : List NewObj) × (now ≡ es ++ new_entries last ks) × (left ≡ last + length ks)

pub back-more : (last left : ℕ) (es now then : List Entry) → last < left → IsBack last left es now → AllByRecursion HasHolder es → AllByRecursion (λ (e : Entry). e.number < last + 1) es
    → ((xs : List Entry) (n : NewObj) → now ≡ xs ++ entry_of_new left n ∷ [] → AllByRecursion HasHolder xs → AllByRecursion (λ (e : Entry). e.number < left) xs → then ≡ xs) → IsBack last (left - 1) es then
back-more last left es now then more b held below out =
    let l = has-last b.0 (omega (arith, b.2, more)) in
    let long : length b.0 ≡ length l.0 + 1 = ap (λ xs. length xs) l.2 ∙ length-append l.0 (l.1 ∷ []) ∙ omega arith in
    let number : last + length l.0 + 1 ≡ left = omega (arith, b.2, long) in
    let is : now ≡ (es ++ new_entries last l.0) ++ entry_of_new left l.1 ∷ [] =
    b.1 ∙ ap (λ ks. es ++ new_entries last ks) l.2 ∙ ap (λ xs. es ++ xs) (entries-more last l.0 l.1)
    ∙ ap (λ k. es ++ (new_entries last l.0 ++ entry_of_new k l.1 ∷ [])) number
    ∙ sym (append_assoc es (new_entries last l.0) (entry_of_new left l.1 ∷ [])) in (
      l.0,
      out (es ++ new_entries last l.0) l.1 is (all-both HasHolder es (new_entries last l.0) held (new-held last l.0)) (subst (λ k. AllByRecursion (λ (e : Entry). e.number < k) (es ++ new_entries last l.0)) number (below-more last es l.0 below)),
      omega (arith, number),
    )

pub back-end : (last left : ℕ) (es now : List Entry) → left ≤ last → IsBack last left es now → now ≡ es
back-end last left es now end b = by b.0 b.1 b.2
  where
    by : (ks : List NewObj) → now ≡ es ++ new_entries last ks → left ≡ last + length ks → now ≡ es
    by [] is e = is ∙ append-none es
    by (k ∷ ks) is e = absurd (omega (arith, e, end))

-- ---- what is seen of them

refs-of-entries : (last : ℕ) (ns : List NewObj) → refs_all (new_entries last ns) ≡ refs_of_new ns
refs-of-entries last [] = refl
refs-of-entries last (n ∷ ns) = ap (λ rs. refs_in n.slots ++ rs) (refs-of-entries (last + 1) ns)

refs-both : (xs ys : List Entry) → refs_all (xs ++ ys) ≡ refs_all xs ++ refs_all ys
refs-both [] ys = refl
refs-both (x ∷ xs) ys = ap (λ rs. entry_refs x ++ rs) (refs-both xs ys) ∙ sym (append_assoc (entry_refs x) (refs_all xs) (refs_all ys))

abbrev seen_in : List ℕ → List Entry → ℕ → List Freed → Memory
seen_in refs es last fs = record { objects = seen_by refs es; last = last; freed = fs }

with_outside : Object → ℕ → Object
with_outside o k = record o { outside = k }

one-seen : (refs : List ℕ) (es : List Entry) (last : ℕ) (fs : List Freed) (n : NewObj) → times (last + 1) refs ≡ 0 → seen_one refs (entry_of_new (last + 1) n) ≡ fresh_of (seen_in refs es last fs) n
unfolding with_outside
one-seen refs es last fs n absent = let one : 1 - times (last + 1) refs ≡ 1 = omega (arith, absent) in ap (with_outside (fresh_of (seen_in refs es last fs) n)) one

all-seen : (refs : List ℕ) (es : List Entry) (last : ℕ) (fs : List Freed) (ns : List NewObj) → ((k : ℕ) → last < k → times k refs ≡ 0) → with_all (seen_in refs es last fs) ns ≡ seen_in refs (es ++ new_entries last ns) (last + length ns) fs
unfolding with_object
all-seen refs es last fs [] absent = ap (λ xs. seen_in refs xs last fs) (sym (append-none es)) ∙ ap (λ k. seen_in refs (es ++ []) k fs) (omega arith)
all-seen refs es last fs (n ∷ ns) absent =
    let e : Entry = entry_of_new (last + 1) n in
    let objects : seen_by refs es ++ fresh_of (seen_in refs es last fs) n ∷ [] ≡ seen_by refs (es ++ e ∷ [])
    = ap (λ o. seen_by refs es ++ o ∷ []) (sym (one-seen refs es last fs n (absent (last + 1) (omega arith)))) ∙ sym (map-append (seen_one refs) es (e ∷ [])) in
    ap (λ os. with_all (record { objects = os; last = last + 1; freed = fs }) ns) objects
    ∙ all-seen refs (es ++ e ∷ []) (last + 1) fs ns (λ k l. absent k (omega (arith, l)))
    ∙ ap (λ xs. seen_in refs xs (last + 1 + length ns) fs) (append_assoc es (e ∷ []) (new_entries (last + 1) ns))
    ∙ ap (λ k. seen_in refs (es ++ new_entries last (n ∷ ns)) k fs) (omega arith)

-- each object of a list in rising order is found by its number
later : (n first last : ℕ) (os : List Object) → AreRising first last os → n ≤ first → AllByRecursion (λ (o : Object). n < o.number) os
later n first last [] r h = tt
later n first last (o ∷ os) r h = (omega (arith, r.0, h), later n o.number last os r.1 (omega (arith, r.0, h)))

found-each : (first last : ℕ) (os : List Object) → AreRising first last os → AllByRecursion (λ (o : Object). object_of o.number os ≡ Some o) os
found-each first last [] r = tt
found-each first last (o ∷ os) r =
    (rw (eq-eqb o.number o.number refl) refl, under os (later o.number o.number last os r.1 (omega arith)) (found-each o.number last os r.1))
  where
    under : (ps : List Object) → AllByRecursion (λ (p : Object). o.number < p.number) ps → AllByRecursion (λ (p : Object). object_of p.number os ≡ Some p) ps → AllByRecursion (λ (p : Object). object_of p.number (o ∷ os) ≡ Some p) ps
    under [] l h = tt
    under (p ∷ ps) l h =
        let off : is_numbered p.number o ≡ false = ne_eqb o.number p.number (λ (s : o.number ≡ p.number). let lt : o.number < p.number = l.0 in omega (arith, s, lt)) in
        (rw off h.0, under ps l.1 h.1)

rising-more : (first last : ℕ) (os : List Object) (o : Object) → AreRising first last os → o.number ≡ last + 1 → AreRising first (last + 1) (os ++ o ∷ [])
rising-more first last [] o r is = (omega (arith, is, r), omega (arith, is))
rising-more first last (p ∷ os) o r is = (r.0, rising-more p.number last os o r.1 is)

all-rising : (m : Memory) (ns : List NewObj) → AreRising 0 m.last m.objects → AreRising 0 (with_all m ns).last (with_all m ns).objects
unfolding with_object
all-rising m [] r = r
all-rising m (n ∷ ns) r = all-rising (with_object m (fresh_of m n)) ns (rising-more 0 m.last m.objects (fresh_of m n) r refl)

free-more : (extent : ClassName) (id : Id) (os : List Object) (o : Object) → IsFree extent id os → o.id ≡ None → IsFree extent id (os ++ o ∷ [])
free-more extent id [] o h e = ((λ k. let id_is = k.1 in absurd (cc)), tt)
free-more extent id (p ∷ os) o h e = (h.0, free-more extent id os o h.1 e)

single-more : (os : List Object) (o : Object) → AreSingle os → o.id ≡ None → AreSingle (os ++ o ∷ [])
single-more [] o h e = ((λ extent id k. tt), tt)
single-more (p ∷ os) o h e = ((λ extent id k. free-more extent id os o (h.0 extent id k) e), single-more os o h.1 e)

all-single : (m : Memory) (ns : List NewObj) → AreSingle m.objects → AreSingle (with_all m ns).objects
unfolding with_object
all-single m [] h = h
all-single m (n ∷ ns) h = all-single (with_object m (fresh_of m n)) ns (single-more m.objects (fresh_of m n) h refl)

-- ---- each OREF in their slots takes a hold

covers : (refs loose : List ℕ) (w : Memory) → ((n : ℕ) → times n loose ≤ outside_of w n) → (es : List Entry) → AllByRecursion (IsCounted refs) es → AllByRecursion (λ (o : Object). object_of o.number w.objects ≡ Some o) (seen_by refs es) → AllByRecursion (IsCovered refs loose) es
unfolding outside_of
covers refs loose w enough [] counted found = tt
covers refs loose w enough (e ∷ es) counted found =
    let held : outside_of w e.number ≡ e.obj.count - times e.number refs = ap outside_part found.0 in
    (omega (arith, enough e.number, held, counted.0), covers refs loose w enough es counted.1 found.1)

counted-new : (refs : List ℕ) (last : ℕ) (ns : List NewObj) → ((k : ℕ) → last < k → times k refs ≡ 0) → AllByRecursion (IsCounted refs) (new_entries last ns)
counted-new refs last [] absent = tt
counted-new refs last (n ∷ ns) absent = (omega (arith, absent (last + 1) (omega arith)), counted-new refs (last + 1) ns (λ k l. absent k (omega (arith, l))))

new-long : (last : ℕ) (ks : List NewObj) → length (new_entries last ks) ≡ length ks
new-long last [] = refl
new-long last (k ∷ ks) = omega (arith, new-long (last + 1) ks)

push-gone : (n : ℕ) (os : List Object) (o : Object) → object_of n (os ++ o ∷ []) ≡ None → object_of n os ≡ None
push-gone n [] o e = refl
push-gone n (p ∷ os) o e = by (is_numbered n p) e (push-gone n os o)
  where
    by : (b : Bool) → cond b (Some p) (object_of n (os ++ o ∷ [])) ≡ None → (object_of n (os ++ o ∷ []) ≡ None → object_of n os ≡ None) → cond b (Some p) (object_of n os) ≡ None
    by true g rest = absurd (cc)
    by false g rest = rest g

old-gone : (m : Memory) (ks : List NewObj) (n : ℕ) → object_of n (with_all m ks).objects ≡ None → object_of n m.objects ≡ None
unfolding with_object
old-gone m [] n e = e
old-gone m (k ∷ ks) n e = push-gone n m.objects (fresh_of m k) (old-gone (with_object m (fresh_of m k)) ks n e)

pub make-all : (es : List Entry) (last : ℕ) (fs : List Freed) (places more : ℕ) (ns : List NewObj) → IsTable es last fs places → ((n : ℕ) → times n (refs_of_new ns) ≤ outside_of (with_all (memory_of es last fs) ns) n)
    → length es + length ns + length fs ≤ more → IsMade (loosed (with_all (memory_of es last fs) ns) (refs_of_new ns)) (es ++ new_entries last ns) (last + length ns) fs more
unfolding AreCounted loosed outside_of
make-all es last fs places more ns t enough room =
    let m : Memory = memory_of es last fs in
    let refs : List ℕ = refs_all es in
    let loose : List ℕ = refs_of_new ns in
    let new : List Entry = es ++ new_entries last ns in
    let all : List ℕ = refs_all new in
    let absent : (k : ℕ) → last < k → times k refs ≡ 0 = λ k l. ap (times k) (sym (refs-seen refs es)) ∙ t.sound.closed k (absent-beyond k 0 last (seen es) t.sound.rising l) in
    let whole : with_all m ns ≡ seen_in refs new (last + length ns) fs = all-seen refs es last fs ns absent in
    let are : all ≡ refs ++ loose = refs-both es (new_entries last ns) ∙ ap (λ rs. refs ++ rs) (refs-of-entries last ns) in
    let even : IsAccount refs all [] loose = record { even = λ n. omega (arith, ap (times n) are, times-append n refs loose) } in
    let objects : seen new ≡ loosened loose (seen_by refs new) = ap (seen_by all) (sym (lowered-none new)) ∙ account refs all [] loose even new in
    let is : memory_of new (last + length ns) fs ≡ loosed (with_all m ns) loose =
    ap (λ os. record { objects = os; last = last + length ns; freed = fs }) objects ∙ ap (λ (w : Memory). loosed w loose) (sym whole) in
    let rising : AreRising 0 (with_all m ns).last (with_all m ns).objects = all-rising m ns t.sound.rising in
    let found : AllByRecursion (λ (o : Object). object_of o.number (with_all m ns).objects ≡ Some o) (with_all m ns).objects = found-each 0 (with_all m ns).last (with_all m ns).objects rising in
    let found_seen : AllByRecursion (λ (o : Object). object_of o.number (with_all m ns).objects ≡ Some o) (seen_by refs new)
    = subst (λ (w : Memory). AllByRecursion (λ (o : Object). object_of o.number (with_all m ns).objects ≡ Some o) w.objects) whole found in
    let counted_all : AllByRecursion (IsCounted refs) new = all-both (IsCounted refs) es (new_entries last ns) t.counted (counted-new refs last ns absent) in
    let covered : AllByRecursion (IsCovered refs loose) new = covers refs loose (with_all m ns) enough new counted_all found_seen in
    let counted_new : AllByRecursion (IsCounted all) new = subst (λ (xs : List Entry). AllByRecursion (IsCounted all) xs) (lowered-none new) (counted-after refs all [] loose even new covered) in
    let refs_are : refs_among (with_all m ns).objects ≡ all = ap (λ (w : Memory). refs_among w.objects) whole ∙ refs-seen refs new in
    let closed : (n : ℕ) → object_of n (with_all m ns).objects ≡ None → times n (refs_among (with_all m ns).objects) ≡ 0 = λ n e.
    let gone : outside_of (with_all m ns) n ≡ 0 = ap outside_part e in
    let old : object_of n (seen es) ≡ None = old-gone m ns n e in
    ap (times n) (refs_are ∙ are) ∙ (omega (arith, times-append n refs loose, enough n, gone, ap (times n) (refs-seen refs es), t.sound.closed n old)) in
    let sound : IsSound (loosed (with_all m ns) loose) = sound-loosed (with_all m ns) loose (record { rising = rising; closed = closed; single = all-single m ns t.sound.single }) in
    record { is = is; stands = record { counted = counted_new; sound = subst IsSound (sym is) sound; held = all-both HasHolder es (new_entries last ns) t.held (new-held last ns); room = omega (arith, length-append es (new_entries last ns), new-long last ns, room) } }
