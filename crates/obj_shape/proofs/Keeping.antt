-- A table that fits the schema still does behind each step of a change.
use Rattle.std.proofs.Common.{◌≡◌, ◌≢◌, ◌<◌, ◌≤◌, ℕ, zero, suc, ◌+◌, ◌==◌, cond, Bool, true, false, List, [], ◌∷◌, ◌++◌, map, length, Option, None, Some, refl, ap, sym, subst, ◌∙◌, arith}
use Rattle.std.proofs.lemmas.Bool.{eqb-true, eq-eqb}
use Rattle.std.specs.List.{AllByRecursion}
use Rattle.schema_kinds.specs.declared.class.Class.{Class}
use Rattle.oref_table.specs.Refs.{times, refs_in}
use Rattle.oref_table.specs.Memory.{Object, Memory, object_of, is_numbered, at_first, changed, edited, first_that, without_first, refs_among, loosen, loosened, loosed, with_object}
use Rattle.oref_table.specs.Sound.{AreRising, IsSound}
use Rattle.oref_table.specs.Dropping.{is_unheld, first_unheld, one_less, left_after, dropped}
use Rattle.oref_table.proofs.SoundLaws.{all-less, rising-less}
use Rattle.oref_table.proofs.OrderLaws.{object-number}
use Rattle.obj_shape.specs.Fitting.{FitsSchema, TableFits}
use Rattle.obj_shape.proofs.Moves.{Agrees, object-moves, objects-move}

-- ---- one object is changed

module _ (n : ℕ) (f : Object → Object) where
  changed-step : (x : Object) (os w : List Object) (k : ℕ) (t : Object) (b : Bool) → (f x).number ≡ x.number → (f x).class ≡ x.class
      → (object_of k os ≡ Some t → (u : Object) × (object_of k w ≡ Some u) × (u.class ≡ t.class))
      → object_of k (x ∷ os) ≡ Some t → (u : Object) × (object_of k (cond b (f x ∷ os) (x ∷ w)) ≡ Some u) × (u.class ≡ t.class)
  changed-step x os w k t true num same rest e = by (is_numbered k x) refl e
    where
      by : (b : Bool) → is_numbered k x ≡ b → cond b (Some x) (object_of k os) ≡ Some t → (u : Object) × (object_of k (f x ∷ os) ≡ Some u) × (u.class ≡ t.class)
      by true is g =
          let there : is_numbered k (f x) ≡ true = ap (λ j. j == k) num ∙ is in
          let as_is : x ≡ t = cc in
          (f x, rw there refl, same ∙ ap (λ (o : Object). o.class) as_is)
      by false is g =
          let other : is_numbered k (f x) ≡ false = ap (λ j. j == k) num ∙ is in
          (t, rw other g, refl)
  changed-step x os w k t false num same rest e = by (is_numbered k x) refl e
    where
      by : (b : Bool) → is_numbered k x ≡ b → cond b (Some x) (object_of k os) ≡ Some t → (u : Object) × (object_of k (x ∷ w) ≡ Some u) × (u.class ≡ t.class)
      by true is g = let as_is : x ≡ t = cc in (x, rw is refl, ap (λ (o : Object). o.class) as_is)
      by false is g = let u = rest g in (u.0, rw is u.1, u.2)

  pub changed-agrees : ((o : Object) → (f o).number ≡ o.number) → ((o : Object) → (f o).class ≡ o.class) → (os : List Object) (k : ℕ) (t : Object) → object_of k os ≡ Some t
      → (u : Object) × (object_of k (changed n f os) ≡ Some u) × (u.class ≡ t.class)
  changed-agrees num same [] k t e = absurd (cc)
  changed-agrees num same (x ∷ os) k t e = changed-step x os (changed n f os) k t (is_numbered n x) (num x) (same x) (changed-agrees num same os k t) e

  all-changed : (P : Object → Type 0) (os : List Object) → AllByRecursion P os → ((o : Object) → object_of n os ≡ Some o → P (f o)) → AllByRecursion P (changed n f os)
  all-changed P [] h g = tt
  all-changed P (x ∷ os) h g = by (is_numbered n x) g (all-changed P os h.1)
    where
      by : (b : Bool) → ((o : Object) → cond b (Some x) (object_of n os) ≡ Some o → P (f o)) → (((o : Object) → object_of n os ≡ Some o → P (f o)) → AllByRecursion P (changed n f os))
          → AllByRecursion P (cond b (f x ∷ os) (x ∷ changed n f os))
      by true g rest = (g x refl, h.1)
      by false g rest = (h.0, rest g)

-- an object is changed into one that fits, of its number and class
pub fits-edited : (classes : List Class) (m : Memory) (n : ℕ) (f : Object → Object) → ((o : Object) → (f o).number ≡ o.number) → ((o : Object) → (f o).class ≡ o.class)
    → ((o : Object) → object_of n m.objects ≡ Some o → FitsSchema classes m (f o)) → TableFits classes m → TableFits classes (edited m n f)
unfolding TableFits edited
fits-edited classes m n f num same new h =
    objects-move classes m (edited m n f) (changed n f m.objects) (λ k t at e. changed-agrees n f num same m.objects k t e)
    (all-changed n f (FitsSchema classes m) m.objects h new)

-- ---- holds outside are loosened

loosen-agrees : (ms : List ℕ) (os : List Object) (k : ℕ) (t : Object) → object_of k os ≡ Some t → (u : Object) × (object_of k (loosened ms os) ≡ Some u) × (u.class ≡ t.class)
loosen-agrees ms [] k t e = absurd (cc)
loosen-agrees ms (x ∷ os) k t e = by (is_numbered k x) e (loosen-agrees ms os k t)
  where
    by : (b : Bool) → cond b (Some x) (object_of k os) ≡ Some t → (object_of k os ≡ Some t → (u : Object) × (object_of k (loosened ms os) ≡ Some u) × (u.class ≡ t.class))
        → (u : Object) × (cond b (Some (loosen ms x)) (object_of k (loosened ms os)) ≡ Some u) × (u.class ≡ t.class)
    by true g rest = let as_is : x ≡ t = cc in (loosen ms x, refl, ap (λ (o : Object). o.class) as_is)
    by false g rest = rest g

loosen-fits : (classes : List Class) (m : Memory) (ms : List ℕ) (o : Object) → FitsSchema classes m o → FitsSchema classes m (loosen ms o)
loosen-fits classes m ms o h = record { class = h.class; extent = h.extent; id = h.id; level = h.level; slots = h.slots }

all-loosened : (classes : List Class) (m : Memory) (ms : List ℕ) (os : List Object) → AllByRecursion (FitsSchema classes m) os → AllByRecursion (FitsSchema classes m) (loosened ms os)
all-loosened classes m ms [] h = tt
all-loosened classes m ms (o ∷ os) h = (loosen-fits classes m ms o h.0, all-loosened classes m ms os h.1)

pub fits-loosed : (classes : List Class) (m : Memory) (ms : List ℕ) → TableFits classes m → TableFits classes (loosed m ms)
unfolding TableFits loosed
fits-loosed classes m ms h =
    objects-move classes m (loosed m ms) (loosened ms m.objects) (λ k t at e. loosen-agrees ms m.objects k t e) (all-loosened classes m ms m.objects h)

-- ---- an object is new

added-agrees : (n : Object) (os : List Object) (k : ℕ) (t : Object) → object_of k os ≡ Some t → (u : Object) × (object_of k (os ++ n ∷ []) ≡ Some u) × (u.class ≡ t.class)
added-agrees n [] k t e = absurd (cc)
added-agrees n (x ∷ os) k t e = by (is_numbered k x) e (added-agrees n os k t)
  where
    by : (b : Bool) → cond b (Some x) (object_of k os) ≡ Some t → (object_of k os ≡ Some t → (u : Object) × (object_of k (os ++ n ∷ []) ≡ Some u) × (u.class ≡ t.class))
        → (u : Object) × (cond b (Some x) (object_of k (os ++ n ∷ [])) ≡ Some u) × (u.class ≡ t.class)
    by true g rest = (t, g, refl)
    by false g rest = rest g

all-added : {X : Type 0} (P : X → Type 0) (xs : List X) (x : X) → AllByRecursion P xs → P x → AllByRecursion P (xs ++ x ∷ [])
all-added P [] x h p = (p, tt)
all-added P (y ∷ ys) x h p = (h.0, all-added P ys x h.1 p)

pub fits-added : (classes : List Class) (m : Memory) (o : Object) → FitsSchema classes m o → TableFits classes m → TableFits classes (with_object m o)
unfolding TableFits with_object
fits-added classes m o new h =
    objects-move classes m (with_object m o) (m.objects ++ o ∷ []) (λ k t at e. added-agrees o m.objects k t e) (all-added (FitsSchema classes m) m.objects o h new)

-- ---- what nothing holds is dropped

above : (first last n : ℕ) (os : List Object) (t : Object) → AreRising first last os → object_of n os ≡ Some t → first < n
above first last n [] t r e = absurd (cc)
above first last n (x ∷ os) t r e = by (is_numbered n x) refl e (above x.number last n os t r.1)
  where
    by : (b : Bool) → is_numbered n x ≡ b → cond b (Some x) (object_of n os) ≡ Some t → (object_of n os ≡ Some t → x.number < n) → first < n
    by true is g rest = let same : x.number ≡ n = eqb-true x.number n is in omega (arith, r.0, same)
    by false is g rest = let more : x.number < n = rest g in omega (arith, r.0, more)

-- the object of a number is the one that it was
pub still-there : (p : Object → Bool) (first last n : ℕ) (os : List Object) (t : Object) → AreRising first last os → object_of n (without_first p os) ≡ Some t → object_of n os ≡ Some t
still-there p first last n [] t r e = e
still-there p first last n (x ∷ os) t r e = by (p x) e (still-there p x.number last n os t r.1)
  where
    there : (b : Bool) → is_numbered n x ≡ b → object_of n os ≡ Some t → cond b (Some x) (object_of n os) ≡ Some t
    there false is g = g
    there true is g =
        let same : x.number ≡ n = eqb-true x.number n is in
        let more : x.number < n = above x.number last n os t r.1 g in
        absurd (omega (arith, same, more))

    kept : (b : Bool) (w : List Object) → (object_of n w ≡ Some t → object_of n os ≡ Some t) → cond b (Some x) (object_of n w) ≡ Some t → cond b (Some x) (object_of n os) ≡ Some t
    kept true w rest g = g
    kept false w rest g = rest g

    by : (b : Bool) → object_of n (cond b os (x ∷ without_first p os)) ≡ Some t → (object_of n (without_first p os) ≡ Some t → object_of n os ≡ Some t) → object_of n (x ∷ os) ≡ Some t
    by true g rest = there (is_numbered n x) refl g
    by false g rest = kept (is_numbered n x) (without_first p os) rest g

left-there : (turns first last n : ℕ) (os : List Object) (t : Object) → AreRising first last os → object_of n (left_after turns os) ≡ Some t → object_of n os ≡ Some t
unfolding left_after
left-there zero first last n os t r e = e
left-there (suc turns) first last n os t r e =
    by (first_unheld os) e (λ g. still-there (is_unheld os) first last n os t r (left-there turns first last n (one_less os) t (rising-less (is_unheld os) first last os r) g))
  where
    by : (f : Option Object) → object_of n (elim f as (λ _. List Object) [ None ↦ os | Some _ ↦ left_after turns (one_less os) ]) ≡ Some t → (object_of n (left_after turns (one_less os)) ≡ Some t → object_of n os ≡ Some t) → object_of n os ≡ Some t
    by None g rest = g
    by (Some o) g rest = rest g

all-left : (P : Object → Type 0) (turns : ℕ) (os : List Object) → AllByRecursion P os → AllByRecursion P (left_after turns os)
unfolding left_after
all-left P zero os h = h
all-left P (suc turns) os h = by (first_unheld os) (all-left P turns (one_less os) (all-less P (is_unheld os) os h))
  where
    by : (f : Option Object) → AllByRecursion P (left_after turns (one_less os)) → AllByRecursion P (elim f as (λ _. List Object) [ None ↦ os | Some _ ↦ left_after turns (one_less os) ])
    by None rest = h
    by (Some o) rest = rest

-- what is left fits, where it is known to be sound
pub fits-dropped : (classes : List Class) (m : Memory) → AreRising 0 m.last m.objects → IsSound (dropped m) → TableFits classes m → TableFits classes (dropped m)
unfolding TableFits dropped
fits-dropped classes m rising sound h =
    objects-move classes m (dropped m) (left_after (length m.objects) m.objects) agrees (all-left (FitsSchema classes m) (length m.objects) m.objects h)
  where
    end : List Object
    end = left_after (length m.objects) m.objects

    found : (n : ℕ) (t : Object) (x : Option Object) → object_of n end ≡ x → 0 < times n (refs_among end) → object_of n m.objects ≡ Some t → (u : Object) × (object_of n end ≡ Some u) × (u.class ≡ t.class)
    found n t None e at is = let none : times n (refs_among end) ≡ 0 = sound.closed n e in absurd (omega (arith, at, none))
    found n t (Some u) e at is =
        let was : object_of n m.objects ≡ Some u = left-there (length m.objects) 0 m.last n m.objects u rising e in
        let same : u ≡ t = cc in
        (u, e, ap (λ (o : Object). o.class) same)

    agrees : Agrees m (dropped m) (refs_among end)
    agrees n t at is = found n t (object_of n end) refl at is
