-- Objects by their numbers, and those that wait for release.
use Rattle.std.proofs.Common.{◌≡◌, ◌≢◌, ℕ, ◌+◌, ◌-◌, ◌==◌, ◌<◌, ◌≤◌, cond, Bool, true, false, ◌||◌, Option, Some, None, List, [], ◌∷◌, ◌++◌, map, length, refl, ap, sym, subst, ◌∙◌, arith, zero, suc, length-append, insert, Result, Ok, Err, OnOk, IfOk, IfErr}
use Rattle.std.specs.List.{AllByRecursion}
use Rattle.std.specs.Option.{option_map}
use Rattle.std.specs.List.Sorted.{IsStrictlySortedBy, IsPermutation}
use Rattle.std.specs.Map.{keys_of, lookup, remove_entry, set_value}
use Rattle.std.specs.BTreeMap.{is_at, insert_entry}
use Rattle.std.specs.BinaryHeap.{IsHeap, IsUpperBound}
use Rattle.std.specs.Ordering.{nat_cmp, is_eq, is_lt, match_ordering}
use Rattle.std.specs.declared.cmp.Ordering.TheVariants.{Less, Equal, Greater}
use Rattle.std.specs.declared.cmp.Reverse.{Reverse}
use Rattle.std.specs.Cmp.{nat_cmp_is}
use Rattle.std.proofs.lemmas.List.{map-append}
use Rattle.std.proofs.lemmas.Bool.{eqb-true, eqb-false, ne_eqb, eq-eqb}
use Rattle.std.proofs.lemmas.List.Sorted.{list_any-IsPermutation}
use Rattle.oref_table.specs.declared.slot.Slot.{Slot}
use Rattle.oref_table.specs.declared.slot.Slot.TheVariants.{Items, Members}
use Rattle.oref_table.specs.declared.fill.Fill.{Fill}
use Rattle.oref_table.specs.declared.fill.Place.{Place}
use Rattle.oref_table.specs.declared.obj.Obj.{Obj}
use Rattle.oref_table.specs.declared.obj.Entry.{Entry}
use Rattle.oref_table.specs.Refs.{times, refs_of}
use Rattle.oref_table.specs.Memory.{first_that, without_first, at_first}
use Rattle.oref_table.specs.Entries.{is_entry, is_uncounted, lower_by, lowered, with_entry_slot, with_entry_slots}
use Rattle.oref_table.specs.Filling.{is_member}
use Rattle.oref_table.specs.Exchanges.{FillsRow, FillsFirst, InsertsRow, InsertsFirst, DropsRow, DropsFirst}
use Rattle.oref_table.specs.Rows.{entry_of, entries_in, least_first, waits, AwaitsRelease, counted_rows, AreRows, is_idle, idle_in, IsRowEdit}

-- the order of numbers tells which are the same
pub cmp-less : (x y : ℕ) → x < y → nat_cmp x y ≡ Less
cmp-less x y h = sym (nat_cmp_is x y Less h)

pub cmp-greater : (x y : ℕ) → y < x → nat_cmp x y ≡ Greater
cmp-greater x y h = sym (nat_cmp_is x y Greater h)

pub cmp-same : (x y : ℕ) → x ≡ y → nat_cmp x y ≡ Equal
cmp-same x y h = sym (nat_cmp_is x y Equal h)

pub data Cases (x y : ℕ) : Type 0 where
  below : x < y → Cases x y
  same : x ≡ y → Cases x y
  above : y < x → Cases x y

cases : (x y : ℕ) (b : Bool) → (x == y) ≡ b → Cases x y
cases x y true e = same (eqb-true x y e)
cases x y false e = split x y (eqb-false x y e)
  where
    split : (x y : ℕ) → x ≢ y → Cases x y
    split zero zero h = absurd (h refl)
    split zero (suc y) h = below (omega arith)
    split (suc x) zero h = above (omega arith)
    split (suc x) (suc y) h = up x y (split x y (λ e. h (ap suc e)))
      where
        up : (x y : ℕ) → Cases x y → Cases (suc x) (suc y)
        up x y (below l) = below (omega (arith, l))
        up x y (same e) = same (ap suc e)
        up x y (above l) = above (omega (arith, l))

pub compare : (x y : ℕ) → Cases x y
compare x y = cases x y (x == y) refl

pub at-is : (n m : ℕ) → is_at (nat_cmp n) m ≡ (m == n)
at-is n m = by (compare n m)
  where
    by : Cases n m → is_eq (nat_cmp n m) ≡ (m == n)
    by (below l) = ap is_eq (cmp-less n m l) ∙ sym (ne_eqb m n (λ (s : m ≡ n). omega arith))
    by (same e) = ap is_eq (cmp-same n m e) ∙ sym (eq-eqb m n (sym e))
    by (above l) = ap is_eq (cmp-greater n m l) ∙ sym (ne_eqb m n (λ (s : m ≡ n). omega arith))

abbrev pub numbered : ℕ → Obj → Entry
numbered n obj = record { number = n; obj = obj }

lookup-step : (n : ℕ) (p : ℕ × Obj) (b : Bool) → (p.0 == n) ≡ b → (f : Option Obj) (g : Option Entry) → g ≡ option_map (numbered n) f → cond b (Some (entry_of p)) g ≡ option_map (numbered n) (cond b (Some p.1) f)
lookup-step n p true e f g h = ap (λ k. Some (numbered k p.1)) (eqb-true p.0 n e)
lookup-step n p false e f g h = h

-- the entry of a number is the row of it
pub lookup-first : (n : ℕ) (rows : List (ℕ × Obj)) → first_that (is_entry n) (entries_in rows) ≡ option_map (numbered n) (lookup (is_at (nat_cmp n)) rows)
lookup-first n [] = refl
lookup-first n (p ∷ ps) =
    subst (λ b. cond (p.0 == n) (Some (entry_of p)) (first_that (is_entry n) (entries_in ps)) ≡ option_map (numbered n) (cond b (Some p.1) (lookup (is_at (nat_cmp n)) ps))) (sym (at-is n p.0))
    (lookup-step n p (p.0 == n) refl (lookup (is_at (nat_cmp n)) ps) (first_that (is_entry n) (entries_in ps)) (lookup-first n ps))

set-step : (n : ℕ) (v w : Obj) (f : Entry → Entry) (p : ℕ × Obj) (ps ws : List (ℕ × Obj)) (es : List Entry) (b : Bool) → (p.0 == n) ≡ b → (o : Option Obj) → f (numbered n v) ≡ numbered n w → (o ≡ Some v → entries_in ws ≡ es) → cond b (Some p.1) o ≡ Some v → entries_in (cond b ((p.0, w) ∷ ps) (p ∷ ws)) ≡ cond b (f (entry_of p) ∷ entries_in ps) (entry_of p ∷ es)
set-step n v w f p ps ws es true e o h i g =
    let k : p.0 ≡ n = eqb-true p.0 n e in
    let z : p.1 ≡ v = cc in
    let one : f (entry_of p) ≡ numbered p.0 w = ap (λ j. f (numbered j p.1)) k ∙ ap (λ x. f (numbered n x)) z ∙ h ∙ ap (λ j. numbered j w) (sym k) in
    ap (λ x. x ∷ entries_in ps) (sym one)
set-step n v w f p ps ws es false e o h i g = ap (λ xs. entry_of p ∷ xs) (i g)

-- a row that is written over is the entry of the number changed
pub set-first : (n : ℕ) (v w : Obj) (f : Entry → Entry) → f (numbered n v) ≡ numbered n w → (rows : List (ℕ × Obj)) → lookup (is_at (nat_cmp n)) rows ≡ Some v → entries_in (set_value (is_at (nat_cmp n)) rows w) ≡ at_first (is_entry n) f (entries_in rows)
set-first n v w f h [] g = refl
set-first n v w f h (p ∷ ps) g =
    subst (λ b. entries_in (cond b ((p.0, w) ∷ ps) (p ∷ set_value (is_at (nat_cmp n)) ps w)) ≡ cond (p.0 == n) (f (entry_of p) ∷ entries_in ps) (entry_of p ∷ at_first (is_entry n) f (entries_in ps))) (sym (at-is n p.0))
    (set-step n v w f p ps (set_value (is_at (nat_cmp n)) ps w) (at_first (is_entry n) f (entries_in ps)) (p.0 == n) refl (lookup (is_at (nat_cmp n)) ps) h (set-first n v w f h ps)
    (subst (λ b. cond b (Some p.1) (lookup (is_at (nat_cmp n)) ps) ≡ Some v) (at-is n p.0) g))

-- a row behind all others
pub push-row : (n : ℕ) (v : Obj) (rows : List (ℕ × Obj)) → AllByRecursion (λ (e : Entry). e.number < n) (entries_in rows) → insert_entry nat_cmp rows n v ≡ rows ++ (n, v) ∷ []
push-row n v [] h = refl
push-row n v (p ∷ ps) h =
    ap (λ r. match_ordering r ((n, v) ∷ p ∷ ps) ((p.0, v) ∷ ps) (p ∷ insert_entry nat_cmp ps n v)) (cmp-greater n p.0 h.0)
    ∙ ap (λ xs. p ∷ xs) (push-row n v ps h.1)

with_count : Entry → ℕ → Entry
with_count e k = record e { obj = record e.obj { count = k } }

lower-other : (n : ℕ) (e : Entry) → (e.number == n) ≡ false → lower_by (n ∷ []) e ≡ e
unfolding with_count
lower-other n e h =
    let z : e.obj.count - times e.number (n ∷ []) ≡ e.obj.count = ap (λ b. e.obj.count - (cond b 1 0 + 0)) h ∙ (omega arith) in
    ap (with_count e) z

absent-step : (n : ℕ) (p : ℕ × Obj) (es ws : List Entry) (b : Bool) (o : Option Obj) → (p.0 == n) ≡ b → (o ≡ None → es ≡ ws) → cond b (Some p.1) o ≡ None → lower_by (n ∷ []) (entry_of p) ∷ es ≡ entry_of p ∷ ws
absent-step n p es ws true o e h g = cc
absent-step n p es ws false o e h g = ap (λ x. x ∷ es) (lower-other n (entry_of p) e) ∙ ap (λ xs. entry_of p ∷ xs) (h g)

pub lowered-absent : (n : ℕ) (rows : List (ℕ × Obj)) → lookup (is_at (nat_cmp n)) rows ≡ None → lowered (n ∷ []) (entries_in rows) ≡ entries_in rows
lowered-absent n [] g = refl
lowered-absent n (p ∷ ps) g =
    absent-step n p (lowered (n ∷ []) (entries_in ps)) (entries_in ps) (p.0 == n) (lookup (is_at (nat_cmp n)) ps) refl (lowered-absent n ps)
    (subst (λ b. cond b (Some p.1) (lookup (is_at (nat_cmp n)) ps) ≡ None) (at-is n p.0) g)

pub less-below : (x y : ℕ) → nat_cmp x y ≡ Less → x < y
less-below x y h = by (compare x y)
  where
    by : Cases x y → x < y
    by (below l) = l
    by (same e) = let z : Less ≡ Equal = sym h ∙ cmp-same x y e in cc
    by (above l) = let z : Less ≡ Greater = sym h ∙ cmp-greater x y l in cc

-- above a number stands no row of it
pub none-above : (n : ℕ) (rows : List (ℕ × Obj)) → AllByRecursion (λ y. nat_cmp n y ≡ Less) (keys_of rows) → AllByRecursion (λ (p : ℕ × Obj). n < p.0) rows
none-above n [] h = tt
none-above n (p ∷ ps) h = (less-below n p.0 h.0, none-above n ps h.1)

lowered-above : (n : ℕ) (rows : List (ℕ × Obj)) → AllByRecursion (λ (p : ℕ × Obj). n < p.0) rows → lowered (n ∷ []) (entries_in rows) ≡ entries_in rows
lowered-above n [] h = refl
lowered-above n (p ∷ ps) h =
    ap (λ x. x ∷ lowered (n ∷ []) (entries_in ps)) (lower-other n (entry_of p) (ne_eqb p.0 n (λ (s : p.0 ≡ n). omega (arith, h.0))))
    ∙ ap (λ xs. entry_of p ∷ xs) (lowered-above n ps h.1)

abbrev pub one_less : Obj → Obj
one_less v = record v { count = v.count - 1 }

lower-own : (n : ℕ) (p : ℕ × Obj) (v : Obj) → p.0 ≡ n → p.1 ≡ v → entry_of (p.0, one_less v) ≡ lower_by (n ∷ []) (entry_of p)
unfolding with_count
lower-own n p v k z =
    let c : p.1.count - 1 ≡ p.1.count - times p.0 (n ∷ []) = sym (ap (λ b. p.1.count - (cond b 1 0 + 0)) (eq-eqb p.0 n k) ∙ (omega arith)) in
    ap (λ x. entry_of (p.0, one_less x)) (sym z) ∙ ap (with_count (entry_of p)) c

lower-step : (n : ℕ) (v : Obj) (p : ℕ × Obj) (ps ws : List (ℕ × Obj)) (b : Bool) (o : Option Obj) → (p.0 == n) ≡ b → AllByRecursion (λ y. nat_cmp p.0 y ≡ Less) (keys_of ps) → (o ≡ Some v → entries_in ws ≡ lowered (n ∷ []) (entries_in ps)) → cond b (Some p.1) o ≡ Some v → entries_in (cond b ((p.0, one_less v) ∷ ps) (p ∷ ws)) ≡ lower_by (n ∷ []) (entry_of p) ∷ lowered (n ∷ []) (entries_in ps)
lower-step n v p ps ws true o e r h g =
    let k : p.0 ≡ n = eqb-true p.0 n e in
    let z : p.1 ≡ v = cc in
    let rest : lowered (n ∷ []) (entries_in ps) ≡ entries_in ps = lowered-above n ps (subst (λ m. AllByRecursion (λ (q : ℕ × Obj). m < q.0) ps) k (none-above p.0 ps r)) in
    ap (λ x. x ∷ entries_in ps) (lower-own n p v k z) ∙ ap (λ xs. lower_by (n ∷ []) (entry_of p) ∷ xs) (sym rest)
lower-step n v p ps ws false o e r h g = ap (λ x. x ∷ entries_in ws) (sym (lower-other n (entry_of p) e)) ∙ ap (λ xs. lower_by (n ∷ []) (entry_of p) ∷ xs) (h g)

pub lowered-row : (n : ℕ) (v : Obj) (rows : List (ℕ × Obj)) → IsStrictlySortedBy nat_cmp (keys_of rows) → lookup (is_at (nat_cmp n)) rows ≡ Some v → entries_in (set_value (is_at (nat_cmp n)) rows (one_less v)) ≡ lowered (n ∷ []) (entries_in rows)
unfolding IsStrictlySortedBy
lowered-row n v [] r g = cc
lowered-row n v (p ∷ ps) r g =
    subst (λ b. entries_in (cond b ((p.0, one_less v) ∷ ps) (p ∷ set_value (is_at (nat_cmp n)) ps (one_less v))) ≡ lower_by (n ∷ []) (entry_of p) ∷ lowered (n ∷ []) (entries_in ps)) (sym (at-is n p.0))
    (lower-step n v p ps (set_value (is_at (nat_cmp n)) ps (one_less v)) (p.0 == n) (lookup (is_at (nat_cmp n)) ps) refl r.0 (lowered-row n v ps r.1)
    (subst (λ b. cond b (Some p.1) (lookup (is_at (nat_cmp n)) ps) ≡ Some v) (at-is n p.0) g))

-- whether an object has a holder, as a number
abbrev pub weight : Obj → ℕ
weight v = cond (v.count == 0) 0 1

counted-step : (n : ℕ) (v w : Obj) (p : ℕ × Obj) (ps ws : List (ℕ × Obj)) (b : Bool) (o : Option Obj) → (o ≡ Some v → counted_rows ws + weight v ≡ counted_rows ps + weight w) → cond b (Some p.1) o ≡ Some v → counted_rows (cond b ((p.0, w) ∷ ps) (p ∷ ws)) + weight v ≡ (weight p.1 + counted_rows ps) + weight w
counted-step n v w p ps ws true o h g = let z : weight p.1 ≡ weight v = let y : p.1 ≡ v = cc in ap (λ (x : Obj). weight x) y in omega (arith, z)
counted-step n v w p ps ws false o h g = omega (arith, h g)

pub counted-set : (n : ℕ) (v w : Obj) (rows : List (ℕ × Obj)) → lookup (is_at (nat_cmp n)) rows ≡ Some v → counted_rows (set_value (is_at (nat_cmp n)) rows w) + weight v ≡ counted_rows rows + weight w
counted-set n v w [] g = cc
counted-set n v w (p ∷ ps) g = counted-step n v w p ps (set_value (is_at (nat_cmp n)) ps w) (is_at (nat_cmp n) p.0) (lookup (is_at (nat_cmp n)) ps) (counted-set n v w ps) g

awaited-step : (waiting : List (Reverse ℕ)) (n : ℕ) (w : Obj) (p : ℕ × Obj) (ps ws : List (ℕ × Obj)) (b : Bool) → (p.0 == n) ≡ b → AllByRecursion (AwaitsRelease waiting) (p ∷ ps) → (w.count ≡ 0 → waits waiting n ≡ true) → AllByRecursion (AwaitsRelease waiting) ws → AllByRecursion (AwaitsRelease waiting) (cond b ((p.0, w) ∷ ps) (p ∷ ws))
awaited-step waiting n w p ps ws true e h i j = ((λ z. ap (waits waiting) (eqb-true p.0 n e) ∙ i z), h.1)
awaited-step waiting n w p ps ws false e h i j = (h.0, j)

pub awaited-set : (waiting : List (Reverse ℕ)) (n : ℕ) (w : Obj) (rows : List (ℕ × Obj)) → AllByRecursion (AwaitsRelease waiting) rows → (w.count ≡ 0 → waits waiting n ≡ true) → AllByRecursion (AwaitsRelease waiting) (set_value (is_at (nat_cmp n)) rows w)
awaited-set waiting n w [] h i = tt
awaited-set waiting n w (p ∷ ps) h i =
    subst (λ b. AllByRecursion (AwaitsRelease waiting) (cond b ((p.0, w) ∷ ps) (p ∷ set_value (is_at (nat_cmp n)) ps w))) (sym (at-is n p.0))
    (awaited-step waiting n w p ps (set_value (is_at (nat_cmp n)) ps w) (p.0 == n) refl h i (awaited-set waiting n w ps h.1 i))

awaited-from : (waiting : List (Reverse ℕ)) (n : ℕ) (v : Obj) (rows : List (ℕ × Obj)) → AllByRecursion (AwaitsRelease waiting) rows → lookup (is_at (nat_cmp n)) rows ≡ Some v → v.count ≡ 0 → waits waiting n ≡ true
awaited-from waiting n v [] h g z = cc
awaited-from waiting n v (p ∷ ps) h g z =
    step (p.0 == n) refl (lookup (is_at (nat_cmp n)) ps) (λ s. awaited-from waiting n v ps h.1 s z) (subst (λ b. cond b (Some p.1) (lookup (is_at (nat_cmp n)) ps) ≡ Some v) (at-is n p.0) g)
  where
    step : (b : Bool) → (p.0 == n) ≡ b → (o : Option Obj) → (o ≡ Some v → waits waiting n ≡ true) → cond b (Some p.1) o ≡ Some v → waits waiting n ≡ true
    step true e o i s = let y : p.1 ≡ v = cc in ap (waits waiting) (sym (eqb-true p.0 n e)) ∙ h.0 (ap (λ (x : Obj). x.count) y ∙ z)
    step false e o i s = i s

-- one holder less: what waits still waits, and what came to have none does where the number is noted
pub awaited-lowered : (waiting : List (Reverse ℕ)) (n : ℕ) (v : Obj) (rows : List (ℕ × Obj)) → AllByRecursion (AwaitsRelease waiting) rows → lookup (is_at (nat_cmp n)) rows ≡ Some v → ((v.count == 1) ≡ true → waits waiting n ≡ true) → AllByRecursion (AwaitsRelease waiting) (set_value (is_at (nat_cmp n)) rows (one_less v))
awaited-lowered waiting n v rows h g i = awaited-set waiting n (one_less v) rows h (λ z. step (v.count == 1) refl z)
  where
    step : (b : Bool) → (v.count == 1) ≡ b → v.count - 1 ≡ 0 → waits waiting n ≡ true
    step true e z = i e
    step false e z = awaited-from waiting n v rows h g (let off = eqb-false v.count 1 e in omega (arith, off))

pub counted-lowered : (n : ℕ) (v : Obj) (rows : List (ℕ × Obj)) → lookup (is_at (nat_cmp n)) rows ≡ Some v → counted_rows (set_value (is_at (nat_cmp n)) rows (one_less v)) + cond (v.count == 1) 1 0 ≡ counted_rows rows
counted-lowered n v rows g = omega (arith, counted-set n v (one_less v) rows g, weigh v.count (v.count == 0) (v.count == 1) (v.count - 1 == 0) refl refl refl)
  where
    weigh : (k : ℕ) (a b c : Bool) → (k == 0) ≡ a → (k == 1) ≡ b → (k - 1 == 0) ≡ c → cond c 0 1 + cond b 1 0 ≡ cond a 0 1
    weigh k true true c x y z = absurd (let e : 0 ≡ 1 = sym (eqb-true k 0 x) ∙ eqb-true k 1 y in omega arith)
    weigh k true false true x y z = refl
    weigh k true false false x y z = absurd (eqb-false (k - 1) 0 z (let e : k ≡ 0 = eqb-true k 0 x in omega arith))
    weigh k false true true x y z = refl
    weigh k false true false x y z = absurd (eqb-false (k - 1) 0 z (let e : k ≡ 1 = eqb-true k 1 y in omega arith))
    weigh k false false true x y z = absurd (let e : k - 1 ≡ 0 = eqb-true (k - 1) 0 z in let p = eqb-false k 0 x in let q = eqb-false k 1 y in omega (arith, p, q))
    weigh k false false false x y z = refl

found-above : (n x : ℕ) (v : Obj) (rows : List (ℕ × Obj)) → AllByRecursion (λ (p : ℕ × Obj). n < p.0) rows → lookup (is_at (nat_cmp x)) rows ≡ Some v → n < x
found-above n x v [] h g = cc
found-above n x v (p ∷ ps) h g = step (p.0 == x) refl (lookup (is_at (nat_cmp x)) ps) (found-above n x v ps h.1) (subst (λ b. cond b (Some p.1) (lookup (is_at (nat_cmp x)) ps) ≡ Some v) (at-is x p.0) g)
  where
    step : (b : Bool) → (p.0 == x) ≡ b → (o : Option Obj) → (o ≡ Some v → n < x) → cond b (Some p.1) o ≡ Some v → n < x
    step true e o i s = subst (λ k. n < k) (eqb-true p.0 x e) h.0
    step false e o i s = i s

-- what is known of the object that is taken: it is the first one without a holder
pub record IsTaken (x : ℕ) (v : Obj) (rows : List (ℕ × Obj)) : Type 0 where
  pub first : first_that is_uncounted (entries_in rows) ≡ Some (numbered x v)
  pub others : entries_in (remove_entry (is_at (nat_cmp x)) rows) ≡ without_first is_uncounted (entries_in rows)
  pub counted : counted_rows (remove_entry (is_at (nat_cmp x)) rows) ≡ counted_rows rows

abbrev pub AreLater : ℕ → List (ℕ × Obj) → Type 0
AreLater x rows = AllByRecursion (λ (p : ℕ × Obj). p.1.count ≡ 0 → x ≤ p.0) rows

taken-step : (x : ℕ) (v : Obj) (p : ℕ × Obj) (ps : List (ℕ × Obj)) (b c : Bool) (o : Option Obj) → (p.0 == x) ≡ b → (p.1.count == 0) ≡ c → (p.1.count ≡ 0 → x ≤ p.0) → (o ≡ Some v → p.0 < x) → v.count ≡ 0 → (o ≡ Some v → IsTaken x v ps) → cond b (Some p.1) o ≡ Some v → record {
  first : cond c (Some (entry_of p)) (first_that is_uncounted (entries_in ps)) ≡ Some (numbered x v);
  others : entries_in (cond b ps (p ∷ remove_entry (is_at (nat_cmp x)) ps)) ≡ cond c (entries_in ps) (entry_of p ∷ without_first is_uncounted (entries_in ps));
  counted : counted_rows (cond b ps (p ∷ remove_entry (is_at (nat_cmp x)) ps)) ≡ cond c 0 1 + counted_rows ps;
}
taken-step x v p ps true true o e f least over z h g =
    let y : p.1 ≡ v = cc in
    record { first = ap (λ k. Some (numbered k p.1)) (eqb-true p.0 x e) ∙ ap (λ q. Some (numbered x q)) y; others = refl; counted = omega arith }
taken-step x v p ps true false o e f least over z h g =
    let y : p.1 ≡ v = cc in
    absurd (eqb-false p.1.count 0 f (ap (λ (q : Obj). q.count) y ∙ z))
taken-step x v p ps false true o e f least over z h g = absurd (let l : x ≤ p.0 = least (eqb-true p.1.count 0 f) in let u = over g in omega (arith, l, u))
taken-step x v p ps false false o e f least over z h g =
    let t = h g in
    record { first = t.first; others = ap (λ xs. entry_of p ∷ xs) t.others; counted = ap (λ b. cond b 0 1 + counted_rows (remove_entry (is_at (nat_cmp x)) ps)) f ∙ ap (λ k. 1 + k) t.counted }

pub taken : (x : ℕ) (v : Obj) (rows : List (ℕ × Obj)) → IsStrictlySortedBy nat_cmp (keys_of rows) → AreLater x rows → lookup (is_at (nat_cmp x)) rows ≡ Some v → v.count ≡ 0 → IsTaken x v rows
unfolding IsStrictlySortedBy
taken x v [] r h g z = cc
taken x v (p ∷ ps) r h g z =
    let s = taken-step x v p ps (p.0 == x) (p.1.count == 0) (lookup (is_at (nat_cmp x)) ps) refl refl h.0 (found-above p.0 x v ps (none-above p.0 ps r.0)) z (λ f. taken x v ps r.1 h.1 f z) (subst (λ b. cond b (Some p.1) (lookup (is_at (nat_cmp x)) ps) ≡ Some v) (at-is x p.0) g) in
    record {
      first = s.first;
      others = ap (λ b. entries_in (cond b ps (p ∷ remove_entry (is_at (nat_cmp x)) ps))) (at-is x p.0) ∙ s.others;
      counted = ap (λ b. counted_rows (cond b ps (p ∷ remove_entry (is_at (nat_cmp x)) ps))) (at-is x p.0) ∙ s.counted;
    }

at-least : (x y : ℕ) → is_lt (nat_cmp y x) ≡ false → x ≤ y
at-least x y h = by (compare y x)
  where
    by : Cases y x → x ≤ y
    by (below l) = let z : true ≡ false = sym (ap is_lt (cmp-less y x l)) ∙ h in cc
    by (same e) = omega (arith, e)
    by (above l) = omega (arith, l)

-- the number that comes out of the heap is none above those that wait
pub least-waits : (x : Reverse ℕ) (waiting : List (Reverse ℕ)) → IsUpperBound least_first x waiting → (n : ℕ) → waits waiting n ≡ true → x.0 ≤ n
least-waits x [] h n w = cc
least-waits x (y ∷ ys) h n w = step (y.0 == n) refl (least-waits x ys h.1 n) w
  where
    step : (b : Bool) → (y.0 == n) ≡ b → (waits ys n ≡ true → x.0 ≤ n) → (b || waits ys n) ≡ true → x.0 ≤ n
    step true e i k = subst (λ m. x.0 ≤ m) (eqb-true y.0 n e) (at-least x.0 y.0 h.0)
    step false e i k = i k

pub later-rows : (x : Reverse ℕ) (waiting : List (Reverse ℕ)) → IsUpperBound least_first x waiting → (rows : List (ℕ × Obj)) → AllByRecursion (AwaitsRelease waiting) rows → AreLater x.0 rows
later-rows x waiting h [] a = tt
later-rows x waiting h (p ∷ ps) a = ((λ z. least-waits x waiting h p.0 (a.0 z)), later-rows x waiting h ps a.1)

-- the others still wait
pub still-waits : (x : Reverse ℕ) (old new : List (Reverse ℕ)) → IsPermutation old (x ∷ new) → (n : ℕ) → n ≢ x.0 → waits old n ≡ true → waits new n ≡ true
still-waits x old new h n off w =
    let e : waits old n ≡ waits (x ∷ new) n = list_any-IsPermutation (λ (y : Reverse ℕ). y.0 == n) old (x ∷ new) h in
    ap (λ b. b || waits new n) (sym (ne_eqb x.0 n (λ (s : x.0 ≡ n). off (sym s)))) ∙ sym e ∙ w

awaited-apart : (x : ℕ) (old new : List (Reverse ℕ)) → ((n : ℕ) → n ≢ x → waits old n ≡ true → waits new n ≡ true) → (rows : List (ℕ × Obj)) → AllByRecursion (λ (p : ℕ × Obj). x < p.0) rows → AllByRecursion (AwaitsRelease old) rows → AllByRecursion (AwaitsRelease new) rows
awaited-apart x old new h [] a w = tt
awaited-apart x old new h (p ∷ ps) a w = ((λ z. h p.0 (λ s. omega (arith, a.0, s)) (w.0 z)), awaited-apart x old new h ps a.1 w.1)

pub awaited-removed : (x : ℕ) (old new : List (Reverse ℕ)) → ((n : ℕ) → n ≢ x → waits old n ≡ true → waits new n ≡ true) → (rows : List (ℕ × Obj)) → IsStrictlySortedBy nat_cmp (keys_of rows) → AllByRecursion (AwaitsRelease old) rows → AllByRecursion (AwaitsRelease new) (remove_entry (is_at (nat_cmp x)) rows)
unfolding IsStrictlySortedBy
awaited-removed x old new h [] r w = tt
awaited-removed x old new h (p ∷ ps) r w =
    subst (λ b. AllByRecursion (AwaitsRelease new) (cond b ps (p ∷ remove_entry (is_at (nat_cmp x)) ps))) (sym (at-is x p.0)) (step (p.0 == x) refl (awaited-removed x old new h ps r.1 w.1))
  where
    step : (b : Bool) → (p.0 == x) ≡ b → AllByRecursion (AwaitsRelease new) (remove_entry (is_at (nat_cmp x)) ps) → AllByRecursion (AwaitsRelease new) (cond b ps (p ∷ remove_entry (is_at (nat_cmp x)) ps))
    step true e i = awaited-apart x old new h ps (subst (λ m. AllByRecursion (λ (q : ℕ × Obj). m < q.0) ps) (eqb-true p.0 x e) (none-above p.0 ps r.0)) w.1
    step false e i = ((λ z. h p.0 (eqb-false p.0 x e) (w.0 z)), i)

pub awaited-skipped : (x : ℕ) (old new : List (Reverse ℕ)) → ((n : ℕ) → n ≢ x → waits old n ≡ true → waits new n ≡ true) → (rows : List (ℕ × Obj)) → IsStrictlySortedBy nat_cmp (keys_of rows) → is_idle (lookup (is_at (nat_cmp x)) rows) ≡ false → AllByRecursion (AwaitsRelease old) rows → AllByRecursion (AwaitsRelease new) rows
unfolding IsStrictlySortedBy
awaited-skipped x old new h [] r i w = tt
awaited-skipped x old new h (p ∷ ps) r i w = step (p.0 == x) refl (λ j. awaited-skipped x old new h ps r.1 j w.1) (subst (λ b. is_idle (cond b (Some p.1) (lookup (is_at (nat_cmp x)) ps)) ≡ false) (at-is x p.0) i)
  where
    step : (b : Bool) → (p.0 == x) ≡ b → (is_idle (lookup (is_at (nat_cmp x)) ps) ≡ false → AllByRecursion (AwaitsRelease new) ps) → is_idle (cond b (Some p.1) (lookup (is_at (nat_cmp x)) ps)) ≡ false → AllByRecursion (AwaitsRelease new) (p ∷ ps)
    step true e k j = ((λ z. absurd (eqb-false p.1.count 0 j z)), awaited-apart x old new h ps (subst (λ m. AllByRecursion (λ (q : ℕ × Obj). m < q.0) ps) (eqb-true p.0 x e) (none-above p.0 ps r.0)) w.1)
    step false e k j = ((λ z. h p.0 (eqb-false p.0 x e) (w.0 z)), k j)

-- once nothing waits, each has a holder
pub none-waits : (waiting : List (Reverse ℕ)) → length waiting ≡ 0 → (rows : List (ℕ × Obj)) → AllByRecursion (AwaitsRelease waiting) rows → first_that is_uncounted (entries_in rows) ≡ None
none-waits (x ∷ xs) e rows w = absurd (omega (arith, e))
none-waits [] e [] w = refl
none-waits [] e (p ∷ ps) w = step (p.1.count == 0) refl (none-waits [] e ps w.1)
  where
    step : (b : Bool) → (p.1.count == 0) ≡ b → first_that is_uncounted (entries_in ps) ≡ None → cond b (Some (entry_of p)) (first_that is_uncounted (entries_in ps)) ≡ None
    step true f i = let z : false ≡ true = w.0 (eqb-true p.1.count 0 f) in cc
    step false f i = i

-- one more waits
pub more-wait : (x : Reverse ℕ) (old new : List (Reverse ℕ)) → IsPermutation (x ∷ old) new → (n : ℕ) → waits old n ≡ true → waits new n ≡ true
more-wait x old new h n w =
    sym (list_any-IsPermutation (λ (y : Reverse ℕ). y.0 == n) (x ∷ old) new h) ∙ ap (λ b. (x.0 == n) || b) w ∙ any (x.0 == n)
  where
    any : (b : Bool) → (b || true) ≡ true
    any true = refl
    any false = refl

pub one-waits : (x : Reverse ℕ) (old new : List (Reverse ℕ)) → IsPermutation (x ∷ old) new → waits new x.0 ≡ true
one-waits x old new h = sym (list_any-IsPermutation (λ (y : Reverse ℕ). y.0 == x.0) (x ∷ old) new h) ∙ ap (λ b. b || waits old x.0) (eq-eqb x.0 x.0 refl)

pub awaited-more : (old new : List (Reverse ℕ)) → ((n : ℕ) → waits old n ≡ true → waits new n ≡ true) → (rows : List (ℕ × Obj)) → AllByRecursion (AwaitsRelease old) rows → AllByRecursion (AwaitsRelease new) rows
awaited-more old new h [] a = tt
awaited-more old new h (p ∷ ps) a = ((λ z. h p.0 (a.0 z)), awaited-more old new h ps a.1)

-- a number that came out of the heap
pub record IsOut (x : Reverse ℕ) (waiting rest : List (Reverse ℕ)) (long short : ℕ) : Type 0 where
  pub moved : IsPermutation waiting (x ∷ rest)
  pub order : IsHeap least_first waiting → IsHeap least_first rest × IsUpperBound least_first x waiting
  pub shorter : short + 1 ≡ long

pub record IsTurn (x : Reverse ℕ) (v : Obj) (rows new : List (ℕ × Obj)) (rest : List (Reverse ℕ)) (short places : ℕ) : Type 0 where
  pub first : first_that is_uncounted (entries_in rows) ≡ Some (numbered x.0 v)
  pub others : entries_in new ≡ without_first is_uncounted (entries_in rows)
  pub stand : AreRows new rest short places

pub turn-taken : (x : Reverse ℕ) (v : Obj) (rows new : List (ℕ × Obj)) (waiting rest : List (Reverse ℕ)) (long short places : ℕ) → AreRows rows waiting long places → IsOut x waiting rest long short → lookup (is_at (nat_cmp x.0)) rows ≡ Some v → v.count ≡ 0 → new ≡ remove_entry (is_at (nat_cmp x.0)) rows → IsStrictlySortedBy nat_cmp (keys_of new) → IsTurn x v rows new rest short places
turn-taken x v rows new waiting rest long short places a o g z is r =
    let h = o.order a.order in
    let t = taken x.0 v rows a.rising (later-rows x waiting h.1 rows a.awaited) g z in
    record {
      first = t.first;
      others = ap entries_in is ∙ t.others;
      stand = record {
        rising = r;
        awaited = subst (λ ps. AllByRecursion (AwaitsRelease rest) ps) (sym is) (awaited-removed x.0 waiting rest (still-waits x waiting rest o.moved) rows a.rising a.awaited);
        order = h.0;
        room = omega (arith, a.room, o.shorter, ap counted_rows is, t.counted);
      };
    }

pub turn-skipped : (x : Reverse ℕ) (rows new : List (ℕ × Obj)) (waiting rest : List (Reverse ℕ)) (long short places : ℕ) → AreRows rows waiting long places → IsOut x waiting rest long short → is_idle (lookup (is_at (nat_cmp x.0)) rows) ≡ false → new ≡ rows → AreRows new rest short places
turn-skipped x rows new waiting rest long short places a o i is =
    let h = o.order a.order in
    subst (λ ps. AreRows ps rest short places) (sym is) (record {
      rising = a.rising;
      awaited = awaited-skipped x.0 waiting rest (still-waits x waiting rest o.moved) rows a.rising i a.awaited;
      order = h.0;
      room = omega (arith, a.room, o.shorter);
    })

held_in : List (ℕ × Bool) → ℕ
held_in [] = 0
held_in (q ∷ qs) = cond q.1 0 1 + held_in qs

counted-is : (rows : List (ℕ × Obj)) → counted_rows rows ≡ held_in (idle_in rows)
unfolding held_in
counted-is [] = refl
counted-is (p ∷ ps) = ap (λ k. cond (p.1.count == 0) 0 1 + k) (counted-is ps)

keys-are : (rows : List (ℕ × Obj)) → keys_of rows ≡ map (λ (q : ℕ × Bool). q.0) (idle_in rows)
keys-are [] = refl
keys-are (p ∷ ps) = ap (λ ks. p.0 ∷ ks) (keys-are ps)

abbrev Awaited : List (Reverse ℕ) → ℕ × Bool → Type 0
Awaited waiting q = q.1 ≡ true → waits waiting q.0 ≡ true

awaited-to : (waiting : List (Reverse ℕ)) (rows : List (ℕ × Obj)) → AllByRecursion (AwaitsRelease waiting) rows → AllByRecursion (Awaited waiting) (idle_in rows)
awaited-to waiting [] h = tt
awaited-to waiting (p ∷ ps) h = ((λ e. h.0 (eqb-true p.1.count 0 e)), awaited-to waiting ps h.1)

awaited-of : (waiting : List (Reverse ℕ)) (rows : List (ℕ × Obj)) → AllByRecursion (Awaited waiting) (idle_in rows) → AllByRecursion (AwaitsRelease waiting) rows
awaited-of waiting [] h = tt
awaited-of waiting (p ∷ ps) h = ((λ e. h.0 (eq-eqb p.1.count 0 e)), awaited-of waiting ps h.1)

-- what the rows keep depends on which objects have a holder alone
pub rows-kept : (old new : List (ℕ × Obj)) (waiting : List (Reverse ℕ)) (long places : ℕ) → idle_in new ≡ idle_in old → AreRows old waiting long places → AreRows new waiting long places
rows-kept old new waiting long places e a = record {
  rising = subst (λ ks. IsStrictlySortedBy nat_cmp ks) (keys-are old ∙ ap (λ (qs : List (ℕ × Bool)). map (λ (q : ℕ × Bool). q.0) qs) (sym e) ∙ sym (keys-are new)) a.rising;
  awaited = awaited-of waiting new (subst (λ qs. AllByRecursion (Awaited waiting) qs) (sym e) (awaited-to waiting old a.awaited));
  order = a.order;
  room = omega (arith, a.room, counted-is old, counted-is new, ap held_in e);
}

absent-edit : (n : ℕ) (f : Entry → Entry) (rows : List (ℕ × Obj)) → lookup (is_at (nat_cmp n)) rows ≡ None → entries_in rows ≡ at_first (is_entry n) f (entries_in rows)
absent-edit n f [] g = refl
absent-edit n f (p ∷ ps) g = step (p.0 == n) (lookup (is_at (nat_cmp n)) ps) (absent-edit n f ps) (subst (λ b. cond b (Some p.1) (lookup (is_at (nat_cmp n)) ps) ≡ None) (at-is n p.0) g)
  where
    step : (b : Bool) (o : Option Obj) → (o ≡ None → entries_in ps ≡ at_first (is_entry n) f (entries_in ps)) → cond b (Some p.1) o ≡ None → entries_in (p ∷ ps) ≡ cond b (f (entry_of p) ∷ entries_in ps) (entry_of p ∷ at_first (is_entry n) f (entries_in ps))
    step true o i h = cc
    step false o i h = ap (λ xs. entry_of p ∷ xs) (i h)

-- where there is no such object nothing changes
pub edit-none : (n : ℕ) (f : Entry → Entry) (rows new : List (ℕ × Obj)) → lookup (is_at (nat_cmp n)) rows ≡ None → new ≡ rows → IsRowEdit n f rows new
edit-none n f rows new g is = subst (λ ps. IsRowEdit n f rows ps) (sym is) (record { entries = absent-edit n f rows g; idle = refl })

idle-set : (n : ℕ) (v w : Obj) (rows : List (ℕ × Obj)) → lookup (is_at (nat_cmp n)) rows ≡ Some v → (w.count == 0) ≡ (v.count == 0) → idle_in (set_value (is_at (nat_cmp n)) rows w) ≡ idle_in rows
idle-set n v w [] g h = refl
idle-set n v w (p ∷ ps) g h = step (is_at (nat_cmp n) p.0) (lookup (is_at (nat_cmp n)) ps) (λ o. idle-set n v w ps o h) g
  where
    step : (b : Bool) (o : Option Obj) → (o ≡ Some v → idle_in (set_value (is_at (nat_cmp n)) ps w) ≡ idle_in ps) → cond b (Some p.1) o ≡ Some v → idle_in (cond b ((p.0, w) ∷ ps) (p ∷ set_value (is_at (nat_cmp n)) ps w)) ≡ idle_in (p ∷ ps)
    step true o i k = let y : p.1 ≡ v = cc in ap (λ b. (p.0, b) ∷ idle_in ps) (h ∙ ap (λ (x : Obj). x.count == 0) (sym y))
    step false o i k = ap (λ qs. (p.0, p.1.count == 0) ∷ qs) (i k)

pub edit-some : (n : ℕ) (f : Entry → Entry) (v w : Obj) (rows new : List (ℕ × Obj)) → lookup (is_at (nat_cmp n)) rows ≡ Some v → new ≡ set_value (is_at (nat_cmp n)) rows w → f (numbered n v) ≡ numbered n w → (w.count == 0) ≡ (v.count == 0) → IsRowEdit n f rows new
edit-some n f v w rows new g is h k = subst (λ ps. IsRowEdit n f rows ps) (sym is) (record { entries = set-first n v w f h rows g; idle = idle-set n v w rows g k })

set-back : (n : ℕ) (v : Obj) (rows : List (ℕ × Obj)) → lookup (is_at (nat_cmp n)) rows ≡ Some v → set_value (is_at (nat_cmp n)) rows v ≡ rows
set-back n v [] g = refl
set-back n v (p ∷ ps) g = step (is_at (nat_cmp n) p.0) (lookup (is_at (nat_cmp n)) ps) (set-back n v ps) g
  where
    step : (b : Bool) (o : Option Obj) → (o ≡ Some v → set_value (is_at (nat_cmp n)) ps v ≡ ps) → cond b (Some p.1) o ≡ Some v → cond b ((p.0, v) ∷ ps) (p ∷ set_value (is_at (nat_cmp n)) ps v) ≡ p ∷ ps
    step true o i k = let y : p.1 ≡ v = cc in ap (λ x. (p.0, x) ∷ ps) (sym y)
    step false o i k = ap (λ xs. p ∷ xs) (i k)

-- what is written back as it was leaves the rows
pub edit-back : (n : ℕ) (v w : Obj) (rows new : List (ℕ × Obj)) → lookup (is_at (nat_cmp n)) rows ≡ Some v → new ≡ set_value (is_at (nat_cmp n)) rows w → w ≡ v → new ≡ rows
edit-back n v w rows new g is e = is ∙ ap (λ x. set_value (is_at (nat_cmp n)) rows x) e ∙ set-back n v rows g

pub held-at : (n : ℕ) (v : Obj) (rows : List (ℕ × Obj)) → lookup (is_at (nat_cmp n)) rows ≡ Some v → AllByRecursion (λ (e : Entry). 0 < e.obj.count) (entries_in rows) → 0 < v.count
held-at n v [] g h = cc
held-at n v (p ∷ ps) g h = step (is_at (nat_cmp n) p.0) (lookup (is_at (nat_cmp n)) ps) (λ o. held-at n v ps o h.1) g
  where
    step : (b : Bool) (o : Option Obj) → (o ≡ Some v → 0 < v.count) → cond b (Some p.1) o ≡ Some v → 0 < v.count
    step true o i k = let y : p.1 ≡ v = cc in subst (λ (x : Obj). 0 < x.count) y h.0
    step false o i k = i k

pub raised-idle : (k : ℕ) → 0 < k → (k + 1 == 0) ≡ (k == 0)
raised-idle k h = ne_eqb (k + 1) 0 (λ (s : k + 1 ≡ 0). omega arith) ∙ sym (ne_eqb k 0 (λ (s : k ≡ 0). omega (arith, h)))

-- ---- the rows as the entries that are seen

from-numbered : (o : Option Obj) (n : ℕ) → option_map (λ (e : Entry). e.obj) (option_map (numbered n) o) ≡ o
from-numbered None n = refl
from-numbered (Some v) n = refl

pub seen-lookup : (n : ℕ) (rows : List (ℕ × Obj)) (es : List Entry) → entries_in rows ≡ es → lookup (is_at (nat_cmp n)) rows ≡ option_map (λ (e : Entry). e.obj) (first_that (is_entry n) es)
seen-lookup n rows es v = sym (from-numbered (lookup (is_at (nat_cmp n)) rows) n) ∙ ap (option_map (λ (e : Entry). e.obj)) (sym (lookup-first n rows) ∙ ap (first_that (is_entry n)) v)

pub row-of : (n : ℕ) (rows : List (ℕ × Obj)) (es : List Entry) (e : Entry) → entries_in rows ≡ es → first_that (is_entry n) es ≡ Some e → lookup (is_at (nat_cmp n)) rows ≡ Some e.obj
row-of n rows es e v g = seen-lookup n rows es v ∙ ap (option_map (λ (e : Entry). e.obj)) g

pub entry-of-row : (n : ℕ) (rows : List (ℕ × Obj)) (es : List Entry) (v : Obj) → entries_in rows ≡ es → lookup (is_at (nat_cmp n)) rows ≡ Some v → first_that (is_entry n) es ≡ Some (numbered n v)
entry-of-row n rows es v is g = ap (first_that (is_entry n)) (sym is) ∙ lookup-first n rows ∙ ap (option_map (numbered n)) g

pub all-push : {X : Type 0} (P : X → Type 0) (xs : List X) (x : X) → AllByRecursion P xs → P x → AllByRecursion P (xs ++ x ∷ [])
all-push P [] x h i = (i, tt)
all-push P (y ∷ xs) x h i = (h.0, all-push P xs x h.1 i)

counted-bound : (rows : List (ℕ × Obj)) → counted_rows rows ≤ length rows
counted-bound [] = omega arith
counted-bound (p ∷ ps) = one (p.1.count == 0) (counted-bound ps)
  where
    one : (b : Bool) → counted_rows ps ≤ length ps → cond b 0 1 + counted_rows ps ≤ suc (length ps)
    one true h = omega (arith, h)
    one false h = omega (arith, h)

pub record IsAdded (n : ℕ) (v : Obj) (rows new : List (ℕ × Obj)) (waiting : List (Reverse ℕ)) (long places : ℕ) : Type 0 where
  pub entries : entries_in new ≡ entries_in rows ++ numbered n v ∷ []
  pub stand : AreRows new waiting long places

-- an object behind the others, in room for as many as there are then
pub add-row : (n : ℕ) (v : Obj) (rows new : List (ℕ × Obj)) (waiting : List (Reverse ℕ)) (long old places : ℕ) → AreRows rows waiting long old → AllByRecursion (λ (e : Entry). e.number < n) (entries_in rows) → 0 < v.count → new ≡ insert_entry nat_cmp rows n v → IsStrictlySortedBy nat_cmp (keys_of new) → long + (length rows + 1) ≤ places → IsAdded n v rows new waiting long places
add-row n v rows new waiting long old places a below_all held is rising room =
    let made : new ≡ rows ++ (n, v) ∷ [] = is ∙ push-row n v rows below_all in
    record {
      entries = ap entries_in made ∙ map-append entry_of rows ((n, v) ∷ []);
      stand = record {
        rising = rising;
        awaited = subst (λ ps. AllByRecursion (AwaitsRelease waiting) ps) (sym made) (all-push (AwaitsRelease waiting) rows (n, v) a.awaited (λ z. absurd (let e : 0 < v.count = held in omega (arith, e, z))));
        order = a.order;
        room = omega (arith, counted-bound new, ap length made, length-append rows ((n, v) ∷ []), room);
      };
    }

-- one holder less, and perhaps one more that waits
pub lower-rows : (n : ℕ) (last : Bool) (rows new : List (ℕ × Obj)) (waiting more : List (Reverse ℕ)) (long longer old places : ℕ) → AreRows rows waiting long old → IsStrictlySortedBy nat_cmp (keys_of new) → counted_rows new + cond last 1 0 ≡ counted_rows rows → ((ws : List (Reverse ℕ)) → AllByRecursion (AwaitsRelease ws) rows → (last ≡ true → waits ws n ≡ true) → AllByRecursion (AwaitsRelease ws) new) → last ≡ true → IsPermutation (record { 0 = n } ∷ waiting) more → (IsHeap least_first waiting → IsHeap least_first more) → longer ≡ long + 1 → old ≤ places → AreRows new more longer places
lower-rows n last rows new waiting more long longer old places a rising counts keeps is moved order one room = record {
  rising = rising;
  awaited = keeps more (awaited-more waiting more (more-wait (record { 0 = n }) waiting more moved) rows a.awaited) (λ _. one-waits (record { 0 = n }) waiting more moved);
  order = order a.order;
  room = omega (arith, a.room, counts, ap {B = ℕ} (λ b. cond b 1 0) is, one, room);
}

pub kept-or-same : {X E : Type 0} (n : ℕ) (f : Entry → Entry) (old new : List (ℕ × Obj)) (waiting : List (Reverse ℕ)) (long places : ℕ) (r : Result X E) (P : E → Type 0) → OnOk r (IsRowEdit n f old new) → IfErr r (λ e. P e × (new ≡ old)) → AreRows old waiting long places → AreRows new waiting long places
kept-or-same n f old new waiting long places (Ok x) P h i a = rows-kept old new waiting long places h.idle a
kept-or-same n f old new waiting long places (Err e) P h i a = subst (λ ps. AreRows ps waiting long places) (sym i.1) a

-- what holds of the slots of the entry holds of the row
pub row-slots : (P : List Slot → Type 0) (n : ℕ) (rows : List (ℕ × Obj)) (es : List Entry) → entries_in rows ≡ es → (e : Entry) × (first_that (is_entry n) es ≡ Some e) × P e.obj.slots → (v : Obj) × (lookup (is_at (nat_cmp n)) rows ≡ Some v) × P v.slots
row-slots P n rows es is h = (h.0.obj, row-of n rows es h.0 is h.1, h.2)

pub filled-kept : {E : Type 0} (at : Place) (w : Fill) (n : ℕ) (old new : List (ℕ × Obj)) (waiting : List (Reverse ℕ)) (long places : ℕ) (r : Result Slot E) (P : E → Type 0) → IfOk r (λ out. FillsRow at w n old new (refs_of out)) → IfErr r (λ e. P e × (new ≡ old)) → AreRows old waiting long places → AreRows new waiting long places
filled-kept at w n old new waiting long places (Ok out) P h i a = rows-kept old new waiting long places h.4.idle a
filled-kept at w n old new waiting long places (Err e) P h i a = subst (λ ps. AreRows ps waiting long places) (sym i.1) a

pub fills-first : (at : Place) (w : Fill) (n : ℕ) (old new : List (ℕ × Obj)) (es : List Entry) (out : List ℕ) → entries_in old ≡ es → FillsRow at w n old new out → FillsFirst at w n es (entries_in new) out
fills-first at w n old new es out is h = (numbered n h.0, h.1, entry-of-row n old es h.0 is h.2, h.3, h.4.entries ∙ ap (at_first (is_entry n) (with_entry_slots (λ _. h.1))) is)

pub inserted-kept : (n at before : ℕ) (item : Slot) (old new : List (ℕ × Obj)) (waiting : List (Reverse ℕ)) (long places : ℕ) (r : Option Slot) → (r ≡ None → InsertsRow n at before item old new) → ((back : Slot) → r ≡ Some back → (back ≡ item) × (new ≡ old)) → AreRows old waiting long places → AreRows new waiting long places
inserted-kept n at before item old new waiting long places None h i a = rows-kept old new waiting long places (h refl).4.idle a
inserted-kept n at before item old new waiting long places (Some back) h i a = subst (λ ps. AreRows ps waiting long places) (sym (i back refl).1) a

pub inserts-first : (n at before : ℕ) (item : Slot) (old new : List (ℕ × Obj)) (es : List Entry) → entries_in old ≡ es → InsertsRow n at before item old new → InsertsFirst n at before item es (entries_in new)
inserts-first n at before item old new es is h = (numbered n h.0, h.1, entry-of-row n old es h.0 is h.2, h.3, h.4.entries ∙ ap (at_first (is_entry n) (with_entry_slot at (Items (insert h.1 before item)))) is)

pub drops-first : (n at k : ℕ) (old new : List (ℕ × Obj)) (es : List Entry) → entries_in old ≡ es → DropsRow n at k old new → DropsFirst n at k es (entries_in new)
drops-first n at k old new es is h = (numbered n h.0, h.1, entry-of-row n old es h.0 is h.2, h.3, h.4.entries ∙ ap (at_first (is_entry n) (with_entry_slot at (Members (without_first (is_member k) h.1)))) is)

-- more room to note objects that wait
pub roomier : (rows new : List (ℕ × Obj)) (ws vs : List (Reverse ℕ)) (long longer places more : ℕ) → new ≡ rows → vs ≡ ws → longer ≡ long → places ≤ more → AreRows rows ws long places → AreRows new vs longer more
roomier rows new ws vs long longer places more is alike len wide a =
    subst (λ ps. AreRows ps vs longer more) (sym is) (subst (λ xs. AreRows rows xs longer more) (sym alike) (record { rising = a.rising; awaited = a.awaited; order = a.order; room = omega (arith, a.room, len, wide) }))

-- one holder less of an object that still has one
pub lower-kept : (n : ℕ) (last : Bool) (rows new : List (ℕ × Obj)) (waiting : List (Reverse ℕ)) (long places : ℕ) → AreRows rows waiting long places → IsStrictlySortedBy nat_cmp (keys_of new) → counted_rows new + cond last 1 0 ≡ counted_rows rows → ((ws : List (Reverse ℕ)) → AllByRecursion (AwaitsRelease ws) rows → (last ≡ true → waits ws n ≡ true) → AllByRecursion (AwaitsRelease ws) new) → last ≡ false → AreRows new waiting long places
lower-kept n last rows new waiting long places a rising counts keeps is = record {
  rising = rising;
  awaited = keeps waiting a.awaited (λ e. let c : true ≡ false = sym e ∙ is in cc);
  order = a.order;
  room = omega (arith, a.room, counts, ap {B = ℕ} (λ b. cond b 1 0) is);
}
