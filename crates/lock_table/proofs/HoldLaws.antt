-- What the changes of a table keep.
use Rattle.std.proofs.Common.{◌≡◌, ◌-◌, Bool, true, false, cond, ◌||◌, List, [], ◌∷◌, Option, Some, None, is_some, unwrap_or, refl, sym, ap, ap₂, subst, ◌∙◌, arith, IsTrue, ◌⊎◌, inl, inr}
use Rattle.std.specs.declared.cmp.Ordering.{Ordering}
use Rattle.std.specs.declared.cmp.Ordering.TheVariants.{Less, Equal, Greater}
use Rattle.std.specs.Ordering.{eq_by_cmp, is_eq}
use Rattle.std.specs.FinMap.{get, insert, remove, retain_keys, entries, contains_key, is_sorted, get-insert, get-remove, get-retain_keys, get-entries, get-from_sorted, entries_sorted}
use Rattle.std.specs.FinMap.Entries.{below_all}
use Rattle.std.specs.FinMap.Entries as rows
use Rattle.std.proofs.lemmas.Bool.Decides.{nat_tests}
use Rattle.obj_kinds.specs.declared.op.Keep.{Keep}
use Rattle.obj_kinds.specs.declared.op.Keep.TheVariants.{Counted, ToEnd}
use Rattle.lock_table.specs.declared.hold.Hold.{Hold}
use Rattle.lock_table.specs.declared.hold.Kept.{Kept}
use Rattle.lock_table.specs.Holds.{Holds, hold_cmp, kept, unheld, is_counted, is_held, put, rekept, changed, raised, granted, lowered, stays, given_back}
use Rattle.lock_table.specs.Conflict.{conflicts, refusing, asked}
use Rattle.lock_table.specs.Calls.{IsFree, AllHeld}
use Rattle.lock_table.proofs.HoldOrder.{hold_total, hold_exact}
use Rattle.obj_kinds.proofs.Sorted.{truth, stays as is_true, first, second, both, less}

tie : (r : Ordering) → is_eq r ≡ true → r ≡ Equal
tie Less h = cc
tie Equal h = refl
tie Greater h = cc

pub one_hold : (q h : Hold) → eq_by_cmp hold_cmp q h ≡ true → q ≡ h
one_hold q h e = hold_exact q h (tie _ e)

-- ---- what a hold is kept as after a change of all
below_rekept : (f : Hold → Kept → Kept) (h : Hold) (es : List (Hold × Kept)) → IsTrue (below_all hold_cmp h es) → IsTrue (below_all hold_cmp h (rekept f es))
below_rekept f h [] b = b
below_rekept f h (e ∷ es) b = by (is_held (f e.0 e.1)) (below_rekept f h es (second _ _ b))
  where
    by : (c : Bool) → IsTrue (below_all hold_cmp h (rekept f es)) → IsTrue (below_all hold_cmp h (cond c ((e.0, f e.0 e.1) ∷ rekept f es) (rekept f es)))
    by true rest = both _ _ (first _ _ b) rest
    by false rest = rest

rekept_sorted : (f : Hold → Kept → Kept) (es : List (Hold × Kept)) → IsTrue (is_sorted hold_cmp es) → IsTrue (is_sorted hold_cmp (rekept f es))
rekept_sorted f [] s = s
rekept_sorted f (e ∷ es) s = by (is_held (f e.0 e.1)) (rekept_sorted f es (second _ _ s))
  where
    by : (c : Bool) → IsTrue (is_sorted hold_cmp (rekept f es)) → IsTrue (is_sorted hold_cmp (cond c ((e.0, f e.0 e.1) ∷ rekept f es) (rekept f es)))
    by true rest = both _ _ (below_rekept f e.0 es (first _ _ s)) rest
    by false rest = rest

abbrev pub rekept_at : (Hold → Kept → Kept) → Hold → Option Kept → Option Kept
rekept_at f q None = None
rekept_at f q (Some c) = cond (is_held (f q c)) (Some (f q c)) None

not_below : (f : Hold → Kept → Kept) (q : Hold) (es : List (Hold × Kept)) → IsTrue (below_all hold_cmp q es) → rows.find hold_cmp q (rekept f es) ≡ None
not_below f q [] b = refl
not_below f q (e ∷ es) b = by (is_held (f e.0 e.1)) (not_below f q es (second _ _ b))
  where
    by : (c : Bool) → rows.find hold_cmp q (rekept f es) ≡ None → rows.find hold_cmp q (cond c ((e.0, f e.0 e.1) ∷ rekept f es) (rekept f es)) ≡ None
    by true rest = ap (λ r. cond (is_eq r) (Some (f e.0 e.1)) (rows.find hold_cmp q (rekept f es))) (less _ (first _ _ b)) ∙ rest
    by false rest = rest

find_rekept : (f : Hold → Kept → Kept) (q : Hold) (es : List (Hold × Kept)) → IsTrue (is_sorted hold_cmp es) → rows.find hold_cmp q (rekept f es) ≡ rekept_at f q (rows.find hold_cmp q es)
find_rekept f q [] s = refl
find_rekept f q (e ∷ es) s = by (eq_by_cmp hold_cmp q e.0) refl (is_held (f e.0 e.1)) refl (find_rekept f q es (second _ _ s))
  where
    by : (t : Bool) → eq_by_cmp hold_cmp q e.0 ≡ t → (b : Bool) → is_held (f e.0 e.1) ≡ b → rows.find hold_cmp q (rekept f es) ≡ rekept_at f q (rows.find hold_cmp q es)
        → rows.find hold_cmp q (cond b ((e.0, f e.0 e.1) ∷ rekept f es) (rekept f es)) ≡ rekept_at f q (cond t (Some e.1) (rows.find hold_cmp q es))
    by true p true h rest =
        let same = one_hold q e.0 p in
        ap (λ t. cond t (Some (f e.0 e.1)) (rows.find hold_cmp q (rekept f es))) p
        ∙ sym (ap (λ x. cond (is_held (f x e.1)) (Some (f x e.1)) None) same ∙ ap (λ b. cond b (Some (f e.0 e.1)) None) h)
    by true p false h rest =
        let same = one_hold q e.0 p in
        ap (λ x. rows.find hold_cmp x (rekept f es)) same ∙ not_below f e.0 es (first _ _ s)
        ∙ sym (ap (λ x. cond (is_held (f x e.1)) (Some (f x e.1)) None) same ∙ ap (λ b. cond b (Some (f e.0 e.1)) None) h)
    by false p true h rest = ap (λ t. cond t (Some (f e.0 e.1)) (rows.find hold_cmp q (rekept f es))) p ∙ rest
    by false p false h rest = rest

pub get-changed : (f : Hold → Kept → Kept) (hs : Holds) (q : Hold) → get (changed f hs) q ≡ rekept_at f q (get hs q)
unfolding changed
get-changed f hs q =
    let sorted = is_true _ (entries_sorted hs) in
    get-from_sorted hold_cmp (rekept f (entries hs)) q (truth _ (rekept_sorted f (entries hs) sorted))
    ∙ find_rekept f q (entries hs) sorted
    ∙ ap (rekept_at f q) (sym (get-entries hs q))

pub get-put : (hs : Holds) (h : Hold) (c : Kept) (q : Hold) → get (put hs h c) q ≡ cond (eq_by_cmp hold_cmp q h) (cond (is_held c) (Some c) None) (get hs q)
unfolding put
get-put hs h c q = by (is_held c)
  where
    by : (b : Bool) → get (cond b (insert hs h c) (remove hs h)) q ≡ cond (eq_by_cmp hold_cmp q h) (cond b (Some c) None) (get hs q)
    by true = get-insert hold_total hs h c q
    by false = get-remove hold_total hs h q

pub get-dropped : (hs : Holds) (p : Hold → Bool) (q : Hold) → get (retain_keys hs p) q ≡ cond (p q) (get hs q) None
get-dropped hs p q = get-retain_keys hs p q (λ x t. ap p (sym (hold_exact q x t)))

-- ---- each hold of the new table is one of the old table
abbrev pub IsWithin : Holds → Holds → Type 0
IsWithin new old = (h : Hold) → contains_key new h ≡ true → contains_key old h ≡ true

pub counted_is_there : (hs : Holds) (h : Hold) → is_counted (kept hs h) ≡ true → contains_key hs h ≡ true
counted_is_there hs h e = by (get hs h) e
  where
    by : (o : Option Kept) → is_counted (unwrap_or o unheld) ≡ true → is_some o ≡ true
    by None e = cc
    by (Some c) e = refl

pub changed_within : (f : Hold → Kept → Kept) (hs : Holds) → IsWithin (changed f hs) hs
changed_within f hs h e = by (get hs h) (sym (ap is_some (get-changed f hs h)) ∙ e)
  where
    by : (o : Option Kept) → is_some (rekept_at f h o) ≡ true → is_some o ≡ true
    by None e = e
    by (Some c) e = refl

pub put_within : (hs : Holds) (h : Hold) (c : Kept) → contains_key hs h ≡ true → IsWithin (put hs h c) hs
put_within hs h c there q e = by (eq_by_cmp hold_cmp q h) refl (sym (ap is_some (get-put hs h c q)) ∙ e)
  where
    by : (t : Bool) → eq_by_cmp hold_cmp q h ≡ t → is_some (cond t (cond (is_held c) (Some c) None) (get hs q)) ≡ true → contains_key hs q ≡ true
    by true p e = ap (contains_key hs) (one_hold q h p) ∙ there
    by false p e = e

pub given_back_within : (hs : Holds) (h : Hold) (in_tran : Bool) → IsWithin (given_back hs h in_tran) hs
unfolding given_back
given_back_within hs h in_tran = by (is_counted (kept hs h)) refl
  where
    by : (b : Bool) → is_counted (kept hs h) ≡ b → IsWithin (cond b (put hs h (lowered (stays in_tran h) ((kept hs h).counted - 1) (kept hs h))) hs) hs
    by true e = put_within hs h _ (counted_is_there hs h e)
    by false e = λ q there. there

pub dropped_within : (hs : Holds) (p : Hold → Bool) → IsWithin (retain_keys hs p) hs
dropped_within hs p h e = by (p h) (sym (ap is_some (get-dropped hs p h)) ∙ e)
  where
    by : (b : Bool) → is_some (cond b (get hs h) None) ≡ true → contains_key hs h ≡ true
    by true e = e
    by false e = cc

-- ---- conflict
pub conflicts_sym : (a b : Hold) → conflicts a b ≡ conflicts b a
unfolding conflicts
conflicts_sym a b = grind (arith, nat_tests)

pub not_itself : (h : Hold) → conflicts h h ≡ false
unfolding conflicts
not_itself h = grind (arith, nat_tests)

pub kept_free : (new old : Holds) → IsWithin new old → IsFree old → IsFree new
kept_free new old within free a b there there' = free a b (within a there) (within b there')

-- a hold that no other refuses may come
pub granted_free : (hs : Holds) (h : Hold) (k : Keep) → ((x : Hold) → contains_key hs x ≡ true → conflicts h x ≡ false) → IsFree hs → IsFree (granted hs h k)
unfolding granted
granted_free hs h k none free a b there there' =
    by (eq_by_cmp hold_cmp a h) (eq_by_cmp hold_cmp b h) refl refl (sym (ap is_some (get-insert hold_total hs h _ a)) ∙ there) (sym (ap is_some (get-insert hold_total hs h _ b)) ∙ there')
  where
    by : (s t : Bool) → eq_by_cmp hold_cmp a h ≡ s → eq_by_cmp hold_cmp b h ≡ t
        → is_some (cond s (Some (raised k (kept hs h))) (get hs a)) ≡ true → is_some (cond t (Some (raised k (kept hs h))) (get hs b)) ≡ true → conflicts a b ≡ false
    by true true p q i j = ap₂ conflicts (one_hold a h p) (one_hold b h q) ∙ not_itself h
    by true false p q i j = ap (λ x. conflicts x b) (one_hold a h p) ∙ none b j
    by false true p q i j = ap (conflicts a) (one_hold b h q) ∙ conflicts_sym a h ∙ none a i
    by false false p q i j = free a b i j

pub asked_free : (hs : Holds) (h : Hold) (k : Keep) → (refusing hs h ≡ None → (x : Hold) → contains_key hs x ≡ true → conflicts h x ≡ false) → IsFree hs → IsFree (asked hs h k)
asked_free hs h k none free = by (refusing hs h) refl
  where
    by : (o : Option Hold) → refusing hs h ≡ o → IsFree (cond (is_some o) hs (granted hs h k))
    by None e = granted_free hs h k (none e) free
    by (Some x) e = free

-- ---- no hold is kept that is not held
abbrev IsHeldAt : Option Kept → Type 0
IsHeldAt o = is_some o ≡ true → is_held (unwrap_or o unheld) ≡ true

held_if : (c : Kept) → IsHeldAt (cond (is_held c) (Some c) None)
held_if c = by (is_held c) refl
  where
    by : (b : Bool) → is_held c ≡ b → IsHeldAt (cond b (Some c) None)
    by true e = λ there. e
    by false e = λ there. cc

pub changed_held : (f : Hold → Kept → Kept) (hs : Holds) → AllHeld (changed f hs)
changed_held f hs q = subst IsHeldAt (sym (get-changed f hs q)) (by (get hs q))
  where
    by : (o : Option Kept) → IsHeldAt (rekept_at f q o)
    by None = λ there. cc
    by (Some c) = held_if (f q c)

held_or : (t : Bool) (o o' : Option Kept) → IsHeldAt o → IsHeldAt o' → IsHeldAt (cond t o o')
held_or true o o' h h' = h
held_or false o o' h h' = h'

put_held : (hs : Holds) (h : Hold) (c : Kept) → AllHeld hs → AllHeld (put hs h c)
put_held hs h c held q = subst IsHeldAt (sym (get-put hs h c q)) (held_or (eq_by_cmp hold_cmp q h) (cond (is_held c) (Some c) None) (get hs q) (held_if c) (held q))

pub given_back_held : (hs : Holds) (h : Hold) (in_tran : Bool) → AllHeld hs → AllHeld (given_back hs h in_tran)
unfolding given_back
given_back_held hs h in_tran held = by (is_counted (kept hs h))
  where
    by : (b : Bool) → AllHeld (cond b (put hs h (lowered (stays in_tran h) ((kept hs h).counted - 1) (kept hs h))) hs)
    by true = put_held hs h _ held
    by false = held

pub dropped_held : (hs : Holds) (p : Hold → Bool) → AllHeld hs → AllHeld (retain_keys hs p)
dropped_held hs p held q = subst IsHeldAt (sym (get-dropped hs p q)) (held_or (p q) (get hs q) None (held q) (λ there. cc))

pub raised_held : (k : Keep) (c : Kept) → is_held (raised k c) ≡ true
raised_held Counted c = grind (arith, nat_tests)
raised_held ToEnd c = or_true (is_counted c)
  where
    or_true : (b : Bool) → b || true ≡ true
    or_true true = refl
    or_true false = refl

pub granted_held : (hs : Holds) (h : Hold) (k : Keep) → AllHeld hs → AllHeld (granted hs h k)
unfolding granted
granted_held hs h k held q = subst IsHeldAt (sym (get-insert hold_total hs h (raised k (kept hs h)) q)) (held_or (eq_by_cmp hold_cmp q h) (Some (raised k (kept hs h))) (get hs q) (λ there. raised_held k (kept hs h)) (held q))

pub asked_held : (hs : Holds) (h : Hold) (k : Keep) → AllHeld hs → AllHeld (asked hs h k)
asked_held hs h k held = by (is_some (refusing hs h))
  where
    by : (b : Bool) → AllHeld (cond b hs (granted hs h k))
    by true = held
    by false = granted_held hs h k held

-- ---- what a lock may add
granted_keys : (hs : Holds) (h : Hold) (k : Keep) (x : Hold) → contains_key (granted hs h k) x ≡ true → (x ≡ h) ⊎ (contains_key hs x ≡ true)
unfolding granted
granted_keys hs h k x there = by (eq_by_cmp hold_cmp x h) refl (sym (ap is_some (get-insert hold_total hs h (raised k (kept hs h)) x)) ∙ there)
  where
    by : (t : Bool) → eq_by_cmp hold_cmp x h ≡ t → is_some (cond t (Some (raised k (kept hs h))) (get hs x)) ≡ true → (x ≡ h) ⊎ (contains_key hs x ≡ true)
    by true e i = inl (one_hold x h e)
    by false e i = inr i

pub asked_keys : (hs : Holds) (h : Hold) (k : Keep) (x : Hold) → contains_key (asked hs h k) x ≡ true → (x ≡ h) ⊎ (contains_key hs x ≡ true)
asked_keys hs h k x = by (is_some (refusing hs h))
  where
    by : (b : Bool) → contains_key (cond b hs (granted hs h k)) x ≡ true → (x ≡ h) ⊎ (contains_key hs x ≡ true)
    by true e = inr e
    by false e = granted_keys hs h k x e
