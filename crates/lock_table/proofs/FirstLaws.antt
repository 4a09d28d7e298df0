-- The hold that a search of the keys finds is the first of those that pass.
use Rattle.std.proofs.Common.{◌≡◌, ◌≢◌, Bool, true, false, cond, ◌||◌, List, [], ◌∷◌, map, Option, Some, None, refl, sym, ap, subst, ◌∙◌, IsTrue}
use Rattle.std.specs.declared.cmp.Ordering.{Ordering}
use Rattle.std.specs.declared.cmp.Ordering.TheVariants.{Less, Equal, Greater}
use Rattle.std.specs.Ordering.{eq_by_cmp, is_eq}
use Rattle.std.specs.List.{find, list_any}
use Rattle.std.specs.Cmp.{tied_itself}
use Rattle.std.specs.FinMap.{entries, contains_key, contains_key-keys, entries_sorted, is_sorted}
use Rattle.std.specs.FinMap.Entries.{below_all}
use Rattle.lock_table.specs.declared.hold.Hold.{Hold}
use Rattle.lock_table.specs.declared.hold.Kept.{Kept}
use Rattle.lock_table.specs.Holds.{Holds, hold_cmp}
use Rattle.lock_table.specs.Conflict.{conflicts, refusing}
use Rattle.lock_table.specs.Calls.{IsFirstAgainst}
use Rattle.lock_table.proofs.HoldOrder.{hold_total, hold_exact}
use Rattle.lock_table.proofs.HoldLaws.{one_hold}
use Rattle.obj_kinds.proofs.Sorted.{stays, first, second, less, turned}

abbrev holds_of : List (Hold × Kept) → List Hold
holds_of es = map (λ e. e.0) es

abbrev has : List (Hold × Kept) → Hold → Bool
has es x = list_any (eq_by_cmp hold_cmp x) (holds_of es)

itself : (x : Hold) → eq_by_cmp hold_cmp x x ≡ true
itself x = ap is_eq (tied_itself hold_total x)

or_first : (a b : Bool) → a ≡ true → a || b ≡ true
or_first a b e = ap (λ c. c || b) e

or_second : (a b : Bool) → b ≡ true → a || b ≡ true
or_second true b e = refl
or_second false b e = e

module _ (p : Hold → Bool) where
  -- nothing found: none passes
  none_passes : (es : List (Hold × Kept)) → find p (holds_of es) ≡ None → (x : Hold) → has es x ≡ true → p x ≡ false
  none_passes [] none x h = cc
  none_passes (e ∷ es) none x h = by (none_passes es) (p e.0) refl (eq_by_cmp hold_cmp x e.0) refl none h
    where
      by : (find p (holds_of es) ≡ None → (x : Hold) → has es x ≡ true → p x ≡ false)
          → (b : Bool) → p e.0 ≡ b → (t : Bool) → eq_by_cmp hold_cmp x e.0 ≡ t → cond b (Some e.0) (find p (holds_of es)) ≡ None → t || has es x ≡ true → p x ≡ false
      by rest true q t s none h = cc
      by rest false q true s none h = ap p (one_hold x e.0 s) ∙ q
      by rest false q false s none h = rest none x h

  nothing_found : (es : List (Hold × Kept)) → ((x : Hold) → has es x ≡ true → p x ≡ false) → find p (holds_of es) ≡ None
  nothing_found [] none = refl
  nothing_found (e ∷ es) none =
      ap (λ b. cond b (Some e.0) (find p (holds_of es))) (none e.0 (or_first _ _ (itself e.0)))
      ∙ nothing_found es (λ x h. none x (or_second _ _ h))

  -- what is found is there, and passes
  found_there : (es : List (Hold × Kept)) (x : Hold) → find p (holds_of es) ≡ Some x → has es x ≡ true
  found_there [] x e = cc
  found_there (d ∷ es) x e = by (found_there es x) (p d.0) e
    where
      by : (find p (holds_of es) ≡ Some x → has es x ≡ true) → (b : Bool) → cond b (Some d.0) (find p (holds_of es)) ≡ Some x → has (d ∷ es) x ≡ true
      by rest true e = let same : d.0 ≡ x = cc in or_first _ _ (subst (λ y. eq_by_cmp hold_cmp x y ≡ true) (sym same) (itself x))
      by rest false e = or_second _ _ (rest e)

  found_passes : (es : List (Hold × Kept)) (x : Hold) → find p (holds_of es) ≡ Some x → p x ≡ true
  found_passes [] x e = cc
  found_passes (d ∷ es) x e = by (found_passes es x) (p d.0) refl e
    where
      by : (find p (holds_of es) ≡ Some x → p x ≡ true) → (b : Bool) → p d.0 ≡ b → cond b (Some d.0) (find p (holds_of es)) ≡ Some x → p x ≡ true
      by rest true q e = let same : d.0 ≡ x = cc in ap p (sym same) ∙ q
      by rest false q e = rest e

  later : (x : Hold) (es : List (Hold × Kept)) → IsTrue (below_all hold_cmp x es) → (y : Hold) → has es y ≡ true → hold_cmp x y ≡ Less
  later x [] b y h = cc
  later x (e ∷ es) b y h = by (later x es (second _ _ b)) (eq_by_cmp hold_cmp y e.0) refl h
    where
      by : ((y : Hold) → has es y ≡ true → hold_cmp x y ≡ Less) → (t : Bool) → eq_by_cmp hold_cmp y e.0 ≡ t → t || has es y ≡ true → hold_cmp x y ≡ Less
      by rest true s h = ap (hold_cmp x) (one_hold y e.0 s) ∙ less _ (first _ _ b)
      by rest false s h = rest y h

  -- and none before it does
  found_first : (es : List (Hold × Kept)) (x : Hold) → IsTrue (is_sorted hold_cmp es) → find p (holds_of es) ≡ Some x → (y : Hold) → has es y ≡ true → p y ≡ true → hold_cmp y x ≢ Less
  found_first [] x s e y h q = cc
  found_first (d ∷ es) x s e y h q = by (found_first es x (second _ _ s)) (p d.0) refl (eq_by_cmp hold_cmp y d.0) refl e h
    where
      by : (find p (holds_of es) ≡ Some x → (y : Hold) → has es y ≡ true → p y ≡ true → hold_cmp y x ≢ Less)
          → (b : Bool) → p d.0 ≡ b → (t : Bool) → eq_by_cmp hold_cmp y d.0 ≡ t → cond b (Some d.0) (find p (holds_of es)) ≡ Some x → t || has es y ≡ true → hold_cmp y x ≢ Less
      by rest true r true u e h lt = let same : d.0 ≡ x = cc in cc (tied_itself hold_total x, ap (λ z. hold_cmp z x) (one_hold y d.0 u ∙ same), lt)
      by rest true r false u e h lt = let same : d.0 ≡ x = cc in cc (turned hold_cmp hold_total d.0 y Less (later d.0 es (first _ _ s) y h), ap (hold_cmp y) same, lt)
      by rest false r true u e h lt = cc (ap p (one_hold y d.0 u), r, q)
      by rest false r false u e h lt = rest e y h q lt

there_is : (hs : Holds) (x : Hold) → contains_key hs x ≡ has (entries hs) x
there_is hs x = contains_key-keys hs x

pub first_is : (hs : Holds) (h x : Hold) → refusing hs h ≡ Some x → IsFirstAgainst hs h x
unfolding refusing
first_is hs h x e = record {
  is_there = there_is hs x ∙ found_there (conflicts h) (entries hs) x e;
  in_conflict = found_passes (conflicts h) (entries hs) x e;
  none_before = λ y there c. found_first (conflicts h) (entries hs) x (stays _ (entries_sorted hs)) e y (sym (there_is hs y) ∙ there) c;
}

pub none_is : (hs : Holds) (h : Hold) → refusing hs h ≡ None → (x : Hold) → contains_key hs x ≡ true → conflicts h x ≡ false
unfolding refusing
none_is hs h e x there = none_passes (conflicts h) (entries hs) e x (sym (there_is hs x) ∙ there)

pub is_none : (hs : Holds) (h : Hold) → ((x : Hold) → contains_key hs x ≡ true → conflicts h x ≡ false) → refusing hs h ≡ None
unfolding refusing
is_none hs h none = nothing_found (conflicts h) (entries hs) (λ x there. none x (there_is hs x ∙ there))

-- no two are first
pub is_first : (hs : Holds) (h x : Hold) → IsFirstAgainst hs h x → refusing hs h ≡ Some x
is_first hs h x a = by (refusing hs h) refl
  where
    same : (y : Hold) → IsFirstAgainst hs h y → y ≡ x
    same y b = at (hold_cmp y x) refl
      where
        at : (r : Ordering) → hold_cmp y x ≡ r → y ≡ x
        at Less e = absurd (a.none_before y b.is_there b.in_conflict e)
        at Equal e = hold_exact y x e
        at Greater e = absurd (b.none_before x a.is_there a.in_conflict (turned hold_cmp hold_total y x Greater e))

    by : (o : Option Hold) → refusing hs h ≡ o → refusing hs h ≡ Some x
    by None e = cc (none_is hs h e x a.is_there, a.in_conflict)
    by (Some y) e = e ∙ ap (λ z. Some z) (same y (first_is hs h y e))
