-- The first key of an ordered list that passes a test.
use Rattle.std.proofs.Common.{◌≡◌, ◌≢◌, Bool, true, false, cond, List, [], ◌∷◌, Some, None, is_some, refl, sym, ap, ◌∙◌}
use Rattle.std.specs.declared.cmp.Ordering.{Ordering}
use Rattle.std.specs.declared.cmp.Ordering.TheVariants.{Less, Equal, Greater}
use Rattle.std.specs.Ordering.{is_eq, ordering_reverse}
use Rattle.std.specs.List.{find, AllByRecursion}
use Rattle.std.specs.List.Sorted.{IsStrictlySortedBy}
use Rattle.std.specs.Map.{lookup, keys_of}
use Rattle.std.specs.Cmp.{IsTotalOrder, tied_itself}
use Rattle.std.specs.FinMap.{IsAntisymmetric}
use Rattle.std.proofs.lemmas.Map.Keys.{sorted_head, sorted_tail}

pub tie : (r : Ordering) → is_eq r ≡ true → r ≡ Equal
tie Less h = cc
tie Equal h = refl
tie Greater h = cc

module _ {K X : Type 0} (R : K → K → Ordering) (o : IsTotalOrder R) (exact : IsAntisymmetric R) (p : K → Bool) where
  abbrev is_key : List (K × X) → K → Bool
  is_key es y = is_some (lookup (λ k. is_eq (R y k)) es)

  pub none_passes : (es : List (K × X)) → find p (keys_of es) ≡ None → (y : K) → is_key es y ≡ true → p y ≡ false
  none_passes [] e y h = cc
  none_passes (d ∷ es) e y h = by (none_passes es) (p d.0) refl (is_eq (R y d.0)) refl e h
    where
      by : (find p (keys_of es) ≡ None → (y : K) → is_key es y ≡ true → p y ≡ false)
          → (b : Bool) → p d.0 ≡ b → (t : Bool) → is_eq (R y d.0) ≡ t → cond b (Some d.0) (find p (keys_of es)) ≡ None → is_some (cond t (Some d.1) (lookup (λ k. is_eq (R y k)) es)) ≡ true → p y ≡ false
      by rest true q t s e h = cc
      by rest false q true s e h = ap p (exact y d.0 (tie _ s)) ∙ q
      by rest false q false s e h = rest e y h

  pub found_there : (es : List (K × X)) (x : K) → find p (keys_of es) ≡ Some x → is_key es x ≡ true
  found_there [] x e = cc
  found_there (d ∷ es) x e = by (found_there es x) (p d.0) e (is_eq (R x d.0)) refl
    where
      by : (find p (keys_of es) ≡ Some x → is_key es x ≡ true) → (b : Bool) → cond b (Some d.0) (find p (keys_of es)) ≡ Some x → (t : Bool) → is_eq (R x d.0) ≡ t
          → is_some (cond t (Some d.1) (lookup (λ k. is_eq (R x k)) es)) ≡ true
      by rest b e true s = refl
      by rest true e false s = let same : d.0 ≡ x = cc in cc (ap (λ y. is_eq (R x y)) same, ap is_eq (tied_itself o x), s)
      by rest false e false s = rest e

  pub found_passes : (es : List (K × X)) (x : K) → find p (keys_of es) ≡ Some x → p x ≡ true
  found_passes [] x e = cc
  found_passes (d ∷ es) x e = by (found_passes es x) (p d.0) refl e
    where
      by : (find p (keys_of es) ≡ Some x → p x ≡ true) → (b : Bool) → p d.0 ≡ b → cond b (Some d.0) (find p (keys_of es)) ≡ Some x → p x ≡ true
      by rest true q e = let same : d.0 ≡ x = cc in ap p (sym same) ∙ q
      by rest false q e = rest e

  pub later : (k : K) (es : List (K × X)) → AllByRecursion (λ y. R k y ≡ Less) (keys_of es) → (y : K) → is_key es y ≡ true → R k y ≡ Less
  later k [] b y h = cc
  later k (d ∷ es) b y h = by (later k es b.1) (is_eq (R y d.0)) refl h
    where
      by : ((y : K) → is_key es y ≡ true → R k y ≡ Less) → (t : Bool) → is_eq (R y d.0) ≡ t → is_some (cond t (Some d.1) (lookup (λ k. is_eq (R y k)) es)) ≡ true → R k y ≡ Less
      by rest true s h = ap (R k) (exact y d.0 (tie _ s)) ∙ b.0
      by rest false s h = rest y h

  pub found_first : (es : List (K × X)) (x : K) → IsStrictlySortedBy R (keys_of es) → find p (keys_of es) ≡ Some x → (y : K) → is_key es y ≡ true → p y ≡ true → R y x ≢ Less
  found_first [] x s e y h q = cc
  found_first (d ∷ es) x s e y h q = by (found_first es x (sorted_tail R d.0 (keys_of es) s)) (p d.0) refl (is_eq (R y d.0)) refl e h
    where
      by : (find p (keys_of es) ≡ Some x → (y : K) → is_key es y ≡ true → p y ≡ true → R y x ≢ Less)
          → (b : Bool) → p d.0 ≡ b → (t : Bool) → is_eq (R y d.0) ≡ t → cond b (Some d.0) (find p (keys_of es)) ≡ Some x → is_some (cond t (Some d.1) (lookup (λ k. is_eq (R y k)) es)) ≡ true → R y x ≢ Less
      by rest true r true u e h lt = let same : d.0 ≡ x = cc in cc (tied_itself o x, ap (λ z. R z x) (exact y d.0 (tie _ u) ∙ same), lt)
      by rest true r false u e h lt =
          let same : d.0 ≡ x = cc in
          let after = later d.0 es (sorted_head R d.0 (keys_of es) s) y h in
          cc (o.antisymm y d.0 ∙ ap ordering_reverse after, ap (R y) same, lt)
      by rest false r true u e h lt = cc (ap p (exact y d.0 (tie _ u)), r, q)
      by rest false r false u e h lt = rest e y h q lt
