-- The part of a sorted list of pairs for whose values a function has an answer.
use Rattle.std.proofs.Common.{◌≡◌, ℕ, zero, suc, ◌<◌, length, get_or, Bool, true, false, cond, ◌&&◌, List, [], ◌∷◌, Option, Some, None, option_and_then, refl, sym, ap, ◌∙◌, arith, IsTrue}
use Rattle.std.specs.declared.cmp.Ordering.{Ordering}
use Rattle.std.specs.declared.cmp.Ordering.TheVariants.{Less, Equal, Greater}
use Rattle.std.specs.Ordering.{eq_by_cmp, is_eq, is_lt}
use Rattle.std.specs.Cmp.{IsTotalOrder}
use Rattle.std.specs.List.{remove}
use Rattle.std.specs.FinMap.{IsAntisymmetric, find, put, is_sorted, from_sorted, get, same_map}
use Rattle.std.specs.FinMap.Entries.{below_all, find-put}
use Rattle.global_tree.specs.Maps.{placed}
use Rattle.global_tree.specs.Places.{part, part_by}
use Rattle.global_tree.proofs.MapLaws.{get-placed, one_key}
use Rattle.obj_kinds.proofs.Sorted.{get_sorted, sorted_put}

pub first : (a b : Bool) → IsTrue (a && b) → IsTrue a
first true b h = refl
first false b h = cc

pub second : (a b : Bool) → IsTrue (a && b) → IsTrue b
second true b h = h
second false b h = cc

pub both : (a b : Bool) → IsTrue a → IsTrue b → IsTrue (a && b)
both true b h k = k
both false b h k = cc

less : (r : Ordering) → IsTrue (is_lt r) → r ≡ Less
less Less h = refl
less Equal h = cc
less Greater h = cc

module _ {K X : Type 0} (R : K → K → Ordering) (o : IsTotalOrder R) (exact : IsAntisymmetric R) where
  -- no key of the list ties with one below all of it
  pub find_below : (q x : K) (es : List (K × X)) → IsTrue (below_all R x es) → eq_by_cmp R q x ≡ true → find R q es ≡ None
  find_below q x [] h tie = refl
  find_below q x (e ∷ es) h tie = at (eq_by_cmp R q e.0) refl (find_below q x es (second _ _ h) tie)
    where
      at : (b : Bool) → eq_by_cmp R q e.0 ≡ b → find R q es ≡ None → cond b (Some e.1) (find R q es) ≡ None
      at true g rest =
          let qe : q ≡ e.0 = one_key exact q e.0 g in
          let qx : q ≡ x = one_key exact q x tie in
          let lt : R x e.0 ≡ Less = less _ (first _ _ h) in
          let tied : R x e.0 ≡ R q e.0 = ap (λ y. R y e.0) (sym qx) in
          let is : is_eq (R q e.0) ≡ true = g in
          let was : is_eq (R x e.0) ≡ false = ap is_eq lt in
          cc (ap is_eq tied)
      at false g rest = rest

module _ {K X Y : Type 0} (R : K → K → Ordering) (o : IsTotalOrder R) (exact : IsAntisymmetric R) (f : X → Option Y) where
  below-part : (x : K) (es : List (K × X)) → IsTrue (below_all R x es) → IsTrue (below_all R x (part f es))
  below-part x [] h = refl
  below-part x (e ∷ es) h = by (f e.1) (below-part x es (second _ _ h))
    where
      by : (y : Option Y) → IsTrue (below_all R x (part f es)) → IsTrue (below_all R x (part_by e.0 y (part f es)))
      by None rest = rest
      by (Some y) rest = both _ _ (first _ _ h) rest

  pub sorted-part : (es : List (K × X)) → IsTrue (is_sorted R es) → IsTrue (is_sorted R (part f es))
  sorted-part [] h = refl
  sorted-part (e ∷ es) h = by (f e.1) (sorted-part es (second _ _ h))
    where
      by : (y : Option Y) → IsTrue (is_sorted R (part f es)) → IsTrue (is_sorted R (part_by e.0 y (part f es)))
      by None rest = rest
      by (Some y) rest = both _ _ (below-part e.0 es (first _ _ h)) rest

  pub find-part : (es : List (K × X)) → IsTrue (is_sorted R es) → (q : K) → find R q (part f es) ≡ option_and_then f (find R q es)
  find-part [] h q = refl
  find-part (e ∷ es) h q = by (f e.1) refl (eq_by_cmp R q e.0) refl (find-part es (second _ _ h) q)
    where
      by : (y : Option Y) → f e.1 ≡ y → (b : Bool) → eq_by_cmp R q e.0 ≡ b → find R q (part f es) ≡ option_and_then f (find R q es) → find R q (part_by e.0 y (part f es)) ≡ option_and_then f (cond b (Some e.1) (find R q es))
      by None is true g rest = rest ∙ ap (option_and_then f) (find_below R o exact q e.0 es (first _ _ h) g) ∙ sym is
      by None is false g rest = rest
      by (Some y) is true g rest = ap (λ b. cond b (Some y) (find R q (part f es))) g ∙ sym is
      by (Some y) is false g rest = ap (λ b. cond b (Some y) (find R q (part f es))) g ∙ rest

  -- what the map of the part has at a key
  pub get-part : (es : List (K × X)) → IsTrue (is_sorted R es) → (q : K) → get (from_sorted {R = R} (part f es)) q ≡ option_and_then f (find R q es)
  get-part es h q = get_sorted R o (part f es) q (sorted-part es h) ∙ find-part es h q

  choose : (b : Bool) (x : X) (w : Option X) → option_and_then f (cond b (Some x) w) ≡ cond b (f x) (option_and_then f w)
  choose true x w = refl
  choose false x w = refl

  -- a new pair in the list is a new value in the map, where f has an answer, and else none
  pub part-put : (es : List (K × X)) → IsTrue (is_sorted R es) → (k : K) (x : X) → from_sorted {R = R} (part f (put R k x es)) ≡ placed (from_sorted (part f es)) k (f x)
  part-put es h k x = same_map o exact _ _ (λ q.
      get-part (put R k x es) (sorted_put R o es k x h) q
      ∙ ap (option_and_then f) (find-put R o q k x es)
      ∙ choose (eq_by_cmp R q k) x (find R q es)
      ∙ ap (cond (eq_by_cmp R q k) (f x)) (sym (get-part es h q))
      ∙ sym (get-placed o (from_sorted (part f es)) k (f x) q))

  -- a pair for which f has no answer may go
  pub part-remove : (es : List (K × X)) (i : ℕ) (d : K × X) → i < length es → f (get_or es i d).1 ≡ None → part f (remove es i) ≡ part f es
  part-remove [] i d lt none = absurd (omega arith)
  part-remove (e ∷ es) zero d lt none = sym (ap (λ y. part_by e.0 y (part f es)) none)
  part-remove (e ∷ es) (suc i) d lt none = ap (λ l. part_by e.0 (f e.1) l) (part-remove es i d (omega arith) none)

module _ {K X : Type 0} (R : K → K → Ordering) where
  below-remove : (x : K) (es : List (K × X)) (i : ℕ) → i < length es → IsTrue (below_all R x es) → IsTrue (below_all R x (remove es i))
  below-remove x [] i lt h = absurd (omega arith)
  below-remove x (e ∷ es) zero lt h = second _ _ h
  below-remove x (e ∷ es) (suc i) lt h = both _ _ (first _ _ h) (below-remove x es i (omega arith) (second _ _ h))

  pub sorted-remove : (es : List (K × X)) (i : ℕ) → i < length es → IsTrue (is_sorted R es) → IsTrue (is_sorted R (remove es i))
  sorted-remove [] i lt h = absurd (omega arith)
  sorted-remove (e ∷ es) zero lt h = second _ _ h
  sorted-remove (e ∷ es) (suc i) lt h = both _ _ (below-remove e.0 es i (omega arith) (first _ _ h)) (sorted-remove es i (omega arith) (second _ _ h))
