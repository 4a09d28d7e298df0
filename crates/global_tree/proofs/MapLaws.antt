-- Laws of finite maps whose order tells the keys apart.
use Rattle.std.proofs.Common.{◌≡◌, Bool, true, cond, Option, Some, None, refl, sym, ap, arith}
use Rattle.std.specs.declared.cmp.Ordering.{Ordering}
use Rattle.std.specs.declared.cmp.Ordering.TheVariants.{Less, Equal, Greater}
use Rattle.std.specs.Ordering.{eq_by_cmp, is_eq}
use Rattle.std.specs.Cmp.{IsTotalOrder}
use Rattle.std.specs.FinMap.{FinMap, IsAntisymmetric, get, retain_keys, same_map, get-insert, get-remove, get-retain_keys}
use Rattle.global_tree.specs.Maps.{placed}

equal : (r : Ordering) → is_eq r ≡ true → r ≡ Equal
equal Less h = cc
equal Equal h = refl
equal Greater h = cc

module _ {K : Type 0} {R : K → K → Ordering} (exact : IsAntisymmetric R) where
  -- keys that tie are one
  pub one_key : (j k : K) → eq_by_cmp R j k ≡ true → j ≡ k
  one_key j k h = exact j k (equal _ h)

module _ {K X : Type 0} {R : K → K → Ordering} (o : IsTotalOrder R) where
  pub get-placed : (m : FinMap R X) (k : K) (v : Option X) (q : K) → get (placed m k v) q ≡ cond (eq_by_cmp R q k) v (get m q)
  unfolding placed
  get-placed m k None q = get-remove o m k q
  get-placed m k (Some v) q = get-insert o m k v q

module _ {K X : Type 0} {R : K → K → Ordering} (o : IsTotalOrder R) (exact : IsAntisymmetric R) where
  -- the keys of a test stay
  pub get-kept : (m : FinMap R X) (p : K → Bool) (q : K) → get (retain_keys m p) q ≡ cond (p q) (get m q) None
  get-kept m p q = get-retain_keys m p q (λ x e. ap p (sym (exact q x e)))

  -- of two values at one key the later stays
  pub placed_again : (m : FinMap R X) (k : K) (v w : Option X) → placed (placed m k v) k w ≡ placed m k w
  placed_again m k v w = same_map o exact _ _ (λ q. grind (arith, get-placed {X = X} o))

  -- the value that stood there is put back
  pub placed_back : (m : FinMap R X) (k : K) (v : Option X) → placed (placed m k v) k (get m k) ≡ m
  placed_back m k v = same_map o exact _ _ (λ q. grind (arith, get-placed {X = X} o, one_key exact q k))
