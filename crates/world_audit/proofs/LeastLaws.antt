-- What is kept of nodes that are noted in turn is the least of them.
use Rattle.std.proofs.Common.{◌≡◌, ◌≢◌, ◌⊎◌, inl, inr, Bool, true, false, cond, List, [], ◌∷◌, Option, None, Some, refl, sym, ap, subst}
use Rattle.std.specs.declared.cmp.Ordering.{Ordering}
use Rattle.std.specs.declared.cmp.Ordering.TheVariants.{Less, Equal, Greater}
use Rattle.std.specs.Ordering.{is_lt}
use Rattle.std.proofs.lemmas.Cmp.{tied_itself}
use Rattle.obj_kinds.specs.declared.node.Node.{Node}
use Rattle.obj_kinds.specs.Order.{node_cmp}
use Rattle.obj_kinds.specs.OrderLaws.{node_total}
use Rattle.world_audit.specs.Least.{lesser, noted, note_each, note_pairs, IsAmong, IsUpTo, IsElement}

no_less : (a : Node) → node_cmp a a ≢ Less
no_less a e = let tie = tied_itself node_total a in cc

is_less : (r : Ordering) → is_lt r ≡ true → r ≡ Less
is_less Less h = refl
is_less Equal h = cc
is_less Greater h = cc

no_less_is : (r : Ordering) → is_lt r ≡ false → r ≢ Less
no_less_is r h e = let is : is_lt r ≡ true = ap is_lt e in cc

lesser_keeps : (least : Option Node) (a n : Node) → IsUpTo least n → IsUpTo (lesser least a) n
lesser_keeps None a n h = absurd h
lesser_keeps (Some m) a n h = by (is_lt (node_cmp a m)) refl
  where
    by : (b : Bool) → is_lt (node_cmp a m) ≡ b → IsUpTo (cond b (Some a) (Some m)) n
    by true e = λ less. h (node_total.trans n a m less (is_less (node_cmp a m) e))
    by false e = h

lesser_new : (least : Option Node) (a : Node) → IsUpTo (lesser least a) a
lesser_new None a = no_less a
lesser_new (Some m) a = by (is_lt (node_cmp a m)) refl
  where
    by : (b : Bool) → is_lt (node_cmp a m) ≡ b → IsUpTo (cond b (Some a) (Some m)) a
    by true e = no_less a
    by false e = no_less_is (node_cmp a m) e

lesser_from : (least : Option Node) (a m : Node) → lesser least a ≡ Some m → (least ≡ Some m) ⊎ (m ≡ a)
lesser_from None a m h = let same : m ≡ a = cc in inr same
lesser_from (Some k) a m h = by (is_lt (node_cmp a k)) h
  where
    by : (b : Bool) → cond b (Some a) (Some k) ≡ Some m → (Some k ≡ Some m) ⊎ (m ≡ a)
    by true e = let same : m ≡ a = cc in inr same
    by false e = inl e

pub noted_keeps : (ns : List Node) (least : Option Node) (n : Node) → IsUpTo least n → IsUpTo (noted least ns) n
noted_keeps [] least n h = h
noted_keeps (a ∷ ns) least n h = noted_keeps ns (lesser least a) n (lesser_keeps least a n h)

pub noted_all : (ns : List Node) (least : Option Node) (n : Node) → IsAmong n ns → IsUpTo (noted least ns) n
noted_all [] least n h = absurd h
noted_all (a ∷ ns) least n (inl same) = noted_keeps ns (lesser least a) n (subst (IsUpTo (lesser least a)) (sym same) (lesser_new least a))
noted_all (a ∷ ns) least n (inr more) = noted_all ns (lesser least a) n more

pub noted_from : (ns : List Node) (least : Option Node) (m : Node) → noted least ns ≡ Some m → (least ≡ Some m) ⊎ IsAmong m ns
noted_from [] least m h = inl h
noted_from (a ∷ ns) least m h = by (noted_from ns (lesser least a) m h)
  where
    from : (least ≡ Some m) ⊎ (m ≡ a) → (least ≡ Some m) ⊎ IsAmong m (a ∷ ns)
    from (inl k) = inl k
    from (inr k) = inr (inl k)

    by : (lesser least a ≡ Some m) ⊎ IsAmong m ns → (least ≡ Some m) ⊎ IsAmong m (a ∷ ns)
    by (inl k) = from (lesser_from least a m k)
    by (inr k) = inr (inr k)

module _ {A : Type 0} (f : A → List Node) where
  pub each_keeps : (xs : List A) (least : Option Node) (n : Node) → IsUpTo least n → IsUpTo (note_each f least xs) n
  each_keeps [] least n h = h
  each_keeps (x ∷ xs) least n h = each_keeps xs (noted least (f x)) n (noted_keeps (f x) least n h)

  pub each_all : (xs : List A) (least : Option Node) (x : A) (n : Node) → IsElement x xs → IsAmong n (f x) → IsUpTo (note_each f least xs) n
  each_all [] least x n e h = absurd e
  each_all (y ∷ ys) least x n (inl same) h = each_keeps ys (noted least (f y)) n (noted_all (f y) least n (subst (λ z. IsAmong n (f z)) same h))
  each_all (y ∷ ys) least x n (inr more) h = each_all ys (noted least (f y)) x n more h

  pub each_from : (xs : List A) (least : Option Node) (m : Node) → note_each f least xs ≡ Some m → (least ≡ Some m) ⊎ ((x : A) × IsElement x xs × IsAmong m (f x))
  each_from [] least m h = inl h
  each_from (x ∷ xs) least m h = by (each_from xs (noted least (f x)) m h)
    where
      here : (least ≡ Some m) ⊎ IsAmong m (f x) → (least ≡ Some m) ⊎ ((y : A) × IsElement y (x ∷ xs) × IsAmong m (f y))
      here (inl k) = inl k
      here (inr k) = inr (x, inl refl, k)

      by : (noted least (f x) ≡ Some m) ⊎ ((y : A) × IsElement y xs × IsAmong m (f y)) → (least ≡ Some m) ⊎ ((y : A) × IsElement y (x ∷ xs) × IsAmong m (f y))
      by (inl k) = here (noted_from (f x) least m k)
      by (inr k) = inr (k.0, inr k.1, k.2)

module _ {A B : Type 0} (parts : A → List B) (f : A → B → List Node) where
  pub pairs_keep : (xs : List A) (least : Option Node) (n : Node) → IsUpTo least n → IsUpTo (note_pairs parts f least xs) n
  pairs_keep [] least n h = h
  pairs_keep (x ∷ xs) least n h = pairs_keep xs (note_each (f x) least (parts x)) n (each_keeps (f x) (parts x) least n h)

  pub pairs_all : (xs : List A) (least : Option Node) (x : A) (y : B) (n : Node) → IsElement x xs → IsElement y (parts x) → IsAmong n (f x y) → IsUpTo (note_pairs parts f least xs) n
  pairs_all [] least x y n e d h = absurd e
  pairs_all (z ∷ zs) least x y n (inl same) d h =
      pairs_keep zs (note_each (f z) least (parts z)) n (each_all (f z) (parts z) least y n (subst (λ w. IsElement y (parts w)) same d) (subst (λ w. IsAmong n (f w y)) same h))
  pairs_all (z ∷ zs) least x y n (inr more) d h = pairs_all zs (note_each (f z) least (parts z)) x y n more d h

  pub pairs_from : (xs : List A) (least : Option Node) (m : Node) → note_pairs parts f least xs ≡ Some m → (least ≡ Some m) ⊎ ((x : A) × (y : B) × IsElement x xs × IsElement y (parts x) × IsAmong m (f x y))
  pairs_from [] least m h = inl h
  pairs_from (x ∷ xs) least m h = by (pairs_from xs (note_each (f x) least (parts x)) m h)
    where
      here : (least ≡ Some m) ⊎ ((y : B) × IsElement y (parts x) × IsAmong m (f x y)) → (least ≡ Some m) ⊎ ((z : A) × (y : B) × IsElement z (x ∷ xs) × IsElement y (parts z) × IsAmong m (f z y))
      here (inl k) = inl k
      here (inr k) = inr (x, k.0, inl refl, k.1, k.2)

      by : (note_each (f x) least (parts x) ≡ Some m) ⊎ ((z : A) × (y : B) × IsElement z xs × IsElement y (parts z) × IsAmong m (f z y)) → (least ≡ Some m) ⊎ ((z : A) × (y : B) × IsElement z (x ∷ xs) × IsElement y (parts z) × IsAmong m (f z y))
      by (inl k) = here (each_from (f x) (parts x) least m k)
      by (inr k) = inr (k.0, k.1, inr k.2, k.3, k.4)
