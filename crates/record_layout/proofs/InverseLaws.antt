-- Readers and writers of lists, of readers and writers of their elements.
use Rattle.std.proofs.Common.{◌≡◌, List, [], ◌∷◌, map, Option, None, Some, refl, ap, subst, ◌++◌, take, drop, length}
use Rattle.std.specs.Option.{option_and_then, option_map}
use Rattle.record_layout.specs.Inverse.{IsInverse, with_first, all_read, each_read, EachGood, AreGood}

-- a list that was read from a first element and the rest
pub with_first-is : {B : Type 0} (first : Option B) (rest : Option (List B)) (bs : List B) → with_first first rest ≡ Some bs → (c : B) × (cs : List B) × (first ≡ Some c) × (rest ≡ Some cs) × (c ∷ cs ≡ bs)
with_first-is None rest bs h = cc
with_first-is (Some c) None bs h = cc
with_first-is (Some c) (Some cs) bs h = (c, cs, refl, refl, cc)

pub option_map-is : {A B : Type 0} (f : A → B) (o : Option A) (b : B) → option_map f o ≡ Some b → (a : A) × (o ≡ Some a) × (f a ≡ b)
option_map-is f None b h = cc
option_map-is f (Some a) b h = (a, refl, cc)

pub and_then-is : {A B : Type 0} (f : A → Option B) (o : Option A) (b : B) → option_and_then f o ≡ Some b → (a : A) × (o ≡ Some a) × (f a ≡ Some b)
and_then-is f None b h = cc
and_then-is f (Some a) b h = (a, refl, h)

module _ {A B : Type 0} (Good : B → Type 0) (write : B → A) (read : A → Option B) (ok : IsInverse Good write read) where
  all-takes : (bs : List B) → EachGood Good bs → all_read read (map write bs) ≡ Some bs
  all-takes [] good = refl
  all-takes (b ∷ bs) good = rw (ok.takes b good.0, all-takes bs good.1) refl

  all-tells : (as' : List A) (bs : List B) → all_read read as' ≡ Some bs → EachGood Good bs × (map write bs ≡ as')
  all-tells [] [] h = (tt, refl)
  all-tells [] (b ∷ bs) h = cc
  all-tells (a ∷ as') bs h =
      let p = with_first-is (read a) (all_read read as') bs h in
      let one = ok.tells a p.0 p.2 in
      let more = all-tells as' p.1 p.3 in
      subst (λ (cs : List B). EachGood Good cs × (map write cs ≡ a ∷ as')) p.4 ((one.0, more.0), λ i. one.1 i ∷ more.1 i)

  pub all_inverse : IsInverse (EachGood Good) (map write) (all_read read)
  all_inverse = record { takes = all-takes; tells = all-tells }

module _ {K A B : Type 0} (Good : K → B → Type 0) (write : B → A) (read : K → A → Option B) (ok : (k : K) → IsInverse (Good k) write (read k)) where
  each-takes : (ks : List K) (bs : List B) → AreGood Good ks bs → each_read read ks (map write bs) ≡ Some bs
  each-takes [] [] good = refl
  each-takes [] (b ∷ bs) good = absurd good
  each-takes (k ∷ ks) [] good = absurd good
  each-takes (k ∷ ks) (b ∷ bs) good = rw ((ok k).takes b good.0, each-takes ks bs good.1) refl

  each-tells : (ks : List K) (as' : List A) (bs : List B) → each_read read ks as' ≡ Some bs → AreGood Good ks bs × (map write bs ≡ as')
  each-tells [] [] [] h = (tt, refl)
  each-tells [] [] (b ∷ bs) h = cc
  each-tells [] (a ∷ as') bs h = cc
  each-tells (k ∷ ks) [] bs h = cc
  each-tells (k ∷ ks) (a ∷ as') bs h =
      let p = with_first-is (read k a) (each_read read ks as') bs h in
      let one = (ok k).tells a p.0 p.2 in
      let more = each-tells ks as' p.1 p.3 in
      subst (λ (cs : List B). AreGood Good (k ∷ ks) cs × (map write cs ≡ a ∷ as')) p.4 ((one.0, more.0), λ i. one.1 i ∷ more.1 i)

  pub each_inverse : (ks : List K) → IsInverse (AreGood Good ks) (map write) (each_read read ks)
  each_inverse ks = record { takes = each-takes ks; tells = each-tells ks }

module _ {K B : Type 0} (Good : K → B → Type 0) where
  pub split-good : (xs ys : List K) (bs : List B) → AreGood Good (xs ++ ys) bs → AreGood Good xs (take (length xs) bs) × AreGood Good ys (drop (length xs) bs)
  split-good [] ys bs good = (tt, good)
  split-good (x ∷ xs) ys [] good = absurd good
  split-good (x ∷ xs) ys (b ∷ bs) good = let p = split-good xs ys bs good.1 in ((good.0, p.0), p.1)

  pub join-good : (xs ys : List K) (as' bs : List B) → AreGood Good xs as' → AreGood Good ys bs → AreGood Good (xs ++ ys) (as' ++ bs) × (take (length xs) (as' ++ bs) ≡ as') × (drop (length xs) (as' ++ bs) ≡ bs)
  join-good [] ys [] bs first rest = (rest, refl, refl)
  join-good [] ys (a ∷ as') bs first rest = absurd first
  join-good (x ∷ xs) ys [] bs first rest = absurd first
  join-good (x ∷ xs) ys (a ∷ as') bs first rest = let p = join-good xs ys as' bs first.1 rest in ((first.0, p.0), ap (λ cs. a ∷ cs) p.1, p.2)
