-- Loops over a slice from its end.
use Rattle.std.proofs.Common.{◌≡◌, ℕ, ◌<◌, List, [], ◌∷◌, ◌++◌, map, reverse, length, Option, Some, None, Result, Ok, Err, OnOk, refl, sym, ap, subst, ◌∙◌, Bor, arith}
use Rattle.std.specs.Iterator.{Yields, AlwaysYields, DrainsIf}
use Rattle.std.specs.Iterator.Adapters.{rev_source, rev_steps}
use Rattle.std.specs.Slice.Iter.{iter_rest, iter_steps_back}
use Rattle.std.proofs.lemmas.List.{reverse-append, reverse-reverse, map-append, length-reverse, length-map}
use Rattle.std.proofs.lemmas.Iterator.{YieldsList, items_from_drains}
use Rattle.std.proofs.lemmas.Iterator.Adapters.{YieldsList-from_rev_slice}

map_reverse : {X Y : Type 0} (f : X → Y) (xs : List X) → map f (reverse xs) ≡ reverse (map f xs)
map_reverse f [] = refl
map_reverse f (x ∷ xs) = ap (map f) (reverse-append (x ∷ []) xs) ∙ map-append f (reverse xs) (x ∷ []) ∙ ap (λ l. l ++ f x ∷ []) (map_reverse f xs) ∙ sym (reverse-append (f x ∷ []) (map f xs))

-- at the end all are yielded
pub all_yielded : {X : Type 0} (xs : List X) (ys : List (Bor X)) (s t u : _) → iter_rest (rev_source s) ≡ xs → Yields (rev_steps iter_steps_back) s ys t → rev_steps iter_steps_back t None u → map (λ b. b.now) (reverse ys) ≡ xs
all_yielded xs ys s t u start yields ends =
    map_reverse (λ b. b.now) ys ∙ ap reverse (items_from_drains ys (t, yields, λ w. (u, ends)) (YieldsList-from_rev_slice xs start)) ∙ reverse-reverse xs

pub count_yielded : {X : Type 0} (xs : List X) (ys : List (Bor X)) → map (λ b. b.now) (reverse ys) ≡ xs → length ys ≡ length xs
count_yielded xs ys e = sym (length-reverse ys) ∙ sym (length-map (reverse ys) (λ b. b.now)) ∙ ap length e

module _ {S A B : Type 0} (steps : S → Option A → S → Type 0) (v : A → B) where
  more_left : (all : List B) (ys : List A) (s t u : S) (x : A) → AlwaysYields steps v s all → Yields steps s ys t → steps t (Some x) u → length ys < length all
  more_left [] [] s t u x a y p = absurd (a x u (subst (λ k. steps k (Some x) u) (sym y) p))
  more_left [] (z ∷ ys) s t u x a y p = absurd (a z y.0 y.1)
  more_left (b ∷ all) [] s t u x a y p = omega arith
  more_left (b ∷ all) (z ∷ ys) s t u x a y p = let m = more_left all ys y.0 t u x (a.1 z y.0 y.1).1 y.2 p in omega (arith, m)

-- at each turn some are left
pub some_left : {X : Type 0} (xs : List X) (ys : List (Bor X)) (x : Bor X) (s t u : _) → iter_rest (rev_source s) ≡ xs → Yields (rev_steps iter_steps_back) s ys t → rev_steps iter_steps_back t (Some x) u → length ys < length xs
some_left xs ys x s t u start yields turn =
    let m = more_left (rev_steps iter_steps_back) (λ b. b.now) (reverse xs) ys s t u x (YieldsList-from_rev_slice xs start).runs yields turn in
    omega (arith, m, length-reverse xs)

-- a piece before what is there
pub reverse_both : {X : Type 0} (xs ys : List X) → reverse (xs ++ ys) ≡ reverse ys ++ reverse xs
reverse_both xs ys = reverse-append xs ys

-- what is made of the items yielded so far, with one more
pub one_more : {X Y : Type 0} (f : X → Y) (ys : List (Bor X)) (x : Bor X) → map f (map (λ b. b.now) (reverse (ys ++ x ∷ []))) ≡ f x.now ∷ map f (map (λ b. b.now) (reverse ys))
one_more f ys x = ap (λ l. map f (map (λ b. b.now) l)) (reverse-append ys (x ∷ []))

-- what a last call has put is what is wanted
pub made : {T E X : Type 0} (r : Result T E) (x y z : X) → OnOk r (x ≡ y) → y ≡ z → OnOk r (x ≡ z)
made (Ok t) x y z h e = h ∙ e
made (Err n) x y z h e = h
