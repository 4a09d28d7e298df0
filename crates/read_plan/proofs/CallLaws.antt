-- Calls after calls, in either grouping.
use Rattle.std.proofs.Common.{◌≡◌, ℕ, suc, List, [], ◌∷◌, drop, None, Some, refl, ap, ◌∙◌}
use Rattle.std.specs.Prelude.{zero, slice_get, map, option_map}
use Rattle.std.proofs.lemmas.Option.{slice_get-map}
use Rattle.store_calls.specs.Calls.{Call, Give, Ask, Tell, Cut, bind, Tried, Got, Lost, then, then_on, each}

pub bind_bind : {A B C : Type 0} (c : Call A) (f : A → Call B) (g : B → Call C) → bind (bind c f) g ≡ bind c (λ a. bind (f a) g)
bind_bind (Give a) f g = refl
bind_bind (Tell x c) f g = ap (λ d. Tell x d) (bind_bind c f g)
bind_bind Cut f g = refl
bind_bind (Ask op tag k) f g = λ i. Ask op tag (λ r. bind_bind (k r) f g i)

on_then : {A B C : Type 0} (f : A → Call (Tried B)) (g : B → Call (Tried C)) (x : Tried A) → then (then_on f x) g ≡ then_on (λ a. then (f a) g) x
on_then f g (Got a) = refl
on_then f g (Lost x) = refl

pub then_then : {A B C : Type 0} (c : Call (Tried A)) (f : A → Call (Tried B)) (g : B → Call (Tried C)) → then (then c f) g ≡ then c (λ a. then (f a) g)
then_then c f g = bind_bind c (then_on f) (then_on g) ∙ (λ i. bind c (λ x. on_then f g x i))

-- the first of several, and then the others
pub each_step : {A B C : Type 0} (f : A → Call (Tried B)) (x : A) (xs : List A) (g : List B → Call (Tried C))
    → then (each f (x ∷ xs)) g ≡ then (f x) (λ y. then (each f xs) (λ ys. g (y ∷ ys)))
each_step f x xs g =
    then_then (f x) (λ y. then (each f xs) (λ ys. Give (Got (y ∷ ys)))) g
    ∙ (λ i. then (f x) (λ y. then_then (each f xs) (λ ys. Give (Got (y ∷ ys))) g i))

-- ---- what is behind a place

pub drop_at : {A : Type 0} (xs : List A) (n : ℕ) (x : A) → slice_get xs n ≡ Some x → drop n xs ≡ x ∷ drop (suc n) xs
drop_at [] n x e = absurd (cc e)
drop_at (y ∷ ys) zero x e = let same : y ≡ x = cc in rw same refl
drop_at (y ∷ ys) (suc n) x e = drop_at ys n x e

pub drop_end : {A : Type 0} (xs : List A) (n : ℕ) → slice_get xs n ≡ None → drop n xs ≡ []
drop_end [] zero e = refl
drop_end [] (suc n) e = refl
drop_end (y ∷ ys) zero e = absurd (cc e)
drop_end (y ∷ ys) (suc n) e = drop_end ys n e

-- the same, as the list is seen
pub seen_at : {A B : Type 0} (f : A → B) (xs : List A) (n : ℕ) (x : A) → slice_get xs n ≡ Some x → drop n (map f xs) ≡ f x ∷ drop (suc n) (map f xs)
seen_at f xs n x e = drop_at (map f xs) n (f x) (slice_get-map f xs n ∙ ap (option_map f) e)

pub seen_end : {A B : Type 0} (f : A → B) (xs : List A) (n : ℕ) → slice_get xs n ≡ None → drop n (map f xs) ≡ []
seen_end f xs n e = drop_end (map f xs) n (slice_get-map f xs n ∙ ap (option_map f) e)
