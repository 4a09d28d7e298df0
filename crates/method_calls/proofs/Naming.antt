-- The package of a name.
use Rattle.std.proofs.Common.{◌≡◌, ℕ, ◌+◌, ◌-◌, ◌≤◌, Bool, true, false, cond, ◌||◌, ◌==◌, List, [], ◌∷◌, ◌++◌, length, take, refl, sym, ap, ◌∙◌, arith}
use Rattle.std.proofs.lemmas.List.{length-append}
use Rattle.schema_kinds.specs.Classes.{short_from}
use Rattle.host_meaning.specs.Methods.{has_dot, package_of}

or_first : (s t : Bool) → (s || t) ≡ true → t ≡ false → s ≡ true
or_first true t h e = refl
or_first false t h e = cc

or_second : (s t : Bool) → (s || t) ≡ false → (s ≡ false) × (t ≡ false)
or_second true t h = cc
or_second false t h = (refl, h)

package_none : (z : List ℕ) → has_dot z ≡ false → package_of z ≡ []
package_none [] h = refl
package_none (b ∷ z) h = ap (λ t. cond t (b ∷ package_of z) []) h

short_none : (z best : List ℕ) → has_dot z ≡ false → short_from z best ≡ best
short_none [] best h = refl
short_none (b ∷ z) best h =
    let both = or_second (b == 46) (has_dot z) h in
    ap (λ t. short_from z (cond t z best)) both.0 ∙ short_none z best both.1

by_dot : {G : Type 0} (d : Bool) → (d ≡ true → G) → (d ≡ false → G) → G
by_dot true f g = f refl
by_dot false f g = g refl

whole : (z best : List ℕ) → has_dot z ≡ true → package_of z ++ short_from z best ≡ z
whole [] best h = cc
whole (b ∷ z) best h =
    ap (λ t. cond t (b ∷ package_of z) [] ++ short_from (b ∷ z) best) h
    ∙ ap (λ l. b ∷ l)
    (by_dot (has_dot z) (λ d. whole z (cond (b == 46) z best) d)
    (λ d. (λ i. package_none z d i ++ short_none z (cond (b == 46) z best) d i) ∙ ap (λ t. cond t z best) (or_first (b == 46) (has_dot z) h d)))

parts : (z : List ℕ) → package_of z ++ short_from z z ≡ z
parts z = by_dot (has_dot z) (λ d. whole z z d) (λ d i. package_none z d i ++ short_none z z d i)

take_front : {A : Type 0} (xs ys : List A) → take (length xs) (xs ++ ys) ≡ xs
take_front [] ys = refl
take_front (x ∷ xs) ys = ap (λ l. x ∷ l) (take_front xs ys)

lengths : (z : List ℕ) → length (package_of z) + length (short_from z z) ≡ length z
lengths z = sym (length-append (package_of z) (short_from z z)) ∙ ap length (parts z)

pub short_fits : (z b s : List ℕ) → b ≡ z → s ≡ short_from z z → length s ≤ length b
short_fits z b s e is =
    let n = lengths z in
    let m = ap length is in
    let k = ap length e in
    omega (arith, n, m, k)

pub package_is : (z b s : List ℕ) → b ≡ z → s ≡ short_from z z → take (length b - length s) b ≡ package_of z
package_is z b s e is =
    let l = lengths z in
    let m = ap length is in
    let k = ap length e in
    let n : length b - length s ≡ length (package_of z) = omega (arith, l, m, k) in
    (λ i. take (n i) ((e ∙ sym (parts z)) i)) ∙ take_front (package_of z) (short_from z z)
