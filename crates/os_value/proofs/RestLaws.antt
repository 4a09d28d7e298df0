-- What is left of a number without the floor of a quotient, as it is reckoned.
use Rattle.std.proofs.Common.{◌≡◌, ◌≢◌, ℕ, zero, suc, ◌+◌, ◌-◌, ◌*◌, ◌/◌, ◌%◌, ◌<◌, ℤ, pos, negsuc, ◌+ℤ◌, ◌-ℤ◌, ◌*ℤ◌, ◌<ℤ◌, ◌≤ℤ◌, neg_ℤ, unsigned_abs, nat_abs, refl, sym, ap, ◌∙◌, arith}
use Rattle.std.specs.Prelude.{int_div, int_rem}
use Rattle.std.specs.Int.{int_rem_euclid}
use Rattle.std.proofs.lemmas.Int.{ints, quot-rem, rem_below}
use native.Mathlib.Nat.{mod-le}
use Rattle.std.proofs.lemmas.Nat.{div-add-mod', mod_below}
use Rattle.os_value.specs.Numbers.{floor_over, floor, rest}

one_more : (q n : ℕ) → suc q * n ≡ n + q * n
one_more q n = omega arith

rest-pos : (a n : ℕ) → rest (pos a) (pos n) ≡ pos (a % n)
unfolding rest
rest-pos a n = let parts : a / n * n + a % n ≡ a = div-add-mod' a n in omega (arith, ints, parts)

rest-negsuc : (a n : ℕ) → 0 < n → rest (negsuc a) (pos n) ≡ pos (n - 1 - a % n)
unfolding rest
rest-negsuc a n some =
    let parts : a / n * n + a % n ≡ a = div-add-mod' a n in
    let below : a % n < n = mod_below a n some in
    let more : suc (a / n) * n ≡ n + a / n * n = one_more (a / n) n in
    omega (arith, ints, parts, below, more)

pub over_positive : (a b : ℤ) → pos 0 <ℤ b → int_rem_euclid a b ≡ rest a b
over_positive (pos a) (pos n) some = sym (rest-pos a n)
over_positive (negsuc a) (pos n) some = sym (rest-negsuc a n (omega (arith, ints)))
over_positive a (negsuc n) some = absurd (omega (arith, ints))

turned : (f : ℤ) (m : ℕ) → f *ℤ negsuc m ≡ neg_ℤ (f *ℤ pos (suc m))
turned (pos a) m = refl
turned (negsuc a) m = omega (arith, ints)

twice : (a p : ℤ) → a -ℤ neg_ℤ p ≡ neg_ℤ (neg_ℤ a -ℤ p)
twice a p = omega (arith, ints)

rest-turned : (a : ℤ) (m : ℕ) → rest a (negsuc m) ≡ neg_ℤ (rest (neg_ℤ a) (pos (suc m)))
unfolding rest
rest-turned a m =
    ap (λ p. a -ℤ p) (turned (floor_over (neg_ℤ a) (suc m)) m) ∙ twice a (floor_over (neg_ℤ a) (suc m) *ℤ pos (suc m))

of_abs : (a : ℤ) (m : ℕ) → int_rem_euclid a (negsuc m) ≡ int_rem_euclid a (pos (suc m))
of_abs (pos a) m = refl
of_abs (negsuc a) m = refl

pub over_negative : (a b : ℤ) → b ≢ pos 0 → b ≤ℤ pos 0 → neg_ℤ (int_rem_euclid (neg_ℤ a) b) ≡ rest a b
over_negative a (pos zero) some low = absurd (some refl)
over_negative a (pos (suc n)) some low = absurd (omega (arith, ints))
over_negative a (negsuc m) some low =
    ap neg_ℤ (of_abs (neg_ℤ a) m ∙ over_positive (neg_ℤ a) (pos (suc m)) (omega (arith, ints))) ∙ sym (rest-turned a m)

floor_parts : (a p : ℤ) → p +ℤ (a -ℤ p) ≡ a
floor_parts a p = omega (arith, ints)

pub parts : (a b : ℤ) → floor a b *ℤ b +ℤ rest a b ≡ a
unfolding rest
parts a b = floor_parts a (floor a b *ℤ b)

pub rest_above : (a b : ℤ) → pos 0 <ℤ b → (pos 0 ≤ℤ rest a b) × (rest a b <ℤ b)
rest_above (pos a) (pos n) some =
    let e = rest-pos a n in let below : a % n < n = mod_below a n (omega (arith, ints)) in
    (omega (arith, ints, e), omega (arith, ints, e, below))
rest_above (negsuc a) (pos n) some =
    let some' : 0 < n = omega (arith, ints) in let e = rest-negsuc a n some' in let below : a % n < n = mod_below a n some' in
    (omega (arith, ints, e, below), omega (arith, ints, e, below))
rest_above a (negsuc n) some = absurd (omega (arith, ints))

pub rest_below : (a b : ℤ) → b <ℤ pos 0 → (b <ℤ rest a b) × (rest a b ≤ℤ pos 0)
rest_below a (pos n) low = absurd (omega (arith, ints))
rest_below a (negsuc m) low =
    let e = rest-turned a m in let bounds = rest_above (neg_ℤ a) (pos (suc m)) (omega (arith, ints)) in
    (omega (arith, ints, e, bounds.0, bounds.1), omega (arith, ints, e, bounds.0, bounds.1))

left_over : (a p r : ℤ) → p +ℤ r ≡ a → a -ℤ p ≡ r
left_over a p r e = omega (arith, ints, e)

-- what a quotient that is cut leaves
cut_rest : (a b : ℤ) → a -ℤ int_div a b *ℤ b ≡ int_rem a b
cut_rest a b = left_over a (int_div a b *ℤ b) (int_rem a b) (quot-rem a b)

pub cut_small : (a b : ℤ) → 0 < unsigned_abs b → unsigned_abs (a -ℤ int_div a b *ℤ b) < unsigned_abs b
cut_small a b some = rw (cut_rest a b) (rem_below a b some)

signed_rest : (a b : ℤ) → pos 0 ≤ℤ a → pos 0 ≤ℤ int_rem a b
signed_rest (pos a) b up = omega (arith, ints)
signed_rest (negsuc a) b up = absurd (omega (arith, ints))

pub cut_above : (a b : ℤ) → pos 0 ≤ℤ a → pos 0 ≤ℤ (a -ℤ int_div a b *ℤ b)
cut_above a b up = rw (cut_rest a b) (signed_rest a b up)

signed_under : (a b : ℤ) → a ≤ℤ pos 0 → int_rem a b ≤ℤ pos 0
signed_under (pos zero) b low = let none = mod-le 0 (nat_abs b) in omega (arith, ints, none)
signed_under (pos (suc a)) b low = absurd (omega (arith, ints))
signed_under (negsuc a) b low = omega (arith, ints)

pub cut_below : (a b : ℤ) → a ≤ℤ pos 0 → (a -ℤ int_div a b *ℤ b) ≤ℤ pos 0
cut_below a b low = rw (cut_rest a b) (signed_under a b low)
