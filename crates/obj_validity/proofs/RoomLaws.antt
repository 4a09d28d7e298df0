-- What is left of a room after two shares, one after the other.
use Rattle.std.proofs.Common.{◌≡◌, ℕ, ◌+◌, ◌-◌, ◌≤◌, ◌<◌, nat_le, cond, Bool, true, false, arith, List, [], ◌∷◌, ◌++◌, Option, None, Some, refl, ap, sym, ◌∙◌}
use Rattle.std.specs.Prelude.{is_some}
use Rattle.std.proofs.lemmas.Bool.{leb-true, leb-false, le-leb, lt-leb}
use Rattle.obj_validity.specs.Weights.{room_after, total}

pub room_none : (r : ℕ) → room_after r 0 ≡ Some r
unfolding room_after
room_none r = rw (le-leb 0 r (omega arith)) (let e : r - 0 ≡ r = omega arith in ap Some e)

left-some : (r a q : ℕ) (b : Bool) → nat_le a r ≡ b → cond b (Some (r - a)) None ≡ Some q → (a ≤ r) × (r - a ≡ q)
left-some r a q true e h = (leb-true a r e, (let z : r - a ≡ q = cc in z))
left-some r a q false e h = absurd (cc)

left-none : (r a : ℕ) (b : Bool) → nat_le a r ≡ b → cond b (Some (r - a)) None ≡ None → r < a
left-none r a true e h = absurd (cc)
left-none r a false e h = leb-false a r e

same-le : (a b c d : ℕ) (t : Bool) → nat_le a b ≡ t → (a ≤ b → c ≤ d) → (b < a → d < c) → nat_le c d ≡ t
same-le a b c d true e f g = le-leb c d (f (leb-true a b e))
same-le a b c d false e f g = lt-leb c d (g (leb-false a b e))

pub room_then : (r a b q : ℕ) → room_after r a ≡ Some q → room_after r (a + b) ≡ room_after q b
unfolding room_after
room_then r a b q h = by (nat_le b q) refl
  where
    was : (a ≤ r) × (r - a ≡ q)
    was = left-some r a q (nat_le a r) refl h

    by : (t : Bool) → nat_le b q ≡ t → cond (nat_le (a + b) r) (Some (r - (a + b))) None ≡ cond t (Some (q - b)) None
    by t e =
        let same : nat_le (a + b) r ≡ t = same-le b q (a + b) r t e (λ k. omega (arith, k, was.0, was.1)) (λ k. omega (arith, k, was.0, was.1)) in
        let left : r - (a + b) ≡ q - b = omega (arith, was.1) in
        rw (same, left) refl

pub room_stop : (r a b : ℕ) → room_after r a ≡ None → room_after r (a + b) ≡ None
unfolding room_after
room_stop r a b h =
    let over : r < a = left-none r a (nat_le a r) refl h in
    rw (lt-leb (a + b) r (omega (arith, over))) refl

-- something is left exactly where it is no more than the room
pub room_fits : (r n : ℕ) → is_some (room_after r n) ≡ nat_le n r
unfolding room_after
room_fits r n = by (nat_le n r)
  where
    by : (t : Bool) → is_some (cond t (Some (r - n)) None) ≡ t
    by true = refl
    by false = refl

-- the root's list: 2 and the marker's item, of 2 and the marker, before the fields
pub root_room : (m s q : ℕ) → room_after 32763 m ≡ Some q → is_some (room_after q s) ≡ nat_le (2 + (2 + m) + s) 32767
root_room m s q h =
    ap is_some (sym (room_then 32763 m s q h)) ∙ room_fits 32763 (m + s)
    ∙ sym (same-le (m + s) 32763 (2 + (2 + m) + s) 32767 (nat_le (m + s) 32763) refl (λ k. omega (arith, k)) (λ k. omega (arith, k)))

pub root_over : (m s : ℕ) → room_after 32763 m ≡ None → false ≡ nat_le (2 + (2 + m) + s) 32767
unfolding room_after
root_over m s h =
    let over : 32763 < m = left-none 32763 m (nat_le m 32763) refl h in
    sym (lt-leb (2 + (2 + m) + s) 32767 (omega (arith, over)))

-- the list of a class below
pub below_room : (s : ℕ) → is_some (room_after 32765 s) ≡ nat_le (2 + s) 32767
below_room s =
    room_fits 32765 s ∙ sym (same-le s 32765 (2 + s) 32767 (nat_le s 32765) refl (λ k. omega (arith, k)) (λ k. omega (arith, k)))

pub total-append : (xs ys : List ℕ) → total (xs ++ ys) ≡ total xs + total ys
total-append [] ys = omega arith
total-append (x ∷ xs) ys = omega (arith, total-append xs ys)
