-- Places behind bytes that follow one another.
use Rattle.std.proofs.Common.{◌≡◌, ℕ, zero, suc, ◌≤◌, ◌+◌, ◌-◌, [], ◌∷◌, ◌++◌, take, drop, length, length-append, refl, ap, ◌∙◌, sym, arith}
use Rattle.text_reading.specs.declared.places.Place.{Place}
use Rattle.text_reading.specs.Tokens.{Bytes}
use Rattle.text_reading.specs.Places.{next_place, place_from, place_in}

pub place_from-append : (p : Place) (a b : Bytes) → place_from p (a ++ b) ≡ place_from (place_from p a) b
place_from-append p [] b = refl
place_from-append p (x ∷ a) b = place_from-append (next_place p x) a b

take_on : (at end : ℕ) (t : Bytes) → at ≤ end → end ≤ length t → take at t ++ take (end - at) (drop at t) ≡ take end t
take_on zero end [] h k = let e : end ≡ 0 = omega arith in rw e refl
take_on zero zero (b ∷ t) h k = refl
take_on zero (suc end) (b ∷ t) h k = let e : suc end - 0 ≡ suc end = omega arith in rw e refl
take_on (suc at) end [] h k = absurd (omega arith)
take_on (suc at) zero (b ∷ t) h k = absurd (omega arith)
take_on (suc at) (suc end) (b ∷ t) h k = let e : suc end - suc at ≡ end - at = omega arith in rw e (ap (λ z. b ∷ z) (take_on at end t (omega arith) (omega arith)))

pub place_on : (p : Place) (at end : ℕ) (t : Bytes) → at ≤ end → end ≤ length t → place_from (place_from p (take at t)) (take (end - at) (drop at t)) ≡ place_from p (take end t)
place_on p at end t h k = sym (place_from-append p (take at t) (take (end - at) (drop at t))) ∙ ap (place_from p) (take_on at end t h k)

take_behind : (n : ℕ) (a b : Bytes) → take (length a + n) (a ++ b) ≡ a ++ take n b
take_behind n [] b = let e : 0 + n ≡ n = omega arith in rw e refl
take_behind n (x ∷ a) b = let e : suc (length a) + n ≡ suc (length a + n) = omega arith in rw e (ap (λ z. x ∷ z) (take_behind n a b))

take_front : (n : ℕ) (a b : Bytes) → n ≤ length a → take n (a ++ b) ≡ take n a
take_front zero a b h = refl
take_front (suc n) [] b h = absurd (omega arith)
take_front (suc n) (x ∷ a) b h = ap (λ z. x ∷ z) (take_front n a b (omega arith))

-- A part of a text, read with the place at which it stands, has the places of the text.
pub places_inside : (p : Place) (front body back : Bytes) (left : ℕ) → left ≤ length body
    → place_in (record { start = place_from p front; text = body }) left ≡ place_in (record { start = p; text = front ++ (body ++ back) }) (left + length back)
places_inside p front body back left h =
    let n : length (front ++ (body ++ back)) - (left + length back) ≡ length front + (length body - left) = omega (arith, length-append front (body ++ back), length-append body back) in
    let parts : take (length front + (length body - left)) (front ++ (body ++ back)) ≡ front ++ take (length body - left) body =
    take_behind (length body - left) front (body ++ back) ∙ ap (λ z. front ++ z) (take_front (length body - left) body back (omega arith)) in
    sym (place_from-append p front (take (length body - left) body)) ∙ ap (place_from p) (sym parts) ∙ ap (λ k. place_from p (take k (front ++ (body ++ back)))) (sym n)
