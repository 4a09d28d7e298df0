-- Bytes that are taken in turn.
use Rattle.std.proofs.Common.{◌≡◌, ℕ, ◌+◌, ◌<◌, ◌≤◌, ◌⊎◌, inl, inr, List, [], ◌∷◌, ◌++◌, length, drop, slice_index_or, Result, Ok, Err, refl, sym, ap, ◌∙◌}
use Rattle.std.proofs.lemmas.List.{drop_more, drop_all}
use Rattle.text_lines.specs.declared.stop.LineStop.{LineStop}
use Rattle.text_lines.specs.declared.stop.LineStop.TheVariants.{Memory, Bad}
use Rattle.dump_reading.specs.Taking.{taken, Takes}

module _ {S W : Type 0} (step : S → ℕ → Result S W) where
  pub outcome : (s : S) (b : ℕ) → ((t : S) × (step s b ≡ Ok t)) ⊎ ((why : W) × (step s b ≡ Err why))
  outcome s b = go (step s b) refl
    where
      go : (r : Result S W) → step s b ≡ r → ((t : S) × (step s b ≡ Ok t)) ⊎ ((why : W) × (step s b ≡ Err why))
      go (Ok t) e = inl (t, e)
      go (Err why) e = inr (why, e)

  pub none_taken : (s : S) → taken step s [] ≡ Ok s
  unfolding taken
  none_taken s = refl

  pub taken_on : (s t : S) (b : ℕ) (z : List ℕ) → step s b ≡ Ok t → taken step s (b ∷ z) ≡ taken step t z
  unfolding taken
  taken_on s t b z e = rw (e, taken) refl

  pub taken_bad : (s : S) (b : ℕ) (z : List ℕ) (why : W) → step s b ≡ Err why → taken step s (b ∷ z) ≡ Err why
  unfolding taken
  taken_bad s b z why e = rw (e, taken) refl

  -- bytes behind bytes
  pub taken_then : (s t : S) (z y : List ℕ) → taken step s z ≡ Ok t → taken step s (z ++ y) ≡ taken step t y
  unfolding taken
  taken_then s t [] y e = let is : s ≡ t = cc in rw is refl
  taken_then s t (b ∷ z) y e = elim (outcome s b) [
    | inl o ↦ taken_on s o.0 b (z ++ y) o.1 ∙ taken_then o.0 t z y (sym (taken_on s o.0 b z o.1) ∙ e)
    | inr o ↦ absurd (let f = sym (taken_bad s b z o.0 o.1) ∙ e in cc)
  ]

  pub chain : (s t : S) (z y : List ℕ) (r : Result S W) → taken step s z ≡ Ok t → taken step t y ≡ r → taken step s (z ++ y) ≡ r
  chain s t z y r e f = taken_then s t z y e ∙ f

  pub on : (s t : S) (b : ℕ) (z : List ℕ) (r : Result S W) → step s b ≡ Ok t → taken step t z ≡ r → taken step s (b ∷ z) ≡ r
  on s t b z r e f = taken_on s t b z e ∙ f

  -- ---- a loop over the bytes: what is left of them makes of what is read what all of them make

  pub turn_on : (s t : S) (z : List ℕ) (i : ℕ) → i < length z → step s (slice_index_or z i 0) ≡ Ok t → taken step t (drop (i + 1) z) ≡ taken step s (drop i z)
  turn_on s t z i h e = sym (ap (taken step s) (drop_more z i 0 h) ∙ taken_on s t (slice_index_or z i 0) (drop (i + 1) z) e)

  pub turn_bad : (s : S) (z : List ℕ) (i : ℕ) (why : W) → i < length z → step s (slice_index_or z i 0) ≡ Err why → taken step s (drop i z) ≡ Err why
  turn_bad s z i why h e = ap (taken step s) (drop_more z i 0 h) ∙ taken_bad s (slice_index_or z i 0) (drop (i + 1) z) why e

  pub all_on : (s : S) (z : List ℕ) (i : ℕ) → length z ≤ i → taken step s (drop i z) ≡ Ok s
  all_on s z i h = ap (taken step s) (drop_all i z h) ∙ none_taken s

  -- a byte that is refused
  pub refused : (s t : S) (z : List ℕ) (i : ℕ) (whole : Result S W) (stop : LineStop W) → i < length z → taken step s (drop i z) ≡ whole → Takes (step s (slice_index_or z i 0)) t (Err stop) → Takes whole t (Err stop)
  refused s t z i whole Memory h e says = tt
  refused s t z i whole (Bad why) h e says = sym e ∙ turn_bad s z i why h says
