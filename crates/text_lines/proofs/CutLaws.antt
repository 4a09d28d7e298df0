-- The lines of a text are the text.
use Rattle.std.proofs.Common.{◌≡◌, ◌≢◌, ◌⊎◌, inl, inr, ℕ, Bool, true, false, ◌==◌, List, [], ◌∷◌, ◌++◌, refl, sym, ap, ◌∙◌, eqb-true}
use Rattle.std.proofs.lemmas.Bool.{eqb-false}
use Rattle.text_lines.specs.Lines.{Bytes, onto_first, lines, first_line, behind_line, NoFeed, HaveNoFeed, printed, AreLines}

bool_cases : (b : Bool) → (b ≡ true) ⊎ (b ≡ false)
bool_cases true = inl refl
bool_cases false = inr refl

-- a text that isn't empty has a first line, and then those behind it
pub lines_first : (b : ℕ) (z : Bytes) → lines (b ∷ z) ≡ first_line (b ∷ z) ∷ lines (behind_line (b ∷ z))
unfolding lines first_line behind_line
lines_first b [] = elim (bool_cases (b == 10)) [ inl here ↦ rw here refl | inr gone ↦ rw gone refl ]
lines_first b (c ∷ z) = elim (bool_cases (b == 10)) [
  | inl here ↦ rw here refl
  | inr gone ↦ let e = lines_first c z in rw gone (ap (onto_first b) e)
]

onto_no_feed : (b : ℕ) (zs : List Bytes) → b ≢ 10 → HaveNoFeed zs → HaveNoFeed (onto_first b zs)
unfolding NoFeed HaveNoFeed
onto_no_feed b [] n h = ((n, tt), tt)
onto_no_feed b (z ∷ zs) n h = ((n, h.0), h.1)

-- ---- the law

lines_no_feed : (z : Bytes) → HaveNoFeed (lines z)
unfolding lines NoFeed HaveNoFeed
lines_no_feed [] = tt
lines_no_feed (b ∷ z) = elim (bool_cases (b == 10)) [
  | inl here ↦ rw here (tt, lines_no_feed z)
  | inr gone ↦ rw gone (onto_no_feed b (lines z) (eqb-false b 10 gone) (lines_no_feed z))
]

abbrev Whole : Bytes → List Bytes → Type 0
Whole text zs = (printed zs ≡ text) ⊎ (printed zs ≡ text ++ 10 ∷ [])

-- a byte in front of the first line stands in front of the text
onto_printed : (b c : ℕ) (z : Bytes) → printed (onto_first b (lines (c ∷ z))) ≡ b ∷ printed (lines (c ∷ z))
unfolding printed
onto_printed b c z = rw (lines_first c z) refl

further : (b : ℕ) (text : Bytes) (zs : List Bytes) (whole : Bytes) → whole ≡ b ∷ printed zs → Whole text zs → (whole ≡ b ∷ text) ⊎ (whole ≡ b ∷ (text ++ 10 ∷ []))
further b text zs whole e (inl h) = inl (e ∙ ap (λ u. b ∷ u) h)
further b text zs whole e (inr h) = inr (e ∙ ap (λ u. b ∷ u) h)

lines_whole : (z : Bytes) → Whole z (lines z)
unfolding lines printed
lines_whole [] = inl refl
lines_whole (b ∷ z) = elim (bool_cases (b == 10)) [
  | inl here ↦ let is : b ≡ 10 = eqb-true b 10 here in rw here (further b z (lines z) (10 ∷ printed (lines z)) (ap (λ c. c ∷ printed (lines z)) (sym is)) (lines_whole z))
  | inr gone ↦ rw gone (onto b z (lines_whole z))
]
  where
    onto : (b : ℕ) (z : Bytes) → Whole z (lines z) → Whole (b ∷ z) (onto_first b (lines z))
    onto b [] w = inr refl
    onto b (c ∷ z) w = further b (c ∷ z) (lines (c ∷ z)) (printed (onto_first b (lines (c ∷ z)))) (onto_printed b c z) w

pub lines_are : (text : Bytes) → AreLines text (lines text)
lines_are text = record { no_feed = lines_no_feed text; whole = lines_whole text }

-- ---- printed lines

no_feed_is : (b : ℕ) → b ≢ 10 → (b == 10) ≡ false
no_feed_is b n = elim (bool_cases (b == 10)) [ inl here ↦ absurd (n (eqb-true b 10 here)) | inr gone ↦ gone ]

line_printed : (z rest : Bytes) → NoFeed z → lines (z ++ 10 ∷ rest) ≡ z ∷ lines rest
unfolding lines NoFeed
line_printed [] rest h = refl
line_printed (b ∷ z) rest h = rw (no_feed_is b h.0) (ap (onto_first b) (line_printed z rest h.1))

pub lines_printed : (zs : List Bytes) → HaveNoFeed zs → lines (printed zs) ≡ zs
unfolding HaveNoFeed printed lines
lines_printed [] h = refl
lines_printed (z ∷ zs) h = line_printed z (printed zs) h.0 ∙ ap (λ u. z ∷ u) (lines_printed zs h.1)
