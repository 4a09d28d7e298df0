-- Reading line by line.
use Rattle.std.proofs.Common.{◌≡◌, ℕ, ◌+◌, ◌<◌, Bool, true, false, ◌==◌, Option, Some, None, List, [], ◌∷◌, ◌++◌, length, Result, Ok, Err, ◌⊎◌, inl, inr, refl, sym, ap, subst, ◌∙◌, arith}
use Rattle.text_lines.specs.declared.stop.BadLine.{BadLine}
use Rattle.text_lines.specs.Lines.{Bytes, lines, first_line, behind_line}
use Rattle.text_lines.specs.Reading.{read_lines, AreGood, NoLine, Line, IsFirstBad, IsAnswer, lowest, IsLowest}
use Rattle.text_lines.proofs.CutLaws.{lines_first}

module _ {A W : Type 0} (step : A → Bytes → Result A W) where
  outcome : (a : A) (z : Bytes) → ((b : A) × (step a z ≡ Ok b)) ⊎ ((why : W) × (step a z ≡ Err why))
  outcome a z = go (step a z) refl
    where
      go : (r : Result A W) → step a z ≡ r → ((b : A) × (step a z ≡ Ok b)) ⊎ ((why : W) × (step a z ≡ Err why))
      go (Ok b) e = inl (b, e)
      go (Err why) e = inr (why, e)

  pub reads_on : (n : ℕ) (a b : A) (z : Bytes) (zs : List Bytes) → step a z ≡ Ok b → read_lines step n a (z ∷ zs) ≡ read_lines step (n + 1) b zs
  unfolding read_lines
  reads_on n a b z zs e = rw (e, read_lines) refl

  pub reads_bad : (n : ℕ) (a : A) (z : Bytes) (zs : List Bytes) (why : W) → step a z ≡ Err why → read_lines step n a (z ∷ zs) ≡ Err (record { line = n; why = why })
  unfolding read_lines
  reads_bad n a z zs why e = rw (e, read_lines) refl

  -- what is answered, all lines being good
  pub good_read : (n : ℕ) (a x : A) (zs : List Bytes) → read_lines step n a zs ≡ Ok x → AreGood step a zs x
  unfolding read_lines
  good_read n a x [] e = let is : a ≡ x = cc in subst (λ y. AreGood step a [] y) is NoLine
  good_read n a x (z ∷ zs) e = elim (outcome a z) [
    | inl o ↦ Line o.1 (good_read (n + 1) o.0 x zs (sym (reads_on n a o.0 z zs o.1) ∙ e))
    | inr o ↦ absurd (let f = sym (reads_bad n a z zs o.0 o.1) ∙ e in (cc))
  ]

  pub read_good : {a x : A} {zs : List Bytes} → AreGood step a zs x → (n : ℕ) → read_lines step n a zs ≡ Ok x
  unfolding read_lines
  read_good NoLine n = refl
  read_good (Line {a = a} {b = b} {z = z} {zs = zs} e good) n = reads_on n a b z zs e ∙ read_good good (n + 1)

  -- what is refused is the first bad line
  pub first_bad : (n : ℕ) (a : A) (zs : List Bytes) (r : BadLine W) → read_lines step n a zs ≡ Err r → IsFirstBad step n a zs r
  unfolding read_lines
  first_bad n a [] r e = absurd (cc)
  first_bad n a (z ∷ zs) r e = elim (outcome a z) [
    | inl o ↦
        let f = first_bad (n + 1) o.0 zs r (sym (reads_on n a o.0 z zs o.1) ∙ e) in
        let line = f.line in
        record {
          before = z ∷ f.before;
          bad = f.bad;
          after = f.after;
          parts = ap (λ u. z ∷ u) f.parts;
          said = f.said;
          good = Line o.1 f.good;
          why = f.why;
          line = omega arith;
        }
    | inr o ↦
        let is : record { line = n; why = o.0 } ≡ r = let f = sym (reads_bad n a z zs o.0 o.1) ∙ e in cc in
        record {
          before = [];
          bad = z;
          after = zs;
          parts = refl;
          said = a;
          good = NoLine;
          why = o.1 ∙ ap (λ (q : BadLine W). Err q.why) is;
          line = let i : r.line ≡ n = sym (ap (λ (q : BadLine W). q.line) is) in omega (arith, i);
        }
  ]

-- ---- a loop of the code: what is left of the lines gives what all of them give

module _ {A W : Type 0} (step : A → Bytes → Result A W) where
  pub reads_none : (n : ℕ) (a : A) (z : Bytes) → length z ≡ 0 → read_lines step n a (lines z) ≡ Ok a
  unfolding read_lines lines
  reads_none n a [] h = refl
  reads_none n a (b ∷ z) h = absurd (omega arith)

  pub reads_first : (n : ℕ) (a b : A) (z : Bytes) → 0 < length z → step a (first_line z) ≡ Ok b → read_lines step n a (lines z) ≡ read_lines step (n + 1) b (lines (behind_line z))
  reads_first n a b [] h e = absurd (omega arith)
  reads_first n a b (c ∷ z) h e = ap (read_lines step n a) (lines_first c z) ∙ reads_on step n a b (first_line (c ∷ z)) (lines (behind_line (c ∷ z))) e

  pub reads_bad_first : (n : ℕ) (a : A) (z : Bytes) (why : W) → 0 < length z → step a (first_line z) ≡ Err why → read_lines step n a (lines z) ≡ Err (record { line = n; why = why })
  reads_bad_first n a [] why h e = absurd (omega arith)
  reads_bad_first n a (c ∷ z) why h e = ap (read_lines step n a) (lines_first c z) ∙ reads_bad step n a (first_line (c ∷ z)) (lines (behind_line (c ∷ z))) why e

-- what is answered for the lines of a text
pub answer_is : {A W : Type 0} (step : A → Bytes → Result A W) (a : A) (zs : List Bytes) → IsAnswer step a zs (read_lines step 1 a zs)
answer_is {A} {W} step a zs = go (read_lines step 1 a zs) refl
  where
    go : (r : Result A (BadLine W)) → read_lines step 1 a zs ≡ r → IsAnswer step a zs r
    go (Ok x) e = good_read step 1 a x zs e
    go (Err r) e = first_bad step 1 a zs r e

pub lowest_is : {W : Type 0} (tests : List (Bool × W)) (why : W) → lowest tests ≡ Some why → IsLowest tests why
unfolding lowest
lowest_is [] why e = absurd (cc)
lowest_is ((true, w) ∷ ts) why e = let is : w ≡ why = cc in record { earlier = []; later = ts; parts = ap (λ v. (true, v) ∷ ts) is; none = refl }
lowest_is ((false, w) ∷ ts) why e =
    let f = lowest_is ts why e in
    record { earlier = (false, w) ∷ f.earlier; later = f.later; parts = ap (λ u. (false, w) ∷ u) f.parts; none = f.none }
