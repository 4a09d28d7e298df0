-- What is seen of a vector in reverse.
use Rattle.std.proofs.Common.{◌≡◌, ℕ, suc, ◌-◌, ◌<◌, List, [], ◌∷◌, ◌++◌, reverse, take, drop, length, remove, slice_get, Some, refl, sym, ap, ◌∙◌, subst, arith, length-drop, take-append-drop, append_assoc, length-append}
use Rattle.std.proofs.lemmas.List.{reverse-append, length-reverse, reverse-reverse}
use Rattle.std.proofs.Math.Seq.{drop-append_seam}
use Rattle.std.proofs.lemmas.List.Edits.{remove-append_right}
use Rattle.os_machine.specs.Stacks.{top_of, without_third}

module _ {A : Type 0} where
  seam : (xs : List A) (y : A) (ys : List A) → slice_get (xs ++ y ∷ ys) (length xs) ≡ Some y
  seam [] y ys = refl
  seam (x ∷ xs) y ys = seam xs y ys

  -- the values in order: those below, and those on top
  parts : (k : ℕ) (items : List A) → items ≡ reverse (drop k (reverse items)) ++ reverse (take k (reverse items))
  parts k items =
      sym (reverse-reverse items) ∙ ap reverse (sym (take-append-drop k (reverse items))) ∙ reverse-append (take k (reverse items)) (drop k (reverse items))

  size_below : (k : ℕ) (items : List A) → length (reverse (drop k (reverse items))) ≡ length items - k
  size_below k items = length-reverse (drop k (reverse items)) ∙ length-drop k (reverse items) ∙ ap (λ n. n - k) (length-reverse items)

  pub last_values : (k : ℕ) (items : List A) → drop (length items - k) items ≡ reverse (take k (reverse items))
  last_values k items =
      ap (λ n. drop n items) (sym (size_below k items))
      ∙ ap (drop (length (reverse (drop k (reverse items))))) (parts k items)
      ∙ drop-append_seam (reverse (drop k (reverse items))) (reverse (take k (reverse items)))

  at_top : (zs more : List A) (n : ℕ) → suc n ≡ length zs → slice_get (reverse zs ++ more) n ≡ top_of zs
  at_top [] more n e = absurd (omega arith)
  at_top (z ∷ zs) more n e =
      let split : reverse (z ∷ zs) ≡ reverse zs ++ z ∷ [] = reverse-append (z ∷ []) zs in
      let at : length (reverse zs) ≡ n = omega (arith, length-reverse zs) in
      ap (λ l. slice_get (l ++ more) n) split ∙ ap (λ l. slice_get l n) (append_assoc (reverse zs) (z ∷ []) more) ∙ ap (slice_get (reverse zs ++ z ∷ more)) (sym at) ∙ seam (reverse zs) z more

  pub value_below : (k : ℕ) (items : List A) → k < length items → slice_get items (length items - k - 1) ≡ top_of (drop k (reverse items))
  value_below k items lt =
      let e : suc (length items - k - 1) ≡ length (drop k (reverse items)) = omega (arith, length-drop k (reverse items), length-reverse items) in
      ap (λ l. slice_get l (length items - k - 1)) (parts k items) ∙ at_top (drop k (reverse items)) (reverse (take k (reverse items))) (length items - k - 1) e

  pub value_at : (k len : ℕ) (items l self : List A) → l ≡ items → len ≡ length items → reverse items ≡ self → k < len → slice_get l (len - k - 1) ≡ top_of (drop k self)
  value_at k len items l self e n v lt =
      ap (λ m. slice_get m (len - k - 1)) e ∙ ap (λ n. slice_get items (n - k - 1)) n ∙ value_below k items (subst (λ n. k < n) n lt) ∙ ap (λ s. top_of (drop k s)) v

  pub last_at : (k start : ℕ) (items self : List A) → start ≡ length items - k → reverse items ≡ self → drop start items ≡ reverse (take k self)
  last_at k start items self e v = ap (λ n. drop n items) e ∙ last_values k items ∙ ap (λ s. reverse (take k s)) v

  -- the list without its third last item
  third_out : (a b c : A) (rest : List A) → remove (reverse (a ∷ b ∷ c ∷ rest)) (length (reverse (a ∷ b ∷ c ∷ rest)) - 3) ≡ reverse (a ∷ b ∷ rest)
  third_out a b c rest =
      let split : reverse (a ∷ b ∷ c ∷ rest) ≡ reverse rest ++ c ∷ b ∷ a ∷ [] = reverse-append (a ∷ b ∷ c ∷ []) rest in
      let split_out : reverse (a ∷ b ∷ rest) ≡ reverse rest ++ b ∷ a ∷ [] = reverse-append (a ∷ b ∷ []) rest in
      let size : length (reverse rest ++ c ∷ b ∷ a ∷ []) - 3 ≡ length (reverse rest) = omega (arith, length-append (reverse rest) (c ∷ b ∷ a ∷ [])) in
      let none : length (reverse rest) - length (reverse rest) ≡ 0 = omega arith in
      ap (λ l. remove l (length l - 3)) split ∙ ap (remove (reverse rest ++ c ∷ b ∷ a ∷ [])) size
      ∙ remove-append_right (reverse rest) (c ∷ b ∷ a ∷ []) (length (reverse rest)) (length (reverse rest)) refl (omega arith)
      ∙ ap (λ n. reverse rest ++ remove (c ∷ b ∷ a ∷ []) n) none ∙ sym split_out

  without : (items self : List A) → items ≡ reverse self → 2 < length self → reverse (remove items (length items - 3)) ≡ without_third self
  without items [] e h = absurd (omega arith)
  without items (a ∷ []) e h = absurd (omega arith)
  without items (a ∷ b ∷ []) e h = absurd (omega arith)
  without items (a ∷ b ∷ c ∷ rest) e h =
      ap (λ l. reverse (remove l (length l - 3))) e ∙ ap reverse (third_out a b c rest) ∙ reverse-reverse (a ∷ b ∷ rest)

  pub third_removed : (items self : List A) (at : ℕ) → reverse items ≡ self → 2 < length items → at ≡ length items - 3 → reverse (remove items at) ≡ without_third self
  third_removed items self at e h is =
      ap (λ n. reverse (remove items n)) is
      ∙ without items self (sym (reverse-reverse items) ∙ ap reverse e) (subst (λ n. 2 < n) (sym (length-reverse items) ∙ ap length e) h)
