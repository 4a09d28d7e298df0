-- The tokens from a place on.
use Rattle.std.proofs.Common.{◌≡◌, ℕ, zero, suc, ◌-◌, ◌≤◌, ◌<◌, Bool, true, false, [], ◌∷◌, take, drop, length, refl, sym, ap, subst, ◌∙◌, arith}
use Rattle.std.proofs.lemmas.List.{length-take}
use Rattle.text_reading.specs.Tokens.{Bytes, Toks, Tongue, head_kind, head_text, left, behind}
use Rattle.text_reading.specs.Lexing.{tok, tokens_from, tokens, IsReady}

drop-cons : (n b : ℕ) (z : Bytes) → 1 ≤ n → drop (n - 1) z ≡ drop n (b ∷ z)
drop-cons zero b z h = absurd (omega arith)
drop-cons (suc n) b z h = let e : suc n - 1 ≡ n = omega arith in ap (λ k. drop k z) e

module _ {K M : Type 0} (cuts : M → Bytes → K × ℕ) (onward : M → K → M) (blank : K → Bool) where
  tokens_from-drop : (n : ℕ) (m : M) (z : Bytes) → tokens_from cuts onward blank n m z ≡ tokens_from cuts onward blank 0 m (drop n z)
  tokens_from-drop zero m z = refl
  tokens_from-drop (suc n) m [] = refl
  tokens_from-drop (suc n) m (b ∷ z) = tokens_from-drop n m z

  pub tokens_none : (m : M) → tokens cuts onward blank m [] ≡ []
  unfolding tokens
  tokens_none m = refl

  pub tokens_goes : (m : M) (b : ℕ) (z : Bytes) → blank (cuts m (b ∷ z)).0 ≡ true → 1 ≤ (cuts m (b ∷ z)).1
      → tokens cuts onward blank (onward m (cuts m (b ∷ z)).0) (drop (cuts m (b ∷ z)).1 (b ∷ z)) ≡ tokens cuts onward blank m (b ∷ z)
  unfolding tokens
  tokens_goes m b z h moves = rw (h, tokens_from-drop ((cuts m (b ∷ z)).1 - 1) (onward m (cuts m (b ∷ z)).0) z, drop-cons (cuts m (b ∷ z)).1 b z moves)

  pub tokens_first : (m : M) (b : ℕ) (z : Bytes) → blank (cuts m (b ∷ z)).0 ≡ false → 1 ≤ (cuts m (b ∷ z)).1
      → tokens cuts onward blank m (b ∷ z) ≡ tok cuts onward blank m (b ∷ z) ∷ tokens cuts onward blank (onward m (cuts m (b ∷ z)).0) (drop (cuts m (b ∷ z)).1 (b ∷ z))
  unfolding tokens
  tokens_first m b z h moves = rw (h, tokens_from-drop ((cuts m (b ∷ z)).1 - 1) (onward m (cuts m (b ∷ z)).0) z, drop-cons (cuts m (b ∷ z)).1 b z moves)

  -- the token at the front, and the rest
  pub record Front {W : Type 0} (T : Tongue K W) (m : M) (z : Bytes) (kind : K) (len : ℕ) (ts : Toks K) : Type 0 where
    pub kind_is : head_kind T ts ≡ kind
    pub text_is : head_text ts ≡ take len z
    pub left_is : left ts ≡ length z
    pub rest_is : drop 1 ts ≡ tokens cuts onward blank (onward m kind) (drop len z)
    pub done : length z ≡ 0 → ts ≡ []
    pub more : ts ≡ [] → length z ≡ 0

  module _ {W : Type 0} (T : Tongue K W) (ends : (m : M) → (cuts m []).0 ≡ T.end) where
    at_front : (m : M) (z : Bytes) → blank (cuts m z).0 ≡ false → (cuts m z).1 ≤ length z → (0 < length z → 1 ≤ (cuts m z).1) → Front T m z (cuts m z).0 (cuts m z).1 (tokens cuts onward blank m z)
    unfolding tokens
    at_front m [] solid within moves =
        let none : (cuts m []).1 ≡ 0 = omega arith in
        record { kind_is = sym (ends m); text_is = ap (λ n. take n []) (sym none); left_is = refl; rest_is = ap (λ n. tokens_from cuts onward blank 0 (onward m (cuts m []).0) (drop n [])) (sym none); done = λ _. refl; more = λ _. refl }
    at_front m (b ∷ z) solid within moves =
        let e = tokens_first m b z solid (moves (omega arith)) in
        record { kind_is = ap (head_kind T) e; text_is = ap head_text e; left_is = ap left e; rest_is = ap (drop 1) e; done = λ h. absurd (omega arith); more = λ h. absurd (let f = sym h ∙ e in (cc)) }

    pub front : (m : M) (z : Bytes) (kind : K) (len : ℕ) → IsReady cuts blank m z kind len → Front T m z kind len (tokens cuts onward blank m z)
    front m z kind len ready =
        let solid : blank (cuts m z).0 ≡ false = ap blank (sym ready.kind_is) ∙ ready.solid in
        let f = at_front m z solid (subst (λ n. n ≤ length z) ready.length_is ready.within) (subst (λ n. 0 < length z → 1 ≤ n) ready.length_is ready.moves) in
        rw (ready.kind_is, ready.length_is) f

    pub behind_is : (m : M) (z : Bytes) (kind : K) (len : ℕ) → IsReady cuts blank m z kind len → behind (tokens cuts onward blank m z) ≡ length z - len
    behind_is m z kind len ready =
        let f = front m z kind len ready in
        let w : len ≤ length z = ready.within in
        let taken : length (take len z) ≡ len = omega (arith, length-take len z) in
        rw (f.left_is, f.text_is, taken) refl

-- what is passed over has bytes, and the tokens behind it are the tokens
module _ {K W M : Type 0} (cuts : M → Bytes → K × ℕ) (onward : M → K → M) (blank : K → Bool) (T : Tongue K W) (ends : (m : M) → (cuts m []).0 ≡ T.end) (stays : blank T.end ≡ false) where
  pub blank_some : (m : M) (z : Bytes) → blank (cuts m z).0 ≡ true → 0 < length z
  blank_some m [] h = absurd (let f = sym (ap blank (ends m) ∙ stays) ∙ h in (cc))
  blank_some m (b ∷ z) h = omega arith

  pub blank_goes : (m : M) (z : Bytes) → blank (cuts m z).0 ≡ true → (0 < length z → 1 ≤ (cuts m z).1)
      → tokens cuts onward blank (onward m (cuts m z).0) (drop (cuts m z).1 z) ≡ tokens cuts onward blank m z
  blank_goes m [] h moves = absurd (let f = sym (ap blank (ends m) ∙ stays) ∙ h in (cc))
  blank_goes m (b ∷ z) h moves = tokens_goes cuts onward blank m b z h (moves (omega arith))
