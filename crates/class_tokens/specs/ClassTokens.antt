-- What the lexer of class files does, without a word of how: the tokens and what stands between them are the whole text.
use Rattle.std.specs.Prelude.{◌≡◌, ◌⊎◌, ℕ, ◌≤◌, Bool, true, false, ◌||◌, ◌==◌, List, [], ◌∷◌, ◌++◌, length, slice_index}
use Rattle.std.specs.Char.{is_ascii_digit, is_ascii_alphanumeric}
use Rattle.text_reading.specs.Tokens.{Bytes, Tok, Toks}
use Rattle.class_tokens.specs.declared.token.Kind.{Kind}
use Rattle.class_tokens.specs.declared.token.Kind.TheVariants as k
use Rattle.class_tokens.specs.ClassLex.{begins_word}

abbrev pub is_space : ℕ → Bool
is_space b = b == 9 || b == 10 || b == 13 || b == 32

-- a blank, or a comment: `//` or `/*` begins it
pub data IsBetween : Bytes → Type 0 where
  Space : (b : ℕ) → is_space b ≡ true → IsBetween (b ∷ [])
  Comment : (next : ℕ) (z : Bytes) → (next ≡ 47) ⊎ (next ≡ 42) → IsBetween (47 ∷ next ∷ z)

-- `from` begins with the token, and `behind` is what comes behind it. A word takes all letters and digits, a number all digits, and a string ends at a quote that no other one follows.
pub record IsLongest (kind : Kind) (from behind : Bytes) : Type 0 where
  pub word : begins_word from ≡ true → is_ascii_alphanumeric (slice_index behind 0) ≡ false
  pub number : is_ascii_digit (slice_index from 0) ≡ true → is_ascii_digit (slice_index behind 0) ≡ false
  pub string : (slice_index from 0 == 34) ≡ true → kind ≡ k.Text → (slice_index behind 0 == 34) ≡ false

-- The tokens of a text: what stands before, between and behind them is blanks and comments.
pub data AreTokens : Bytes → Toks Kind → Type 0 where
  Over : AreTokens [] []
  Between : (piece z : Bytes) (ts : Toks Kind) → IsBetween piece → AreTokens z ts → AreTokens (piece ++ z) ts
  Token : (t : Tok Kind) (z : Bytes) (ts : Toks Kind) → 1 ≤ length t.text → t.left ≡ length (t.text ++ z) → IsLongest t.kind (t.text ++ z) z → AreTokens z ts → AreTokens (t.text ++ z) (t ∷ ts)
