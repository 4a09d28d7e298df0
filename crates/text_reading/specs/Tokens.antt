-- Tokens, of any kinds, and what a reader has to know of its kinds.
use Rattle.std.specs.Prelude.{◌≡◌, ℕ, ◌-◌, Bool, true, Option, Some, List, [], ◌∷◌, length}
use Rattle.text_reading.specs.declared.stop.Refusal.{Refusal}

abbrev pub Bytes : Type 0
Bytes = List ℕ

-- a token's kind, its bytes, and how many bytes of the text there are from it on
pub record Tok (K : Type 0) : Type 0 where
  pub kind : K
  pub text : Bytes
  pub left : ℕ

abbrev pub Toks : Type 0 → Type 0
Toks K = List (Tok K)

abbrev pub head_text : {K : Type 0} → Toks K → Bytes
head_text [] = []
head_text (t ∷ ts) = t.text

-- how many bytes there are from the next token on
abbrev pub left : {K : Type 0} → Toks K → ℕ
left [] = 0
left (t ∷ ts) = t.left

-- how many there are behind it
abbrev pub behind : {K : Type 0} → Toks K → ℕ
behind ts = left ts - length (head_text ts)

abbrev pub at_left : {W : Type 0} → W → ℕ → Refusal W
at_left why n = record { why = why; left = n }

-- What a reader knows of its kinds of token: the kind that stands for the end, whether two kinds are the same, how
-- a token is refused where no text goes on with it, which refusals it has where only a limit keeps it out, and the limits
-- that a token meets wherever it stands.
pub record Tongue (K W : Type 0) : Type 1 where
  pub end : K
  pub same : K → K → Bool
  pub same_is : (a b : K) → same a b ≡ true → a ≡ b
  pub same_self : (a : K) → same a a ≡ true
  pub refusal : Toks K → Refusal W
  pub IsFault : Toks K → Refusal W → Type 0
  -- the limit that a token meets by itself wherever it stands; it comes before those of its place
  pub own : Tok K → Option (Refusal W)
  pub own_is : (t : Tok K) (ts : Toks K) (r : Refusal W) → own t ≡ Some r → IsFault (t ∷ ts) r
  -- the one that comes behind those of its place, as of a string that is left open
  pub late : Tok K → Option (Refusal W)
  pub late_is : (t : Tok K) (ts : Toks K) (r : Refusal W) → late t ≡ Some r → IsFault (t ∷ ts) r
  -- at its first byte each reason is one of a limit
  pub first_is : (t : Tok K) (ts : Toks K) (w : W) → IsFault (t ∷ ts) (at_left w t.left)

abbrev pub head_kind : {K W : Type 0} → Tongue K W → Toks K → K
head_kind T [] = T.end
head_kind T (t ∷ ts) = t.kind
