-- The lines of a text: each ends at a line feed, the last one at the text's end.
use Rattle.std.specs.Prelude.{◌≡◌, ◌≢◌, ◌⊎◌, ℕ, ◌-◌, if◌then◌else◌, ◌==◌, List, [], ◌∷◌, ◌++◌, length, take, slice_index}

abbrev pub Bytes : Type 0
Bytes = List ℕ

-- a byte in front of the first line
abbrev pub onto_first : ℕ → List Bytes → List Bytes
onto_first b [] = (b ∷ []) ∷ []
onto_first b (z ∷ zs) = (b ∷ z) ∷ zs

unfoldable pub lines : Bytes → List Bytes
lines [] = []
lines (b ∷ z) = if b == 10 then [] ∷ lines z else onto_first b (lines z)

-- what stands before the first line feed, and what behind it
unfoldable pub first_line : Bytes → Bytes
first_line [] = []
first_line (b ∷ z) = if b == 10 then [] else b ∷ first_line z

unfoldable pub behind_line : Bytes → Bytes
behind_line [] = []
behind_line (b ∷ z) = if b == 10 then z else behind_line z

-- a line without a byte 13 at its end
unfoldable pub without_return : Bytes → Bytes
without_return z = if slice_index z (length z - 1) == 13 then take (length z - 1) z else z

-- ---- the law of lines

-- no line has a line feed
unfoldable pub NoFeed : Bytes → Type 0
NoFeed [] = Unit {0}
NoFeed (b ∷ z) = (b ≢ 10) × NoFeed z

unfoldable pub HaveNoFeed : List Bytes → Type 0
HaveNoFeed [] = Unit {0}
HaveNoFeed (z ∷ zs) = NoFeed z × HaveNoFeed zs

-- each line with a line feed behind it
unfoldable pub printed : List Bytes → Bytes
printed [] = []
printed (z ∷ zs) = z ++ 10 ∷ printed zs

-- With a line feed behind each of them, or behind each but the last, the lines are the text.
pub record AreLines (text : Bytes) (zs : List Bytes) : Type 0 where
  pub no_feed : HaveNoFeed zs
  pub whole : (printed zs ≡ text) ⊎ (printed zs ≡ text ++ 10 ∷ [])
