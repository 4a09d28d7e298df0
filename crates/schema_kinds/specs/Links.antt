-- Places that lead to places: what is at or above what.
use Rattle.std.specs.Prelude.{◌≡◌, ℕ, zero, suc, ◌+◌, ◌<◌, ◌⊎◌, Bool, true, false, cond, List, [], ◌∷◌, ◌++◌, length, get_or, slice_set, IsTrue}
use Rattle.std.specs.List.{list_any}

-- x is an element of the list
abbrev pub IsIn : ℕ → List ℕ → Type 0
IsIn x [] = ⊥
IsIn x (y ∷ ys) = (x ≡ y) ⊎ IsIn x ys

-- the places that place a leads to at once
abbrev pub row : List (List ℕ) → ℕ → List ℕ
row links a = get_or links a []

-- b is k steps up from a
abbrev pub IsUp : List (List ℕ) → ℕ → ℕ → ℕ → Type 0
IsUp links zero a b = a ≡ b
IsUp links (suc k) a b = (s : ℕ) × IsIn s (row links a) × IsUp links k s b

-- a is at or below b: the reflexive and transitive closure
abbrev pub IsAtOrBelow : List (List ℕ) → ℕ → ℕ → Type 0
IsAtOrBelow links a b = (k : ℕ) × IsUp links k a b

-- a is below itself
abbrev pub IsInRing : List (List ℕ) → ℕ → Type 0
IsInRing links a = (s : ℕ) × IsIn s (row links a) × IsAtOrBelow links s a

-- every step leads to a place of the list
abbrev pub IsWithin : List ℕ → ℕ → Type 0
IsWithin [] n = Unit {0}
IsWithin (s ∷ ss) n = (s < n) × IsWithin ss n

abbrev pub AreWithin : List (List ℕ) → ℕ → Type 0
AreWithin [] n = Unit {0}
AreWithin (r ∷ rows) n = IsWithin r n × AreWithin rows n

-- place k is marked
abbrev pub mark_at : List Bool → ℕ → Bool
mark_at marks k = get_or marks k false

-- how many places aren't marked
abbrev pub unmarked : List Bool → ℕ
unmarked [] = 0
unmarked (mark ∷ marks) = cond mark 0 1 + unmarked marks

-- how many are
abbrev pub marked : List Bool → ℕ
marked [] = 0
marked (mark ∷ marks) = cond mark 1 0 + marked marks

-- the marks, with each of the places marked too
abbrev pub mark_all : List ℕ → List Bool → List Bool
mark_all [] marks = marks
mark_all (s ∷ ss) marks = mark_all ss (slice_set marks s true)

-- the place, where it isn't marked yet
abbrev pub fresh : List Bool → ℕ → List ℕ
fresh marks s = cond (mark_at marks s) [] (s ∷ [])

-- those of the places that aren't marked yet, each once
abbrev pub news : List ℕ → List Bool → List ℕ
news [] marks = []
news (s ∷ ss) marks = fresh marks s ++ news ss (slice_set marks s true)

-- the marks are on what is at or above a, and on nothing else
pub record AreAbove (links : List (List ℕ)) (a : ℕ) (marks : List Bool) : Type 0 where
  pub as_long : length marks ≡ length links
  pub true_marks : (b : ℕ) → IsTrue (mark_at marks b) → IsAtOrBelow links a b
  pub all_marks : (b : ℕ) → IsAtOrBelow links a b → IsTrue (mark_at marks b)

-- of the first n places, each has its marks on what is above it
pub record AreAllAbove (links : List (List ℕ)) (n : ℕ) (above : List (List Bool)) : Type 0 where
  pub as_many : length above ≡ n
  pub each : (i : ℕ) → i < n → AreAbove links i (get_or above i [])

-- how many places are at or above one
abbrev pub rank : List (List Bool) → ℕ → ℕ
rank above a = marked (get_or above a [])

-- some way of k steps leads up from a
abbrev pub climbs : ℕ → List (List ℕ) → ℕ → Bool
climbs zero links a = true
climbs (suc k) links a = list_any (λ s. climbs k links s) (row links a)
