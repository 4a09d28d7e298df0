-- Which live objects a root reaches by OREFs.
use Rattle.std.specs.Prelude.{◌≡◌, ℕ, zero, suc, Bool, true, ◌||◌, ◌==◌, List, [], ◌∷◌, filter, length}
use Rattle.std.specs.List.{list_any}

abbrev pub is_among : ℕ → List ℕ → Bool
is_among n ns = list_any (λ m. m == n) ns

-- where it is told which OREFs stand in the slots of an object
module _ (refs : ℕ → List ℕ) where
  -- a path of OREFs from one object to another; it may be empty
  pub data Path : ℕ → ℕ → Type 0 where
    Here : (n : ℕ) → Path n n
    Along : (n m k : ℕ) → is_among m (refs n) ≡ true → Path m k → Path n k

  abbrev pub is_next : List ℕ → ℕ → Bool
  is_next found n = is_among n found || list_any (λ m. is_among n (refs m)) found

  -- the live objects that were found, and those whose OREF stands in one of them
  abbrev pub spread : List ℕ → List ℕ → List ℕ
  spread live found = filter (is_next found) live

  abbrev pub spread_times : ℕ → List ℕ → List ℕ → List ℕ
  spread_times zero live found = found
  spread_times (suc k) live found = spread_times k live (spread live found)

  -- in the order of the live ones; no path needs more steps than there are live objects
  unfoldable pub reached : List ℕ → ℕ → List ℕ
  reached live root = spread_times (length live) live (root ∷ [])
