-- What a root reaches, and what a path leads to.
use Rattle.std.specs.Prelude.{◌≡◌, ◌↔◌, ℕ, Bool, true, List, filter}
use Rattle.object_calls.specs.Reach.{is_among, Path, reached}

-- each OREF in a live object is that of a live object
abbrev pub AreClosed : (ℕ → List ℕ) → List ℕ → Type 0
AreClosed refs live = (n m : ℕ) → is_among n live ≡ true → is_among m (refs n) ≡ true → is_among m live ≡ true

-- a live root reaches exactly the ends of paths from it
abbrev pub ReachFollowsPaths : Type 0
ReachFollowsPaths =
    (refs : ℕ → List ℕ) (live : List ℕ) (root : ℕ) → is_among root live ≡ true → AreClosed refs live
    → (n : ℕ) → (is_among n (reached refs live root) ≡ true) ↔ Path refs root n

-- and they stand in the order of the live ones
abbrev pub ReachKeepsOrder : Type 0
ReachKeepsOrder =
    (refs : ℕ → List ℕ) (live : List ℕ) (root : ℕ) → is_among root live ≡ true
    → (keeps : ℕ → Bool) × (reached refs live root ≡ filter keeps live)
