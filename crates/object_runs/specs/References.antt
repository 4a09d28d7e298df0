-- The reference clause: an object is live exactly while something holds it, and no two live objects are of one key.
use Rattle.std.specs.Prelude.{◌≡◌, ◌↔◌, ◌≤◌, ℕ, ◌+◌, ◌==◌, true, cond, List, [], ◌∷◌, ◌++◌, Some}
use Rattle.std.specs.List.{flat_map}
use Rattle.schema_kinds.specs.declared.key.Key.{Key}
use Rattle.object_calls.specs.Reach.{is_among}
use Rattle.object_calls.specs.Memories.{Memories, key_of}

-- how often the number stands in the list
abbrev pub times : ℕ → List ℕ → ℕ
times n [] = 0
times n (m ∷ ms) = cond (m == n) 1 0 + times n ms

-- the places of an object: those of the frames and of the call in progress, and those in the slots of live objects
abbrev pub occurrences : {M : Type 0} → Memories M → M → List ℕ → ℕ → ℕ
occurrences memories m places n = times n (places ++ flat_map (memories.refs m) (memories.live m))

-- of a memory, where these OREFs stand in the frames and in the call in progress
pub record KeepsReferences {M : Type 0} (memories : Memories M) (m : M) (places : List ℕ) : Type 0 where
  pub live : (n : ℕ) → (is_among n (memories.live m) ≡ true) ↔ (1 ≤ occurrences memories m places n)
  pub one : (n k : ℕ) (key : Key) → is_among n (memories.live m) ≡ true → is_among k (memories.live m) ≡ true
      → key_of (memories.seen m n) ≡ Some key → key_of (memories.seen m k) ≡ Some key → n ≡ k

-- whenever a process has returned from a call and hasn't ended: its table is the memory of its meaning, and this keeps its references
pub record IsTableOf {M : Type 0} (memories : Memories M) (table m : M) (places : List ℕ) : Type 0 where
  pub same : table ≡ m
  pub keeps : KeepsReferences memories m places
