-- How objects are kept: by their numbers, and beside them the numbers of those that wait for release.
use Rattle.std.specs.Prelude.{ℕ, ◌≡◌, ◌+◌, ◌≤◌, ◌==◌, cond, Bool, true, false, Option, Some, None, List, [], ◌∷◌, map}
use Rattle.std.specs.List.{AllByRecursion, list_any}
use Rattle.std.specs.List.Sorted.{IsStrictlySortedBy}
use Rattle.std.specs.Map.{keys_of}
use Rattle.std.specs.BinaryHeap.{IsHeap}
use Rattle.std.specs.Ordering.{nat_cmp}
use Rattle.std.specs.declared.cmp.Ordering.{Ordering}
use Rattle.std.specs.declared.cmp.Reverse.{Reverse}
use Rattle.oref_table.specs.declared.obj.Obj.{Obj}
use Rattle.oref_table.specs.declared.obj.Entry.{Entry}
use Rattle.oref_table.specs.Memory.{at_first}
use Rattle.oref_table.specs.Entries.{is_entry}

abbrev pub entry_of : ℕ × Obj → Entry
entry_of p = record { number = p.0; obj = p.1 }

-- the rows, each as an entry
abbrev pub entries_in : List (ℕ × Obj) → List Entry
entries_in rows = map entry_of rows

-- least first
abbrev pub least_first : Reverse ℕ → Reverse ℕ → Ordering
least_first x y = nat_cmp y.0 x.0

abbrev pub waits : List (Reverse ℕ) → ℕ → Bool
waits waiting n = list_any (λ (x : Reverse ℕ). x.0 == n) waiting

-- an object that nothing counts waits for release
abbrev pub AwaitsRelease : List (Reverse ℕ) → ℕ × Obj → Type 0
AwaitsRelease waiting p = p.1.count ≡ 0 → waits waiting p.0 ≡ true

-- how many objects have a holder
abbrev pub counted_rows : List (ℕ × Obj) → ℕ
counted_rows [] = 0
counted_rows (p ∷ ps) = cond (p.1.count == 0) 0 1 + counted_rows ps

-- `room`: each object that still has a holder may come to wait
pub record AreRows (rows : List (ℕ × Obj)) (waiting : List (Reverse ℕ)) (long places : ℕ) : Type 0 where
  pub rising : IsStrictlySortedBy nat_cmp (keys_of rows)
  pub awaited : AllByRecursion (AwaitsRelease waiting) rows
  pub order : IsHeap least_first waiting
  pub room : long + counted_rows rows ≤ places

-- nothing counts the object, if there is one
abbrev pub is_idle : Option Obj → Bool
is_idle None = false
is_idle (Some obj) = obj.count == 0

-- the numbers, each with whether nothing counts its object
abbrev pub idle_in : List (ℕ × Obj) → List (ℕ × Bool)
idle_in rows = map (λ p. (p.0, p.1.count == 0)) rows

-- the object of the number is changed so, if there is one, and has a holder after it just if it had one before
pub record IsRowEdit (n : ℕ) (f : Entry → Entry) (old new : List (ℕ × Obj)) : Type 0 where
  pub entries : entries_in new ≡ at_first (is_entry n) f (entries_in old)
  pub idle : idle_in new ≡ idle_in old
