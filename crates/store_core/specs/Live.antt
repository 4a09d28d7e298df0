-- How many processes are live, and how many have ended.
use Rattle.std.specs.Prelude.{◌≡◌, ◌≤◌, ℕ, zero, suc, ◌+◌, Bool, true, false, cond, List, [], ◌∷◌}
use Rattle.std.specs.FinMap.{contains_key}
use Rattle.obj_kinds.specs.declared.op.Op.{Op}
use Rattle.obj_kinds.specs.declared.op.Op.TheVariants.{End}
use Rattle.store_core.specs.declared.entry.Entry.{Entry}
use Rattle.store_core.specs.Machine.{State}

abbrev pub is_end : Op → Bool
is_end End = true
is_end _ = false

-- how many entries end a process
abbrev pub ends : List Entry → ℕ
ends [] = 0
ends (e ∷ es) = cond (is_end e.op) 1 0 + ends es

-- for how many of the numbers 1 to n the test holds
abbrev pub count_upto : (ℕ → Bool) → ℕ → ℕ
count_upto f zero = 0
count_upto f (suc n) = cond (f (suc n)) 1 0 + count_upto f n

-- how many processes are live
unfoldable pub live_count : State → ℕ
live_count s = count_upto (contains_key s.levels) s.pids

-- no process is live beside those from 1 on that there were at the start
unfoldable pub AreLiveWithin : State → Type 0
AreLiveWithin s = (q : ℕ) → contains_key s.levels q ≡ true → (1 ≤ q) × (q ≤ s.pids)
