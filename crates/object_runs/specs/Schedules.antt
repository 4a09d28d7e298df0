-- A history follows a schedule.
use Rattle.std.specs.Prelude.{◌≡◌, ℕ, zero, suc, Bool, not, cond, ◌==◌, List, [], ◌∷◌, ◌++◌, filter, Option, Some, None}
use Rattle.std.specs.List.{list_any}
use Rattle.obj_kinds.specs.declared.op.Op.{Op}
use Rattle.obj_kinds.specs.declared.op.Op.TheVariants.{End}
use Rattle.store_core.specs.declared.entry.Entry.{Entry}

-- the numbers 1 to n
abbrev pub upto : ℕ → List ℕ
upto zero = []
upto (suc n) = upto n ++ suc n ∷ []

abbrev pub is_among : ℕ → List ℕ → Bool
is_among p ps = list_any (λ q. q == p) ps

-- the first live process of a list, and what stands behind it
abbrev pub first_live : List ℕ → List ℕ → Option (ℕ × List ℕ)
first_live live [] = None
first_live live (p ∷ ps) = cond (is_among p live) (Some (p, ps)) (first_live live ps)

-- those that are live behind an entry
abbrev pub live_behind : Op → ℕ → List ℕ → List ℕ
live_behind End p live = filter (λ q. not (q == p)) live
live_behind op p live = live

-- whose turn it is: the schedule's next live process; behind the schedule the round's next one; behind the round the lowest one
pub record Turn : Type 0 where
  pub pid : ℕ
  pub schedule : List ℕ
  pub round : List ℕ

abbrev pub by_new_round : Option (ℕ × List ℕ) → Option Turn
by_new_round None = None
by_new_round (Some (p, ps)) = Some (record { pid = p; schedule = []; round = ps })

abbrev pub by_round : List ℕ → Option (ℕ × List ℕ) → Option Turn
by_round live None = by_new_round (first_live live live)
by_round live (Some (p, ps)) = Some (record { pid = p; schedule = []; round = ps })

abbrev pub by_schedule : List ℕ → List ℕ → Option (ℕ × List ℕ) → Option Turn
by_schedule live round None = by_round live (first_live live round)
by_schedule live round (Some (p, ps)) = Some (record { pid = p; schedule = ps; round = round })

abbrev pub turn : List ℕ → List ℕ → List ℕ → Option Turn
turn live schedule round = by_schedule live round (first_live live schedule)

-- the live processes are in rising order; the round is what is left of the present one
abbrev pub TakesTurns : List ℕ → List ℕ → List ℕ → List Entry → Type 0
TakesTurns live schedule round [] = live ≡ []
TakesTurns live schedule round (e ∷ es) =
    (t : Turn) × (turn live schedule round ≡ Some t) × (e.pid.0 ≡ t.pid) × TakesTurns (live_behind e.op e.pid.0 live) t.schedule t.round es

-- the entries are those of the schedule with ended processes left out, and then rounds of the live processes, each from the lowest
abbrev pub Follows : ℕ → List ℕ → List Entry → Type 0
Follows pids schedule history = TakesTurns (upto pids) schedule [] history
