-- Objects that are held once more for each time that their number stands in a list.
use Rattle.std.specs.Prelude.{◌+◌, ◌<◌, ℕ, IsSome, List, map}
use Rattle.std.specs.List.{AllByRecursion}
use Rattle.oref_table.specs.Refs.{times}
use Rattle.oref_table.specs.Memory.{Object, Memory, object_of, holders}
use Rattle.oref_table.specs.Sound.{IsSound}

abbrev pub tighten_by : List ℕ → Object → Object
tighten_by ns o = record o { outside = o.outside + times o.number ns }

unfoldable pub tightened : Memory → List ℕ → Memory
tightened m ns = record m { objects = map (tighten_by ns) m.objects }

-- each of the numbers is that of a live object
unfoldable pub AreLive : Memory → List ℕ → Type 0
AreLive m ns = (n : ℕ) → 0 < times n ns → IsSome (object_of n m.objects)

-- what holds of every table
pub record IsKept (m : Memory) : Type 0 where
  pub sound : IsSound m
  pub held : AllByRecursion (λ o. 0 < holders m.objects o) m.objects
