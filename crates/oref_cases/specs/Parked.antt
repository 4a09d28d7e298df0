-- Holds outside a table that are parked.
use Rattle.std.specs.Prelude.{ℕ, ◌≤◌, List}
use Rattle.oref_table.specs.declared.oref.Oref.{Oref}
use Rattle.oref_table.specs.Refs.{times, numbers}
use Rattle.oref_table.specs.Memory.{Memory, outside_of}

-- each number has as many holds outside as it is parked times
abbrev pub AreParked : Memory → List Oref → Type 0
AreParked m orefs = (n : ℕ) → times n (numbers orefs) ≤ outside_of m n
