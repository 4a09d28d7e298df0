-- How the tree, the locks and the logs stand for a state of the store machine.
use Rattle.std.specs.Prelude.{◌≡◌, ℕ, zero, suc, ◌+◌, ◌-◌, ◌≤◌, List, [], ◌∷◌, ◌++◌, length, slice_index_or, Option, None, Some}
use Rattle.std.specs.List.{sum_by}
use Rattle.std.specs.FinMap.{get}
use Rattle.obj_kinds.specs.declared.node.Node.{Node}
use Rattle.global_tree.specs.Contents.{Globals, Pins, pins_of}
use Rattle.lock_table.specs.Holds.{Holds}
use Rattle.tran_log.specs.Levels.{Levels, kept_by}
use Rattle.store_core.specs.Machine.{State}

-- the levels of each process from 1 on; none where it has ended
abbrev pub Logs : Type 0
Logs = List (Option Levels)

abbrev pub levels_in : Option Levels → Levels
levels_in None = []
levels_in (Some ls) = ls

-- of so many processes, all live and without levels
abbrev pub fresh : ℕ → Logs
fresh zero = []
fresh (suc n) = fresh n ++ Some [] ∷ []

-- how many levels keep the node, those of all processes together
abbrev pub owed : Logs → Node → ℕ
owed logs n = sum_by (λ o. kept_by (levels_in o) n) logs

-- by how many levels the processes pass 255
abbrev pub too_many : Logs → ℕ
too_many logs = sum_by (λ o. length (levels_in o) - 255) logs

-- the tree has one pin for each level that keeps a node
pub record IsOwed (pins : Pins) (logs : Logs) : Type 0 where
  pub pinned : (n : Node) → pins_of pins n ≡ owed logs n
  pub low : too_many logs ≡ 0
  pub few : length logs ≤ 64

pub record IsTied (s : State) (globals : Globals) (holds : Holds) (logs : Logs) : Type 0 where
  pub same_globals : s.globals ≡ globals
  pub same_holds : s.holds ≡ holds
  pub same_levels : (i : ℕ) → get s.levels (i + 1) ≡ slice_index_or logs i None
