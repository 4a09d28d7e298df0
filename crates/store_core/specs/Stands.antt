-- How the parts of a store stand for its ledger.
use Rattle.std.specs.Prelude.{ℕ, ◌≡◌, ◌+◌, ◌-◌, ◌≤◌, ◌<◌, ◌^◌, true, List, length, IsTrue}
use Rattle.std.specs.List.{list_all}
use Rattle.std.specs.FinMap.{from_entries, is_sorted}
use Rattle.obj_kinds.specs.Order.{node_cmp}
use Rattle.global_tree.specs.Contents.{Contents}
use Rattle.lock_table.specs.Holds.{Holds}
use Rattle.store_core.specs.declared.entry.Entry.{Entry}
use Rattle.store_core.specs.Machine.{opening}
use Rattle.store_core.specs.History.{IsLegal, state_after}
use Rattle.store_core.specs.Volume.{volume}
use Rattle.store_core.specs.Within.{is_legal_pair, AreLegalOps}
use Rattle.store_core.specs.Live.{ends}
use Rattle.store_core.specs.Ledger.{Pairs}
use Rattle.store_core.specs.Tied.{Logs, IsOwed, IsTied}

-- places are how many entries there is memory for, and room is what the history may still take
pub record IsStore (nodes : Pairs) (tree : Contents) (holds : Holds) (logs : Logs) (history : List Entry) (places room : ℕ) : Type 0 where
  pub some : 1 ≤ length logs
  pub rising : IsTrue (is_sorted node_cmp nodes)
  pub within : list_all is_legal_pair nodes ≡ true
  pub legal_ops : AreLegalOps history
  pub legal : IsLegal (opening (length logs) (from_entries nodes)) history
  pub tied : IsTied (state_after (opening (length logs) (from_entries nodes)) history) tree.globals holds logs
  pub owed : IsOwed tree.pins logs
  pub placed : length history + (length logs - ends history) ≤ places
  pub low : room + volume history < 2 ^ 64
