-- How a ledger is stored as a value.
use Rattle.std.specs.Prelude.{ℕ, List, refl}
use Rattle.std.specs.Coded.{Coded, code_by, coded×, coded_ℕ, coded_list}
use Rattle.obj_kinds.specs.contracts.node.Node as node
use Rattle.obj_kinds.specs.contracts.value.Value as value
use Rattle.store_core.specs.contracts.entry.Entry as entry
use Rattle.store_core.specs.declared.entry.Entry.{Entry}
use Rattle.store_core.specs.Ledger.{Ledger, Pairs}

abbrev pub ledger_code : Coded Ledger
ledger_code =
    code_by ((Pairs × List Entry) × (ℕ × ℕ)) (coded× (coded× (coded_list (coded× (node.the_row).coded (value.the_row).coded)) (coded_list (entry.the_row).coded)) (coded× coded_ℕ coded_ℕ))
    (λ l. ((l.nodes, l.history), (l.pids, l.limit)))
    (λ p. record { nodes = p.0.0; pids = p.1.0; limit = p.1.1; history = p.0.1 })
    (λ _. refl)
