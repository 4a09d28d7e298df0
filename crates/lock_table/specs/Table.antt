-- How the table is kept: by each node its holders, and by each process the nodes that it holds.
use Rattle.std.specs.Prelude.{◌≡◌, ℕ, Bool, true, false, ◌&&◌, ◌||◌, List, [], ◌∷◌, ◌++◌, map, Option, Some, None, is_some, unwrap_or, ◌==◌}
use Rattle.std.specs.Ordering.{nat_cmp, is_eq}
use Rattle.std.specs.BTreeMap.{BTreeMap, get, IsOrdered}
use Rattle.std.specs.BTreeSet as nodes
use Rattle.std.specs.BTreeSet.{BTreeSet}
use Rattle.std.specs.FinMap.{from_entries}
use Rattle.obj_kinds.specs.declared.op.Pid.{Pid}
use Rattle.obj_kinds.specs.declared.op.Mode.{Mode}
use Rattle.obj_kinds.specs.declared.op.Mode.TheVariants.{Shared, Exclusive}
use Rattle.obj_kinds.specs.declared.op.Owner.TheVariants.{Script, Object}
use Rattle.obj_kinds.specs.declared.node.Node.{Node}
use Rattle.obj_kinds.specs.Order.{node_cmp}
use Rattle.lock_table.specs.declared.hold.Hold.{Hold}
use Rattle.lock_table.specs.declared.hold.Kept.{Kept}
use Rattle.lock_table.specs.declared.holder.Holder.{Holder}
use Rattle.lock_table.specs.Holds.{Holds, is_held, unheld, mode_rank}
use Rattle.lock_table.specs.Holders.{holder_cmp, holder_of, hold_on}

-- how each holder of one node holds it
abbrev pub Holders : Type 0
Holders = BTreeMap Holder Kept

abbrev pub Rows : Type 0
Rows = BTreeMap Node Holders

abbrev pub Listed : Type 0
Listed = BTreeMap ℕ (BTreeSet Node)

-- the holds that the entries say, row by row
abbrev pub flat : List (Node × Holders) → List (Hold × Kept)
flat [] = []
flat (e ∷ es) = map (λ d. (hold_on e.0 d.0, d.1)) e.1.entries ++ flat es

unfoldable pub holds_of : Rows → Holds
holds_of rows = from_entries (flat rows.entries)

abbrev pub found_among : Option Holders → Holder → Option Kept
found_among None h = None
found_among (Some m) h = get holder_cmp m h

-- how a hold is kept in the rows, if it is
abbrev pub found : Rows → Hold → Option Kept
found rows h = found_among (get node_cmp rows h.node) (holder_of h)

abbrev pub is_among : Option (BTreeSet Node) → Node → Bool
is_among None n = false
is_among (Some s) n = nodes.contains node_cmp s n

-- whether a node is in the list of a process
abbrev pub is_listed : Listed → Pid → Node → Bool
is_listed listed p n = is_among (get nat_cmp listed p.0) n

-- whether a hold is this node's and this holder's
abbrev pub is_here : Node → Holder → Hold → Bool
is_here n h q = is_eq (node_cmp n q.node) && is_eq (holder_cmp h (holder_of q))

-- whether a hold is this node's and this process's
abbrev pub is_of_process : Node → Pid → Hold → Bool
is_of_process n p q = is_eq (node_cmp n q.node) && q.pid.0 == p.0

-- the same in one mode
abbrev pub is_in_mode : Node → Pid → Mode → Hold → Bool
is_in_mode n p m q = is_of_process n p q && mode_rank q.mode == mode_rank m

-- whether a process holds a node, in a mode and in any
abbrev pub holds_in_mode : Rows → Node → Pid → Mode → Bool
holds_in_mode rows n p m = is_some (found rows (hold_on n (record { pid = p; mode = m; owner = Script }))) || is_some (found rows (hold_on n (record { pid = p; mode = m; owner = Object })))

abbrev pub holds_node : Rows → Node → Pid → Bool
holds_node rows n p = holds_in_mode rows n p Shared || holds_in_mode rows n p Exclusive

-- what is known of the rows and the lists: the rows stand in order, each hold in them is held, and its node is in its process's list
pub record IsTable (rows : Rows) (listed : Listed) : Type 0 where
  pub ordered : IsOrdered node_cmp rows
  pub held : (q : Hold) → is_some (found rows q) ≡ true → is_held (unwrap_or (found rows q) unheld) ≡ true
  pub in_list : (q : Hold) → is_some (found rows q) ≡ true → is_listed listed q.pid q.node ≡ true
