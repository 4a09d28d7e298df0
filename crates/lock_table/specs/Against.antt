-- Which hold of the rows stands against a lock.
use Rattle.std.specs.Prelude.{◌≡◌, ◌≢◌, ℕ, Bool, true, false, ◌&&◌, Option, Some, None, is_some}
use Rattle.std.specs.declared.cmp.Ordering.TheVariants.{Less}
use Rattle.obj_kinds.specs.declared.op.Pid.{Pid}
use Rattle.obj_kinds.specs.declared.op.Mode.{Mode}
use Rattle.obj_kinds.specs.declared.node.Node.{Node}
use Rattle.obj_kinds.specs.Order.{node_cmp}
use Rattle.obj_kinds.specs.Line.{ancestor}
use Rattle.lock_table.specs.declared.hold.Hold.{Hold}
use Rattle.lock_table.specs.declared.holder.Holder.{Holder}
use Rattle.lock_table.specs.declared.refusal.Verdict.{Verdict}
use Rattle.lock_table.specs.declared.refusal.Verdict.TheVariants.{Refused, Free}
use Rattle.lock_table.specs.Holds.{hold_cmp}
use Rattle.lock_table.specs.Holders.{holder_cmp, hold_on, keeps_out}
use Rattle.lock_table.specs.Conflict.{excludes, in_line}
use Rattle.lock_table.specs.Table.{Rows, found}

-- whether a hold keeps a process from holding a node in a mode
abbrev pub stops : Pid → Mode → Node → Hold → Bool
stops p m n x = excludes p m x && in_line n x.node

-- the first holder of a node that keeps a process out
pub record IsFirstHolder (rows : Rows) (p : Pid) (m : Mode) (n : Node) (x : Holder) : Type 0 where
  pub is_there : is_some (found rows (hold_on n x)) ≡ true
  pub keeps : keeps_out p m x ≡ true
  pub none_before : (y : Holder) → is_some (found rows (hold_on n y)) ≡ true → keeps_out p m y ≡ true → holder_cmp y x ≢ Less

abbrev pub IsHolderOn : Rows → Pid → Mode → Node → Option Holder → Type 0
IsHolderOn rows p m n None = (y : Holder) → is_some (found rows (hold_on n y)) ≡ true → keeps_out p m y ≡ false
IsHolderOn rows p m n (Some x) = IsFirstHolder rows p m n x

-- the first hold of the rows that stops a lock
pub record IsFirstStop (rows : Rows) (p : Pid) (m : Mode) (n : Node) (x : Hold) : Type 0 where
  pub is_there : is_some (found rows x) ≡ true
  pub it_stops : stops p m n x ≡ true
  pub none_before : (y : Hold) → is_some (found rows y) ≡ true → stops p m n y ≡ true → hold_cmp y x ≢ Less

-- no hold of the rows stops it
abbrev pub NoneStops : Rows → Pid → Mode → Node → Type 0
NoneStops rows p m n = (y : Hold) → is_some (found rows y) ≡ true → stops p m n y ≡ false

-- no hold whose node comes before the ancestor with so many subscripts stops it
abbrev pub NoneBefore : ℕ → Rows → Pid → Mode → Node → Type 0
NoneBefore k rows p m n = (y : Hold) → is_some (found rows y) ≡ true → node_cmp y.node (ancestor k n) ≡ Less → stops p m n y ≡ false

-- what stands against a lock, or a copy of its node where nothing does
abbrev pub IsVerdict : Rows → Pid → Mode → Node → Verdict → Type 0
IsVerdict rows p m n (Refused k x) = IsFirstStop rows p m n (hold_on k x)
IsVerdict rows p m n (Free c) = NoneStops rows p m n × (c ≡ n)
