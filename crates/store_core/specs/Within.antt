-- What of a store is within the limits of nodes, values and numbers.
use Rattle.std.specs.Prelude.{◌≡◌, ◌≤◌, ℕ, Bool, true, ◌&&◌, List, [], ◌∷◌, length, Option, None, Some}
use Rattle.std.specs.FinMap.{get, contains_key}
use Rattle.obj_kinds.specs.declared.node.Node.{Node}
use Rattle.obj_kinds.specs.declared.value.Value.{Value}
use Rattle.obj_kinds.specs.Limits.{is_legal_node, is_legal_value, is_legal_op, is_legal_reply}
use Rattle.lock_table.specs.declared.hold.Hold.{Hold}
use Rattle.lock_table.specs.Holds.{Holds}
use Rattle.global_tree.specs.Contents.{Globals}
use Rattle.tran_log.specs.Levels.{Level, Levels}
use Rattle.store_core.specs.declared.entry.Entry.{Entry}
use Rattle.store_core.specs.Machine.{State, levels_at}

-- whether a value at a node is within the limits, and the node too
abbrev pub is_legal_at : Node → Option Value → Bool
is_legal_at n None = true
is_legal_at n (Some v) = is_legal_node n && is_legal_value v

-- the same of what a level keeps of a node
abbrev pub is_legal_old : Node → Option (Option Value) → Bool
is_legal_old n None = true
is_legal_old n (Some v) = is_legal_at n v

abbrev pub AreLegal : Globals → Type 0
AreLegal g = (n : Node) → is_legal_at n (get g n) ≡ true

abbrev pub AreLegalHolds : Holds → Type 0
AreLegalHolds hs = (h : Hold) → contains_key hs h ≡ true → is_legal_node h.node ≡ true

abbrev pub IsLegalLevel : Level → Type 0
IsLegalLevel l = (n : Node) → is_legal_old n (get l n) ≡ true

abbrev pub AreLegalLevels : Levels → Type 0
AreLegalLevels [] = Unit {0}
AreLegalLevels (l ∷ ls) = IsLegalLevel l × AreLegalLevels ls

-- globals, holds and all levels are within the limits; a process has 255 levels at most
pub record IsWithinLimits (s : State) : Type 0 where
  pub globals : AreLegal s.globals
  pub holds : AreLegalHolds s.holds
  pub levels : (q : ℕ) → AreLegalLevels (levels_at s q)
  pub depth : (q : ℕ) → length (levels_at s q) ≤ 255

-- whether an opening node and its value are within the limits
abbrev pub is_legal_pair : Node × Value → Bool
is_legal_pair e = is_legal_node e.0 && is_legal_value e.1

-- the operations of a history are within the limits, and so are its replies
abbrev pub AreLegalOps : List Entry → Type 0
AreLegalOps [] = Unit {0}
AreLegalOps (e ∷ es) = (is_legal_op e.op ≡ true) × AreLegalOps es

abbrev pub AreLegalReplies : List Entry → Type 0
AreLegalReplies [] = Unit {0}
AreLegalReplies (e ∷ es) = (is_legal_reply e.reply ≡ true) × AreLegalReplies es
