-- What a store is seen as: the nodes that it was opened with, how many processes there were, the
-- volume that its history may take, and the history. All else follows from these.
use Rattle.std.specs.Prelude.{ℕ, ◌≡◌, ◌+◌, ◌≤◌, true, List, [], ◌∷◌, ◌++◌}
use Rattle.std.specs.FinMap.{from_entries}
use Rattle.obj_kinds.specs.declared.node.Node.{Node}
use Rattle.obj_kinds.specs.declared.value.Value.{Value}
use Rattle.obj_kinds.specs.declared.op.Pid.{Pid}
use Rattle.obj_kinds.specs.declared.op.Op.{Op}
use Rattle.obj_kinds.specs.declared.op.Op.TheVariants.{End}
use Rattle.obj_kinds.specs.declared.op.Reply.TheVariants.{Done}
use Rattle.store_core.specs.declared.entry.Entry.{Entry}
use Rattle.store_core.specs.Machine.{State, is_live, after, opening}
use Rattle.store_core.specs.History.{IsLegalWithin, state_after, entry_of}
use Rattle.store_core.specs.Volume.{volume, entry_volume}

abbrev pub Pairs : Type 0
Pairs = List (Node × Value)

pub record Ledger : Type 0 where
  pub nodes : Pairs
  pub pids : ℕ
  pub limit : ℕ
  pub history : List Entry

-- the state that the history begins in
unfoldable pub opened : Ledger → State
opened l = opening l.pids (from_entries l.nodes)

-- the state after the history
unfoldable pub state_of : Ledger → State
state_of l = state_after (opened l) l.history

-- what the machine makes of an operation after the history
abbrev pub next_entry : Ledger → Pid → Op → Entry
next_entry l p op = entry_of (state_of l) p op

-- the end of a process
abbrev pub end_entry : Pid → Entry
end_entry p = record { pid = p; op = End; reply = Done }

abbrev pub with_entry : Ledger → Entry → Ledger
with_entry l e = record l { history = l.history ++ e ∷ [] }

-- what the history takes with the entry
abbrev pub volume_with : Ledger → Entry → ℕ
volume_with l e = volume l.history + entry_volume e

-- its history is legal within its limit
abbrev pub IsSound : Ledger → Type 0
IsSound l = IsLegalWithin l.limit (opened l) l.history

-- after these operations of these processes
abbrev pub ran : Ledger → List (Pid × Op) → Ledger
ran l [] = l
ran l (a ∷ more) = ran (with_entry l (next_entry l a.0 a.1)) more

-- each of the operations is one of a live process, and has room in the history
abbrev pub AreAccepted : Ledger → List (Pid × Op) → Type 0
AreAccepted l [] = Unit {0}
AreAccepted l (a ∷ more) = (is_live (state_of l) a.0 ≡ true) × ((volume_with l (next_entry l a.0 a.1) ≤ l.limit) × AreAccepted (with_entry l (next_entry l a.0 a.1)) more)

-- what the machine makes of the operations one after another
abbrev pub after_all : State → List (Pid × Op) → State
after_all s [] = s
after_all s (a ∷ more) = after_all (after s a.0 a.1) more

-- and what it answers
abbrev pub entries_of : State → List (Pid × Op) → List Entry
entries_of s [] = []
entries_of s (a ∷ more) = entry_of s a.0 a.1 ∷ entries_of (after s a.0 a.1) more
