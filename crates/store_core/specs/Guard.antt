-- Guards: which node a process has to hold before it writes another.
use Rattle.std.specs.Prelude.{◌≡◌, ◌<◌, ◌≤◌, Bool, true, false, not, ◌&&◌, cond, List, [], ◌∷◌, Option, is_some}
use Rattle.std.specs.FinMap.{get, contains_key}
use Rattle.obj_kinds.specs.declared.node.Node.{Node}
use Rattle.obj_kinds.specs.declared.value.Value.{Value}
use Rattle.obj_kinds.specs.declared.op.Pid.{Pid}
use Rattle.obj_kinds.specs.declared.op.Op.{Op}
use Rattle.obj_kinds.specs.declared.op.Op.TheVariants.{Set, Kill, Incr, Commit, End}
use Rattle.obj_kinds.specs.declared.op.Owner.{Owner}
use Rattle.obj_kinds.specs.declared.op.Mode.TheVariants.{Exclusive}
use Rattle.obj_kinds.specs.Order.{covers}
use Rattle.lock_table.specs.Holds.{Holds, hold, kept}
use Rattle.lock_table.specs.Calls.{IsFree}
use Rattle.tran_log.specs.Levels.{Levels}
use Rattle.store_core.specs.declared.entry.Entry.{Entry}
use Rattle.store_core.specs.Machine.{State, levels_at, is_live, is_open, after}
use Rattle.store_core.specs.History.{IsLegal}
use Rattle.store_core.specs.Cleared.{outermost, cleared}

-- how a node is guarded: not at all, by the lock of a node, or so that no process may write it
pub data Guarding : Type 0 where
  Unguarded : Guarding
  GuardedBy : Node → Guarding
  Closed : Guarding

abbrev pub Guard : Type 0
Guard = Node → Guarding

abbrev pub guards : Guarding → Bool
guards Unguarded = false
guards _ = true

abbrev pub is_guarded : Guard → Node → Bool
is_guarded guard n = guards (guard n)

-- the process holds the node exclusively to the end of its transaction, on whosever behalf
abbrev pub HoldsToEnd : Holds → Pid → Node → Type 0
HoldsToEnd hs p n = (o : Owner) × ((kept hs (hold p n Exclusive o)).to_end ≡ true)

-- the process has what the guarding asks of a writer
abbrev pub HoldsGuard : Holds → Pid → Guarding → Type 0
HoldsGuard hs p Unguarded = Unit {0}
HoldsGuard hs p (GuardedBy row) = HoldsToEnd hs p row
HoldsGuard hs p Closed = ⊥

-- whether one of the levels has the node
abbrev pub names : Levels → Node → Bool
names ls n = is_some (outermost ls n)

-- where the node is guarded, the process has a level open and holds the node's guard
abbrev pub MayWrite : Guard → State → Pid → Node → Type 0
MayWrite guard s p n = is_guarded guard n ≡ true → (is_open (levels_at s p.0) ≡ true) × HoldsGuard s.holds p (guard n)

-- the process may write each node that the operation sets or takes a value from; no increment changes a guarded node
abbrev pub Respects : Guard → State → Pid → Op → Type 0
Respects guard s p (Set n v) = MayWrite guard s p n
Respects guard s p (Kill n) = (m : Node) → covers n m ≡ true → contains_key s.globals m ≡ true → MayWrite guard s p m
Respects guard s p (Incr n k) = is_guarded guard n ≡ true → get (after s p (Incr n k)).globals n ≡ get s.globals n
Respects guard s p _ = Unit {0}

-- each operation of the history respects the guard
abbrev pub AllRespect : Guard → State → List Entry → Type 0
AllRespect guard s [] = Unit {0}
AllRespect guard s (e ∷ es) = Respects guard s e.pid e.op × AllRespect guard (after s e.pid e.op) es

-- the history is legal, and each of its operations respects the guard
abbrev pub IsLegalUnder : Guard → State → List Entry → Type 0
IsLegalUnder guard s es = IsLegal s es × AllRespect guard s es

-- no two holds are in conflict, each process holds the guards of all nodes in its levels, and the live ones are
-- numbered from 1 on
pub record IsGuarded (guard : Guard) (s : State) : Type 0 where
  pub free : IsFree s.holds
  pub held : (p : Pid) (n : Node) → names (levels_at s p.0) n ≡ true → HoldsGuard s.holds p (guard n)
  pub numbered : (p : Pid) → is_live s p ≡ true → (0 < p.0) × (p.0 ≤ s.pids)

-- whether there is one level alone, and it has the node
abbrev pub last_has : Levels → Node → Bool
last_has [] n = false
last_has (l ∷ []) n = contains_key l n
last_has (l ∷ k ∷ ls) n = false

-- whether the operation, by a process with these levels, is an outermost commit with the node in its level
abbrev pub commits : Levels → Op → Node → Bool
commits ls Commit n = last_has ls n
commits ls _ n = false

-- the cleared value of a guarded node stays as it was, or becomes the present value at such a commit
abbrev pub MovesAtCommits : Guard → State → Pid → Op → Type 0
MovesAtCommits guard s p op =
    (n : Node) → is_guarded guard n ≡ true
    → cleared (after s p op) n ≡ cond (commits (levels_at s p.0) op n) (get s.globals n) (cleared s n)

-- what a node had at the last such commit of the history; where there is none, this value
abbrev pub last_committed : State → List Entry → Node → Option Value → Option Value
last_committed s [] n v = v
last_committed s (e ∷ es) n v =
    last_committed (after s e.pid e.op) es n (cond (commits (levels_at s e.pid.0) e.op n) (get s.globals n) v)

-- whether the operation ends the process, or its levels, first these and then those, are all left
abbrev pub ends : Op → Levels → Levels → Bool
ends End ls later = true
ends _ ls later = is_open ls && not (is_open later)
