-- The levels of a process's transactions: what their nodes had before, and what undoing them makes
-- of the globals.
use Rattle.std.specs.Prelude.{ℕ, ◌+◌, nat_lt, cond, List, [], ◌∷◌, length, map, Option, Some}
use Rattle.std.specs.Ordering.{eq_by_cmp}
use Rattle.std.specs.FinMap.{FinMap, insert, entries, empty, contains_key}
use Rattle.obj_kinds.specs.declared.node.Node.{Node}
use Rattle.obj_kinds.specs.declared.value.Value.{Value}
use Rattle.obj_kinds.specs.Order.{node_cmp}
use Rattle.global_tree.specs.Maps.{placed}
pub use Rattle.global_tree.specs.Contents.{Globals, Pins, Contents, pins_of}

-- nodes, each with its value before a write, or with none
abbrev pub Olds : Type 0
Olds = List (Node × Option Value)

-- taken nodes, each with the value that it had
abbrev pub as_olds : List (Node × Value) → Olds
as_olds es = map (λ e. (e.0, Some e.1)) es

-- what each node that a level wrote had before its first write in it
abbrev pub Level : Type 0
Level = FinMap node_cmp (Option Value)

-- the top level first
abbrev pub Levels : Type 0
Levels = List Level

-- the level keeps what it has
unfoldable pub noted_one : Level → Node → Option Value → Level
noted_one l n v = cond (contains_key l n) l (insert l n v)

-- with the pairs that the level lacks
abbrev pub noted : Level → Olds → Level
noted l [] = l
noted l (e ∷ es) = noted (noted_one l e.0 e.1) es

-- the first pair of a node counts
abbrev pub put_all : Globals → Olds → Globals
put_all g [] = g
put_all g (e ∷ es) = placed (put_all g es) e.0 e.1

-- each node of the level has its kept value again
abbrev pub undone : Globals → Level → Globals
undone g l = put_all g (entries l)

-- the top level is undone first
abbrev pub all_undone : Globals → Levels → Globals
all_undone g [] = g
all_undone g (l ∷ ls) = all_undone (undone g l) ls

-- ---- what a call makes of the levels

-- a process has 255 levels at most
abbrev pub begun : Levels → Levels
begun ls = cond (nat_lt (length ls) 255) (empty ∷ ls) ls

abbrev pub note_top : Levels → Olds → Levels
note_top [] es = []
note_top (l ∷ ls) es = noted l es ∷ ls

-- an inner level adds to the one below what that lacks
abbrev pub committed : Levels → Levels
committed [] = []
committed (l ∷ []) = []
committed (l ∷ k ∷ ls) = noted k (entries l) ∷ ls

abbrev pub rolled_back : Levels → Levels
rolled_back [] = []
rolled_back (l ∷ ls) = ls

abbrev pub top_undone : Globals → Levels → Globals
top_undone g [] = g
top_undone g (l ∷ ls) = undone g l

-- ---- how many pins are owed

-- 1 where the level has the node
abbrev pub has : Level → Node → ℕ
has l n = cond (contains_key l n) 1 0

-- how many levels keep the node
abbrev pub kept_by : Levels → Node → ℕ
kept_by [] n = 0
kept_by (l ∷ ls) n = has l n + kept_by ls n

-- how often the node stands in the list
abbrev pub times : {X : Type 0} → List (Node × X) → Node → ℕ
times [] n = 0
times (e ∷ es) n = cond (eq_by_cmp node_cmp n e.0) 1 0 + times es n
