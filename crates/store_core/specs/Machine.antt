-- The store machine: what each operation of a process answers, and what the store is then.
use Rattle.std.specs.Prelude.{ℕ, zero, suc, ◌+◌, ℤ, pos, Bool, true, false, not, ◌&&◌, cond, nat_lt, [], ◌∷◌, filter, length, Option, Some, None, unwrap_or}
use Rattle.std.specs.Ordering.{nat_cmp}
use Rattle.std.specs.FinMap.{FinMap, get, insert, retain_keys, entries, empty, contains_key}
use Rattle.obj_kinds.specs.declared.node.Node.{Node}
use Rattle.obj_kinds.specs.declared.sub.Sub.{Sub}
use Rattle.obj_kinds.specs.declared.value.Value.{Value}
use Rattle.obj_kinds.specs.declared.op.Pid.{Pid}
use Rattle.obj_kinds.specs.declared.op.Op.{Op}
use Rattle.obj_kinds.specs.declared.op.Op.TheVariants.{Get, Defined, Order, Set, Kill, Incr, Lock, Unlock, UnlockAll, Begin, Commit, RollbackOne, RollbackAll, End}
use Rattle.obj_kinds.specs.declared.op.Reply.{Reply}
use Rattle.obj_kinds.specs.declared.op.Reply.TheVariants.{Done, Found, Absent, Next, NoNext, State as Told, Number, NoTran, TooDeep, NumberLimit}
use Rattle.obj_kinds.specs.Order.{covers}
use Rattle.global_tree.specs.Contents.{Globals}
use Rattle.global_tree.specs.Maps.{placed}
use Rattle.global_tree.specs.Below.{next_below, state_at}
use Rattle.lock_table.specs.Holds.{Holds, hold, given_back, all_given_back, tran_ended, all_dropped}
use Rattle.lock_table.specs.Conflict.{asked, ask_reply, release_reply}
use Rattle.tran_log.specs.Levels.{Olds, Levels, as_olds, begun, note_top, committed, rolled_back, top_undone, all_undone}
use Rattle.store_core.specs.Numbers.{incremented, as_value}

pub record State : Type 0 where
  pub globals : Globals
  pub holds : Holds
  pub levels : FinMap nat_cmp Levels  -- of the live processes
  pub pids : ℕ  -- how many processes there were at the start, from 1 on

-- what an operation of one process is about
pub record Sight : Type 0 where
  pub globals : Globals
  pub holds : Holds
  pub levels : Levels  -- its own

abbrev pub levels_at : State → ℕ → Levels
levels_at s p = unwrap_or (get s.levels p) []

abbrev pub is_live : State → Pid → Bool
is_live s p = contains_key s.levels p.0

abbrev pub sight : Globals → Holds → Levels → Sight
sight g hs ls = record { globals = g; holds = hs; levels = ls }

abbrev pub seen : State → Pid → Sight
seen s p = sight s.globals s.holds (levels_at s p.0)

abbrev pub is_open : Levels → Bool
is_open [] = false
is_open (l ∷ ls) = true

-- the nodes that a kill takes away, each with its value
abbrev pub killed : Globals → Node → Olds
killed g n = as_olds (filter (λ e. covers n e.0) (entries g))

-- an increment enters no level
abbrev pub stored : Globals → Node → Option ℤ → Globals
stored g n None = g
stored g n (Some z) = insert g n (as_value z)

-- the globals are these now, and the top level keeps what the written nodes had before
abbrev pub written : Sight → Globals → Olds → Sight
written s g olds = sight g s.holds (note_top s.levels olds)

-- these levels are left; the holds to the end go where level 0 is reached from above
abbrev pub left_with : Sight → Pid → Globals → Levels → Sight
left_with s p g ls = sight g (cond (is_open s.levels && not (is_open ls)) (tran_ended s.holds p) s.holds) ls

-- what an operation makes of it
unfoldable pub turn : Sight → Pid → Op → Sight
turn s p (Set n v) = written s (insert s.globals n v) ((n, get s.globals n) ∷ [])
turn s p (Kill n) = written s (retain_keys s.globals (λ m. not (covers n m))) (killed s.globals n)
turn s p (Incr n k) = sight (stored s.globals n (incremented (get s.globals n) k)) s.holds s.levels
turn s p (Lock n m o k) = sight s.globals (asked s.holds (hold p n m o) k) s.levels
turn s p (Unlock n m o) = sight s.globals (given_back s.holds (hold p n m o) (is_open s.levels)) s.levels
turn s p (UnlockAll o) = sight s.globals (all_given_back s.holds p o (is_open s.levels)) s.levels
turn s p Begin = sight s.globals s.holds (begun s.levels)
turn s p Commit = left_with s p s.globals (committed s.levels)
turn s p RollbackOne = left_with s p (top_undone s.globals s.levels) (rolled_back s.levels)
turn s p RollbackAll = left_with s p (all_undone s.globals s.levels) []
turn s p End = sight (all_undone s.globals s.levels) (all_dropped s.holds p) []
turn s p _ = s

-- a process that has ended is no longer live
abbrev pub live_with : Op → Levels → Option Levels
live_with End ls = None
live_with _ ls = Some ls

-- what the store is after an operation of a live process
unfoldable pub after : State → Pid → Op → State
after s p op = let t = turn (seen s p) p op in record s { globals = t.globals; holds = t.holds; levels = placed s.levels p.0 (live_with op t.levels) }

abbrev pub found_or : Option Value → Reply
found_or None = Absent
found_or (Some v) = Found v

abbrev pub next_or : Option Sub → Reply
next_or None = NoNext
next_or (Some s) = Next s

abbrev pub number_or : Option ℤ → Reply
number_or None = NumberLimit
number_or (Some z) = Number z

-- the level that is opened, of 255 at most
abbrev pub begun_reply : Levels → Reply
begun_reply ls = cond (nat_lt (length ls) 255) (Number (pos (length ls + 1))) TooDeep

-- the level that is left
abbrev pub left_reply : Levels → Reply
left_reply [] = NoTran
left_reply (l ∷ ls) = Number (pos (length ls))

-- what an operation answers
unfoldable pub answer : Sight → Pid → Op → Reply
answer s p (Get n) = found_or (get s.globals n)
answer s p (Defined n) = Told (state_at s.globals n)
answer s p (Order n sub) = next_or (next_below s.globals n sub)
answer s p (Incr n k) = number_or (incremented (get s.globals n) k)
answer s p (Lock n m o k) = ask_reply s.holds (hold p n m o)
answer s p (Unlock n m o) = release_reply s.holds (hold p n m o)
answer s p Begin = begun_reply s.levels
answer s p Commit = left_reply s.levels
answer s p RollbackOne = left_reply s.levels
answer s p _ = Done

-- what an operation of a live process answers
unfoldable pub reply : State → Pid → Op → Reply
reply s p op = answer (seen s p) p op

-- the processes 1 to n, without levels
abbrev pub all_live : ℕ → FinMap nat_cmp Levels
all_live zero = empty
all_live (suc n) = insert (all_live n) (suc n) []

abbrev pub opening : ℕ → Globals → State
opening n g = record { globals = g; holds = empty; levels = all_live n; pids = n }
