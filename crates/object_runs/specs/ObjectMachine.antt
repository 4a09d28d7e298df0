-- The object machine: a world of whole records, and the pending changes of each process, moved by whole saves and deletes.
use Rattle.std.specs.Prelude.{ℕ, List, [], ◌∷◌, ◌++◌, Option, Some, None, unwrap_or}
use Rattle.std.specs.Ordering.{nat_cmp}
use Rattle.std.specs.FinMap.{FinMap, get, insert, empty}
use Rattle.obj_kinds.specs.declared.op.Op.{Op}
use Rattle.obj_kinds.specs.declared.op.Op.TheVariants.{Begin, Commit, RollbackOne, RollbackAll, End}
use Rattle.obj_kinds.specs.declared.op.Reply.{Reply}
use Rattle.obj_kinds.specs.declared.op.Reply.TheVariants.{Number}
use Rattle.schema_kinds.specs.Worlds.{World, Change, apply}
use Rattle.store_calls.specs.Calls.{Tag, Opens, Inside, Closes}

-- an operation of a process with its reply, and the view of the process just before it
pub record Own : Type 0 where
  pub op : Op
  pub reply : Reply
  pub view : World

-- a save or delete in progress: the lists before its Begin, and what it asked since then, the newest first
pub record Within : Type 0 where
  pub before : List Change
  pub asked : List Op

-- what is kept of a process
pub record Desk : Type 0 where
  -- its lists of changes, one for each level, the top one first
  pub lists : List Change
  -- the save or delete that it is within
  pub within : Option Within
  -- all that it asked, the newest first
  pub own : List Own

pub record Desks : Type 0 where
  pub world : World
  pub desks : FinMap nat_cmp Desk

abbrev pub clear_desk : Desk
clear_desk = record { lists = []; within = None; own = [] }

abbrev pub desk_at : Desks → ℕ → Desk
desk_at o p = unwrap_or (get o.desks p) clear_desk

-- the world with the lists carried out, the outermost first
abbrev pub apply_all : List Change → World → World
apply_all [] w = w
apply_all (c ∷ cs) w = apply c (apply_all cs w)

-- the world under the pending changes of a process
abbrev pub view : Desks → ℕ → World
view o p = apply_all (desk_at o p).lists o.world

-- ---- what an operation does to the lists

-- the change of a save or delete goes to the end of the top list
abbrev pub with_change : Tag → List Change → List Change
with_change (Closes change) (c ∷ cs) = (c ++ change) ∷ cs
with_change _ cs = cs

-- the list of an inner level goes behind that of the level below; that of the outermost leaves
abbrev pub joined : List Change → List Change
joined [] = []
joined (c ∷ []) = []
joined (c ∷ d ∷ ds) = (d ++ c) ∷ ds

-- the list of the outermost level is carried out
abbrev pub committed : List Change → World → World
committed (c ∷ []) w = apply c w
committed _ w = w

abbrev pub without_top : List Change → List Change
without_top [] = []
without_top (c ∷ cs) = cs

-- an operation that got no number changes nothing
abbrev pub lists_after : Op → Reply → Tag → List Change → List Change
lists_after Begin (Number z) tag cs = [] ∷ cs
lists_after Commit (Number z) tag cs = joined (with_change tag cs)
lists_after RollbackOne (Number z) tag cs = without_top cs
lists_after RollbackAll r tag cs = []
lists_after End r tag cs = []
lists_after _ r tag cs = cs

abbrev pub world_after : Op → Reply → Tag → List Change → World → World
world_after Commit (Number z) tag cs w = committed (with_change tag cs) w
world_after _ r tag cs w = w

-- ---- within a save or delete: from its Begin up to its Commit or RollbackOne

abbrev pub opened : Reply → List Change → Option Within
opened (Number z) cs = Some (record { before = cs; asked = [] })
opened _ cs = None

abbrev pub one_more : Op → Option Within → Option Within
one_more op None = None
one_more op (Some s) = Some (record { before = s.before; asked = op ∷ s.asked })

abbrev pub within_by : Op → Reply → Tag → List Change → Option Within → Option Within
within_by op r Opens cs s = opened r cs
within_by op r Inside cs s = one_more op s
within_by op r _ cs s = None

-- a process that ends is within none
abbrev pub within_after : Op → Reply → Tag → List Change → Option Within → Option Within
within_after End r tag cs s = None
within_after op r tag cs s = within_by op r tag cs s

-- ---- a step

unfoldable pub desk_after : Op → Reply → Tag → World → Desk → Desk
desk_after op r tag w d = record {
  lists = lists_after op r tag d.lists;
  within = within_after op r tag d.lists d.within;
  own = record { op = op; reply = r; view = apply_all d.lists w } ∷ d.own;
}

unfoldable pub desks_after : Desks → ℕ → Op → Reply → Tag → Desks
desks_after o p op r tag = record {
  world = world_after op r tag (desk_at o p).lists o.world;
  desks = insert o.desks p (desk_after op r tag o.world (desk_at o p));
}

abbrev pub first_desks : World → Desks
first_desks w = record { world = w; desks = empty }
