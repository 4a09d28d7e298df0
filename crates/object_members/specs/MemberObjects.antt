-- The objects of a process: its memory, and what its calls of objects ask and answer.
use Rattle.std.specs.Prelude.{ℕ, ◌==◌, nat_lt, cond, List, [], ◌∷◌, Option, None, Some}
use Rattle.std.specs.List.{filter_map}
use Rattle.obj_kinds.specs.declared.op.Op.{Op}
use Rattle.obj_kinds.specs.declared.op.Mode.{Mode}
use Rattle.obj_kinds.specs.declared.op.Mode.TheVariants.{Shared, Exclusive}
use Rattle.schema_kinds.specs.declared.class.Class.{Class}
use Rattle.schema_kinds.specs.declared.key.Key.{Key}
use Rattle.record_layout.specs.Rows.{data_node}
use Rattle.oref_table.specs.declared.obj.Freed.{Freed}
use Rattle.oref_table.specs.Memory.{Memory, edited, tighten, loosed}
use Rattle.oref_table.specs.Dropping.{dropped}
use Rattle.object_calls.specs.Asking.{unlock}
use Rattle.object_calls.specs.Memories.{key_by}
use Rattle.host_meaning.specs.Objects.{Objects}
use Rattle.object_members.specs.Seeing.{class_at}
use Rattle.object_members.specs.Reads.{read_prop}
use Rattle.object_members.specs.Writes.{write_prop}
use Rattle.object_members.specs.Members.{on_class, on_object, on_items}

-- ---- locks that released objects have kept

-- an object of level 3 keeps a shared lock on its row, one of level 4 an exclusive one
abbrev pub kept_mode : ℕ → Option Mode
kept_mode level = cond (level == 3) (Some Shared) (cond (level == 4) (Some Exclusive) None)

abbrev pub unlock_by : Option Mode → Option Key → Option Op
unlock_by (Some mode) (Some key) = Some (unlock mode (data_node key))
unlock_by _ _ = None

abbrev pub unlock_of : Freed → Option Op
unlock_of f = unlock_by (kept_mode f.level) (key_by f.extent f.id)

abbrev pub put_freed : Freed → List Freed → List Freed
put_freed f [] = f ∷ []
put_freed f (g ∷ gs) = cond (nat_lt f.number g.number) (f ∷ g ∷ gs) (g ∷ put_freed f gs)

-- in rising number
abbrev pub by_number : List Freed → List Freed
by_number [] = []
by_number (f ∷ fs) = put_freed f (by_number fs)

abbrev pub waiting : Memory → List Op
waiting m = filter_map unlock_of (by_number m.freed)

-- ---- the whole

abbrev pub nothing_in_memory : Memory
nothing_in_memory = record { objects = []; last = 0; freed = [] }

-- calls try a lock at most so many times, and walk over at most so many elements
abbrev pub objects_of : List Class → ℕ → ℕ → Objects Memory
objects_of classes tries most = record {
  empty = nothing_in_memory;
  more = λ n m. edited m n tighten;
  less = λ n m. dropped (loosed m (n ∷ []));
  waiting = waiting;
  given = λ m. record m { freed = [] };
  class = class_at;
  on_class = on_class classes tries most;
  on_object = on_object classes tries most;
  on_items = on_items classes tries most;
  read = read_prop classes tries most;
  write = write_prop classes;
}
