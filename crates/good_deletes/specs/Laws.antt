-- Deletes are good: whatever the other processes do meanwhile, each operation may come, and a delete commits only a safe change.
use Rattle.std.specs.Prelude.{◌≡◌, ℕ, true, nat_lt, List}
use Rattle.obj_kinds.specs.declared.name.ClassName.{ClassName}
use Rattle.obj_kinds.specs.declared.op.Pid.{Pid}
use Rattle.schema_kinds.specs.declared.class.Class.{Class}
use Rattle.schema_kinds.specs.declared.key.Key.{Key}
use Rattle.storage_map.specs.Worlds.{IsKeyOf}
use Rattle.object_calls.specs.Deletes.{delete}
use Rattle.good_calls.specs.Laws.{IsSoundSchema, RestsAgain}

abbrev pub DeletesAreGood : Type 0
DeletesAreGood =
    (classes : List Class) (tries most : ℕ) (p : Pid) (key : Key) (class : ClassName) (level : ℕ) → IsSoundSchema classes → IsKeyOf classes key → nat_lt 0 level ≡ true
    → RestsAgain classes p (delete classes tries most key class level)
