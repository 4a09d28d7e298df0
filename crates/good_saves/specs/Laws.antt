-- Saves are good: whatever the other processes do meanwhile, each operation may come, and a save commits only a safe change.
use Rattle.std.specs.Prelude.{ℕ, Bool, List}
use Rattle.obj_kinds.specs.declared.name.ClassName.{ClassName}
use Rattle.obj_kinds.specs.declared.op.Pid.{Pid}
use Rattle.schema_kinds.specs.declared.class.Class.{Class}
use Rattle.schema_kinds.specs.declared.key.Key.{Key}
use Rattle.storage_map.specs.Worlds.{IsKeyOf}
use Rattle.store_calls.specs.Calls.{Tried, Got, Lost}
use Rattle.object_calls.specs.Saves.{Drawn, ToSave, Item, items_of, save}
use Rattle.object_runs.specs.Causes.{Each}
use Rattle.object_runs.specs.Runs.{Both}
use Rattle.run_rules.specs.Good.{Meets}
use Rattle.sound_runs.specs.Closing.{IsSafeChange}
use Rattle.sound_runs.specs.Backed.{Knows}
use Rattle.good_calls.specs.Laws.{ShowsLoads, IsAtRest, IsSoundSchema}
use Rattle.saving_rules.specs.Saving.{CanBeSaved}

-- what the process knows of these keys, each with its class
abbrev pub KnowsAll : List Class → Pid → List (Key × ClassName) → Both → Type 0
KnowsAll classes p known b = Each (λ (k : Key × ClassName). Knows classes b.store b.objects p.0 k.0 k.1) known

-- behind a save the process is at rest, and where this didn't fail it knows the saved objects with their classes
abbrev pub LeavesKnown : List Class → Pid → List ToSave → Tried Drawn → Both → Type 0
LeavesKnown classes p os (Got drawn) b = IsAtRest classes p b × Each (λ (i : Item). Knows classes b.store b.objects p.0 i.key i.now.class) (items_of drawn os)
LeavesKnown classes p os (Lost x) b = IsAtRest classes p b

abbrev pub SavesAreGood : Type 0
SavesAreGood =
    (classes : List Class) (tries most : ℕ) (p : Pid) (is_live : Key → Bool) (known : List (Key × ClassName)) (os : List ToSave) → IsSoundSchema classes → Each (λ (k : Key × ClassName). IsKeyOf classes k.0) known
    → CanBeSaved classes is_live known os → (b : Both) → IsAtRest classes p b → KnowsAll classes p known b
    → Meets classes (IsSafeChange classes) ShowsLoads p (save classes tries most is_live os) (LeavesKnown classes p os) b
