-- What every entry that may come keeps of the two machines, all parts together; a save or delete may commit only a safe change.
use Rattle.std.specs.Prelude.{◌≡◌, ℕ, ◌≤◌, List, [], ◌∷◌, ◌++◌, Some}
use Rattle.obj_kinds.specs.declared.op.Pid.{Pid}
use Rattle.obj_kinds.specs.declared.op.Op.{Op}
use Rattle.schema_kinds.specs.declared.class.Class.{Class}
use Rattle.schema_kinds.specs.Worlds.{World}
use Rattle.global_tree.specs.Contents.{Globals}
use Rattle.store_core.specs.declared.entry.Entry.{Entry}
use Rattle.store_calls.specs.Calls.{Tag}
use Rattle.object_runs.specs.ObjectMachine.{Within, desk_at}
use Rattle.object_runs.specs.Runs.{Meaning, Outcome, Runs, Both, start, ran}
use Rattle.object_runs.specs.Headline.{Opening}
use Rattle.object_runs.specs.Invariant.{IsInvariant}
use Rattle.run_rules.specs.Steps.{IsFit, next}
use Rattle.run_rules.specs.Good.{IsGood}
use Rattle.run_rules.specs.Laws.{Anything, KeepsWorlds}
use Rattle.sound_runs.specs.Closing.{IsSafeChange}
use Rattle.sound_runs.specs.Backed.{IsBacked}
use Rattle.sound_runs.specs.Pairs.{ArePaired}

pub record IsSteady (classes : List Class) (b : Both) : Type 0 where
  pub invariant : IsInvariant classes b.store b.objects
  -- within a save or delete the lists are those before its Begin, under an empty one
  pub before : (p : Pid) (w : Within) → (desk_at b.objects p.0).within ≡ Some w → (desk_at b.objects p.0).lists ≡ [] ∷ w.before
  pub backed : IsBacked classes b.store b.objects

abbrev pub EntriesKeepSteady : Type 0
EntriesKeepSteady =
    (classes : List Class) (b : Both) (p : Pid) (op : Op) (tag : Tag) → ArePaired classes → IsSteady classes b → IsFit classes (IsSafeChange classes) b p op tag → IsSteady classes (next b p op tag)

abbrev pub StartsAreSteady : Type 0
StartsAreSteady = (classes : List Class) (pids : ℕ) (g : Globals) (w : World) → Opening classes g w → IsSteady classes (start pids g w)

-- runs whose processes ask only what may come, and commit only safe changes
abbrev pub SafeRunsAreSteady : Type 0
SafeRunsAreSteady =
    (classes : List Class) (meaning : Meaning) (pids most : ℕ) (g : Globals) (w : World) (history : List Entry) (outcome : ℕ → Outcome)
    → ArePaired classes → Opening classes g w → Runs classes meaning pids most g history outcome
    → ((p : Pid) → 1 ≤ p.0 → p.0 ≤ pids → IsGood classes (IsSafeChange classes) Anything p (meaning p.0) (start pids g w))
    → KeepsWorlds classes meaning (start pids g w) history × ((es fs : List Entry) → es ++ fs ≡ history → IsSteady classes (ran meaning (start pids g w) es))
