-- What holds of kept runs, and of processes over good objects.
use Rattle.std.specs.Prelude.{◌≡◌, ℕ, ◌≤◌, false, List, [], ◌∷◌, ◌++◌}
use Rattle.obj_kinds.specs.declared.op.Pid.{Pid}
use Rattle.schema_kinds.specs.declared.class.Class.{Class}
use Rattle.schema_kinds.specs.Worlds.{World}
use Rattle.global_tree.specs.Contents.{Globals}
use Rattle.store_core.specs.declared.entry.Entry.{Entry}
use Rattle.store_calls.specs.Calls.{told}
use Rattle.os_meaning.specs.Syntax.{Block}
use Rattle.host_meaning.specs.Methods.{Program}
use Rattle.host_meaning.specs.Objects.{Objects}
use Rattle.host_meaning.specs.Process.{process}
use Rattle.object_runs.specs.ObjectMachine.{desk_at}
use Rattle.object_runs.specs.Causes.{Each}
use Rattle.object_runs.specs.Runs.{Meaning, Outcome, Runs, Both, start, moved, meaning_after, ran}
use Rattle.object_runs.specs.Headline.{Opening, AreKept, told_behind}
use Rattle.run_rules.specs.Good.{Truth}
use Rattle.run_rules.specs.Laws.{KeepsWorlds}
use Rattle.sound_runs.specs.Closing.{IsSafeChange}
use Rattle.sound_runs.specs.Pairs.{ArePaired}
use Rattle.steady_runs.specs.Steady.{IsSteady}
use Rattle.good_calls.specs.Laws.{ShowsLoads, IsSoundSchema, IsAtRest}
use Rattle.kept_runs.specs.Kept.{IsKeptGood}
use Rattle.kept_runs.specs.GoodObjects.{AreGoodObjects}

-- what each process tells behind each entry is true
abbrev pub TellsBy : Truth → Meaning → Both → List Entry → Type 0
TellsBy truth meaning b [] = Unit {0}
TellsBy truth meaning b (e ∷ es) =
    let next = moved meaning b e in
    let rest = meaning_after meaning e in
    Each (truth (desk_at next.objects e.pid.0).own) (told_behind rest e) × TellsBy truth rest next es

-- what a kept run has: the worlds, the invariant, and loads that show the view
pub record IsKeptRun (classes : List Class) (meaning : Meaning) (b : Both) (history : List Entry) : Type 0 where
  pub worlds : KeepsWorlds classes meaning b history
  pub steady : (es fs : List Entry) → es ++ fs ≡ history → IsSteady classes (ran meaning b es)
  pub loads : TellsBy ShowsLoads meaning b history

abbrev pub KeptRunsAreSteady : Type 0
KeptRunsAreSteady =
    (classes : List Class) (meaning : Meaning) (pids most : ℕ) (g : Globals) (w : World) (history : List Entry) (outcome : ℕ → Outcome)
    → ArePaired classes → Opening classes g w → AreKept pids outcome → Runs classes meaning pids most g history outcome
    → ((p : Pid) → 1 ≤ p.0 → p.0 ≤ pids → IsKeptGood classes (IsSafeChange classes) ShowsLoads p (meaning p.0) (start pids g w))
    → IsKeptRun classes meaning (start pids g w) history

abbrev pub ProcessesAreGood : Type 1
ProcessesAreGood =
    (M : Type 0) (classes : List Class) (p : Pid) (IsMemory : M → Both → Type 0) (objects : Objects M) (program : Program) (fuel : ℕ) (script : Block) (b : Both)
    → IsSoundSchema classes → AreGoodObjects classes p IsMemory objects → IsAtRest classes p b
    → IsKeptGood classes (IsSafeChange classes) ShowsLoads p (process objects program fuel script) b
