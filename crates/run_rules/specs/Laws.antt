-- What is kept by every entry that may come, and what then holds in runs whose processes ask only such entries.
use Rattle.std.specs.Prelude.{◌≡◌, ℕ, ◌≤◌, List, [], ◌∷◌, ◌++◌}
use Rattle.obj_kinds.specs.declared.op.Pid.{Pid}
use Rattle.obj_kinds.specs.declared.op.Op.{Op}
use Rattle.schema_kinds.specs.declared.class.Class.{Class}
use Rattle.schema_kinds.specs.Worlds.{World, Change}
use Rattle.global_tree.specs.Contents.{Globals}
use Rattle.store_core.specs.declared.entry.Entry.{Entry}
use Rattle.store_core.specs.Machine.{State}
use Rattle.store_calls.specs.Calls.{Tag, Told}
use Rattle.object_runs.specs.ObjectMachine.{Desks, Own}
use Rattle.object_runs.specs.Runs.{Meaning, Outcome, Runs, Both, start, ran, meaning_ran}
use Rattle.object_runs.specs.Headline.{Opening, ClearedIsImage, LevelsShowViews, FailuresChangeNothing}
use Rattle.run_rules.specs.Steps.{IsFit, next}
use Rattle.run_rules.specs.Structure.{IsStructured}
use Rattle.run_rules.specs.Good.{Truth, IsGood}

-- where nothing more is asked of a Commit, and nothing of what is told
abbrev pub NoFacts : State → Desks → Pid → Change → Type 0
NoFacts s o p change = Unit {0}

abbrev pub Anything : Truth
Anything os x = Unit {0}

abbrev pub KeepsStructure : Type 0
KeepsStructure =
    (classes : List Class) (b : Both) (p : Pid) (op : Op) (tag : Tag) → IsStructured classes b.store b.objects → IsFit classes NoFacts b p op tag
    → IsStructured classes (next b p op tag).store (next b p op tag).objects

-- three parts of the headline
pub record KeepsWorlds (classes : List Class) (meaning : Meaning) (b : Both) (history : List Entry) : Type 0 where
  pub whole : (es fs : List Entry) → es ++ fs ≡ history → ClearedIsImage classes (ran meaning b es)
  pub levels : (es fs : List Entry) → es ++ fs ≡ history → LevelsShowViews classes (ran meaning b es)
  pub failures : (es fs : List Entry) (e : Entry) → es ++ e ∷ fs ≡ history → FailuresChangeNothing (meaning_ran meaning es) (ran meaning b es) e

abbrev pub GoodRunsKeepWorlds : Type 0
GoodRunsKeepWorlds =
    (classes : List Class) (meaning : Meaning) (pids most : ℕ) (g : Globals) (w : World) (history : List Entry) (outcome : ℕ → Outcome)
    → Opening classes g w → Runs classes meaning pids most g history outcome
    → ((p : Pid) → 1 ≤ p.0 → p.0 ≤ pids → IsGood classes NoFacts Anything p (meaning p.0) (start pids g w))
    → KeepsWorlds classes meaning (start pids g w) history
