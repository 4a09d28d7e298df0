-- The law of kept runs.
use Rattle.std.proofs.Common.{◌≡◌, ℕ, ◌≤◌, List, [], ◌∷◌, ◌++◌, refl, sym, subst}
use Rattle.obj_kinds.specs.declared.op.Pid.{Pid}
use Rattle.obj_kinds.specs.declared.op.Op.{Op}
use Rattle.schema_kinds.specs.declared.class.Class.{Class}
use Rattle.store_core.specs.declared.entry.Entry.{Entry}
use Rattle.store_calls.specs.Calls.{Tag}
use Rattle.object_runs.specs.Runs.{Meaning, Both, start, moved, meaning_after, ran, IsProcessOf}
use Rattle.run_rules.specs.Steps.{IsFit, next}
use Rattle.run_rules.specs.Structure.{IsStructured}
use Rattle.run_rules.proofs.Weave.{Goodness, IsRunning, told_at, running_after, running_at, start_running, keeps_worlds}
use Rattle.sound_runs.specs.Closing.{IsSafeChange}
use Rattle.steady_runs.specs.Steady.{IsSteady}
use Rattle.steady_runs.proofs.Keeping.{has_structure, entries_keep_steady, starts_are_steady}
use Rattle.good_calls.specs.Laws.{ShowsLoads}
use Rattle.kept_runs.specs.Kept.{IsKeptNext, IsKeptGood}
use Rattle.kept_runs.specs.Laws.{TellsBy, KeptRunsAreSteady}
use Rattle.kept_runs.proofs.Calls.{kept_goodness}
use Rattle.kept_runs.proofs.Marks.{entries_kept}

module _ (classes : List Class) (G : Goodness classes (IsSafeChange classes) ShowsLoads) (Inv : Both → Type 0)
    (keeps : (b : Both) (p : Pid) (op : Op) (tag : Tag) → Inv b → IsFit classes (IsSafeChange classes) b p op tag → Inv (next b p op tag)) (has : (b : Both) → Inv b → IsStructured classes b.store b.objects) where
  tells_by : (meaning : Meaning) (b : Both) (es : List Entry) → IsRunning classes (IsSafeChange classes) ShowsLoads G Inv keeps has meaning b es → TellsBy ShowsLoads meaning b es
  tells_by meaning b [] r = tt
  tells_by meaning b (e ∷ es) r = (
    told_at classes (IsSafeChange classes) ShowsLoads G Inv keeps has meaning b e es r,
    tells_by (meaning_after meaning e) (moved meaning b e) es (running_after classes (IsSafeChange classes) ShowsLoads G Inv keeps has meaning b e es r),
  )

pub kept_runs_are_steady : KeptRunsAreSteady
kept_runs_are_steady classes meaning pids most g w history outcome paired opens kept runs good =
    let G = kept_goodness classes (IsSafeChange classes) ShowsLoads in
    let Inv : Both → Type 0 = IsSteady classes in
    let keeps : (b : Both) (p : Pid) (op : Op) (tag : Tag) → Inv b → IsFit classes (IsSafeChange classes) b p op tag → Inv (next b p op tag) = λ b p op tag i fit. entries_keep_steady classes b p op tag paired i fit in
    let has : (b : Both) → Inv b → IsStructured classes b.store b.objects = has_structure classes in
    let r = start_running classes (IsSafeChange classes) ShowsLoads G Inv keeps has meaning pids most g w history outcome (starts_are_steady classes pids g w opens) runs good
    (λ p from to. let is = runs.processes p from to in entries_kept classes p (outcome p.0).ending (meaning p.0) is.own (outcome p.0).marks is.notes (kept p.0 from to) is.asked) in
    record {
      worlds = keeps_worlds classes (IsSafeChange classes) ShowsLoads G Inv keeps has meaning (start pids g w) history r;
      steady = λ es fs is. (running_at classes (IsSafeChange classes) ShowsLoads G Inv keeps has meaning (start pids g w) es fs
          (subst (IsRunning classes (IsSafeChange classes) ShowsLoads G Inv keeps has meaning (start pids g w)) (sym is) r)).whole;
      loads = tells_by classes G Inv keeps has meaning (start pids g w) history r;
    }
