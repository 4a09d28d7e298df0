-- The law of saves in steady runs.
use Rattle.std.specs.Prelude.{ℕ, Bool, List}
use Rattle.obj_kinds.specs.declared.name.ClassName.{ClassName}
use Rattle.obj_kinds.specs.declared.op.Pid.{Pid}
use Rattle.schema_kinds.specs.declared.class.Class.{Class}
use Rattle.schema_kinds.specs.declared.key.Key.{Key}
use Rattle.storage_map.specs.Worlds.{IsKeyOf}
use Rattle.store_calls.specs.Calls.{Tried, Got, Lost}
use Rattle.object_calls.specs.Saves.{Drawn, ToSave, save}
use Rattle.object_runs.specs.Causes.{Each}
use Rattle.object_runs.specs.Runs.{Both}
use Rattle.steady_runs.proofs.Keeping.{orderly}
use Rattle.call_rules.specs.Settings.{Setting}
use Rattle.call_rules.proofs.Rules.{meets_post}
use Rattle.good_calls.specs.Laws.{ShowsLoads, IsSoundSchema}
use Rattle.good_calls.proofs.Rested.{steadily, to_idle, to_rest, shows_tells}
use Rattle.saving_rules.specs.Saving.{CanBeSaved}
use Rattle.saving_rules.proofs.Facts.{IsSteadySetting}
use Rattle.good_saves.specs.Laws.{LeavesKnown, SavesAreGood}
use Rattle.good_saves.proofs.Saves.{Leaves, meets_save}

module _ (classes : List Class) (tries most : ℕ) (p : Pid) (is_live : Key → Bool) (known : List (Key × ClassName)) (os : List ToSave) (schema : IsSoundSchema classes) (real : Each (λ (k : Key × ClassName). IsKeyOf classes k.0) known)
    (can : CanBeSaved classes is_live known os) where
  abbrev Here : Setting
  Here = steadily classes schema ShowsLoads p

  is_steady : IsSteadySetting (steadily classes schema ShowsLoads p)
  is_steady = record { steady = λ b w. w; orderly = λ b q op tag w fit. orderly classes b q op tag w fit }

  left : (a : Tried Drawn) (b : Both) → Leaves (steadily classes schema ShowsLoads p) schema.storable is_steady (shows_tells classes schema p) (λ b change h. h) tries most is_live known real os can a b → LeavesKnown classes p os a b
  left (Got drawn) b h = (to_rest classes schema p ShowsLoads b h.0, h.1)
  left (Lost x) b h = to_rest classes schema p ShowsLoads b h.0

pub saves_are_good : SavesAreGood
saves_are_good classes tries most p is_live known os schema real can b r knows =
    meets_post (steadily classes schema ShowsLoads p) (save classes tries most is_live os)
    (Leaves (steadily classes schema ShowsLoads p) schema.storable (is_steady classes tries most p is_live known os schema real can) (shows_tells classes schema p) (λ b change h. h) tries most is_live known real os can) (LeavesKnown classes p os) b
    (left classes tries most p is_live known os schema real can)
    (meets_save (steadily classes schema ShowsLoads p) schema.storable (is_steady classes tries most p is_live known os schema real can) (shows_tells classes schema p) (λ b change h. h) tries most is_live known real os can b (to_idle classes schema p ShowsLoads b r) knows)
