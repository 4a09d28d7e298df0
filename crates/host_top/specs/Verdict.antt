-- How a run ended, and what is known then.
use Rattle.std.specs.Prelude.{◌≡◌, ℕ, ◌<◌, ◌≤◌, ◌⊎◌, List, [], ◌∷◌, length, Option, Some, slice_get, codes, ◌++◌}
use Rattle.obj_edges.specs.Told.{Contents, Rises, Adds}
use Rattle.first_class.specs.declared.form.TextClass.{TextClass}
use Rattle.first_path.specs.declared.act.Act.{Act}
use Rattle.host_top.specs.Refusals.{IsRefused, message_of, status_of}
use Rattle.host_top.specs.Run.{HasInput, IsDone, IsStopped}
use Rattle.host_top.specs.declared.refusal.Refusal.{Refusal}
use Rattle.host_top.specs.declared.verdict.Verdict.{Verdict}
use Rattle.host_top.specs.declared.verdict.Verdict.TheVariants.{Done, Stopped, Refused, NoMemory, NotPut}

-- what the outside told before a run and tells after it
pub record Seen : Type 0 where
  pub words : List (List ℕ)
  pub contents : List ℕ → Contents
  pub asked : Option (List (List ℕ))
  pub asked' : Option (List (List ℕ))
  pub file_faults : ℕ
  pub file_faults' : ℕ
  pub told : Option (List ℕ)
  pub told' : Option (List ℕ)
  pub sink_faults : ℕ
  pub sink_faults' : ℕ

module _ (D : Type 0) (bytes : D → Option (List ℕ)) (faults : D → ℕ) where
  -- the device of the one process is handed back, and these are what it was and is
  pub record IsHandedBack (devices devices' : List D) (old new : D) : Type 0 where
    pub was : slice_get devices 0 ≡ Some old
    pub is : devices' ≡ new ∷ []

  -- the device is handed back after a whole run
  pub record EndedWell (class : TextClass) (acts : List Act) (devices devices' : List D) (told told' : Option (List ℕ)) : Type 0 where
    pub old : D
    pub new : D
    pub handed : IsHandedBack devices devices' old new
    pub done : IsDone class acts (bytes old) (bytes new) told told'

  -- the device is handed back after a put of it failed
  pub record EndedByFault (class : TextClass) (acts : List Act) (devices devices' : List D) (told told' : Option (List ℕ)) : Type 0 where
    pub old : D
    pub new : D
    pub handed : IsHandedBack devices devices' old new
    pub stopped : IsStopped class acts (bytes old) (bytes new) (faults old) (faults new) told told'

  -- how the run of a job ended
  abbrev pub Runs : TextClass → List Act → List D → List D → Option (List ℕ) → Option (List ℕ) → ℕ → ℕ → Verdict → Type 0
  Runs class acts devices devices' told told' sink_faults sink_faults' Done = EndedWell class acts devices devices' told told'
  Runs class acts devices devices' told told' sink_faults sink_faults' Stopped = EndedByFault class acts devices devices' told told'
  Runs class acts devices devices' told told' sink_faults sink_faults' (Refused r) = ⊥
  Runs class acts devices devices' told told' sink_faults sink_faults' NoMemory = devices' ≡ []
  Runs class acts devices devices' told told' sink_faults sink_faults' NotPut = Rises sink_faults sink_faults'

  abbrev pub Holds : Seen → List D → List D → Verdict → Type 0
  Holds s devices devices' Done = (class : TextClass) × (acts : List Act) × HasInput s.words s.contents s.asked s.asked' class acts × EndedWell class acts devices devices' s.told s.told'
  Holds s devices devices' Stopped = (class : TextClass) × (acts : List Act) × HasInput s.words s.contents s.asked s.asked' class acts × EndedByFault class acts devices devices' s.told s.told'
  Holds s devices devices' (Refused r) = IsRefused s.words s.contents s.asked s.asked' s.file_faults s.file_faults' r × Adds s.told s.told' (message_of r) × (devices' ≡ [])
  Holds s devices devices' NoMemory = devices' ≡ []
  Holds s devices devices' NotPut = Rises s.sink_faults s.sink_faults'

-- how the message of a refusal was put
abbrev pub TellsOf : Refusal → Option (List ℕ) → Option (List ℕ) → ℕ → ℕ → Verdict → Type 0
TellsOf refusal told told' faults faults' Done = ⊥
TellsOf refusal told told' faults faults' Stopped = ⊥
TellsOf refusal told told' faults faults' (Refused r) = (r ≡ refusal) × Adds told told' (message_of r)
TellsOf refusal told told' faults faults' NoMemory = Unit {0}
TellsOf refusal told told' faults faults' NotPut = Rises faults faults'

abbrev pub verdict_status : Verdict → ℕ
verdict_status Done = 0
verdict_status Stopped = 1
verdict_status (Refused r) = status_of r
verdict_status NoMemory = 3
verdict_status NotPut = 5
