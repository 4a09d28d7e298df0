-- What a run has done.
use Rattle.std.specs.Prelude.{◌≡◌, ℕ, ◌≤◌, ◌⊎◌, List, [], ◌∷◌, ◌++◌, length, codes, Option, Some, slice_get}
use Rattle.std.specs.Option.{IfSome}
use Rattle.obj_edges.specs.Told.{Contents, Rises, Adds}
use Rattle.first_class.specs.declared.form.TextClass.{TextClass}
use Rattle.first_path.specs.Lines.{Line}
use Rattle.first_path.specs.World.{world_of}
use Rattle.first_path.specs.Play.{IsPlayed, AddsCut, prints_of, IsWhole, IsCut}
use Rattle.first_path.specs.declared.act.Act.{Act}
use Rattle.first_path.specs.declared.act.Act.TheVariants.{Save}
use Rattle.first_path.specs.declared.playing.Ending.{Ending}
use Rattle.first_path.specs.declared.playing.Ending.TheVariants.{Done, DeviceFault}
use Rattle.host_top.specs.Texts.{Input, AreRead, IsUnderstood}
use Rattle.host_top.specs.Report.{report_of}

-- the files of the words were read, and are this class and a script for it that does this
pub record HasInput (words : List (List ℕ)) (contents : List ℕ → Contents) (asked asked' : Option (List (List ℕ))) (class : TextClass) (acts : List Act) : Type 0 where
  pub input : Input
  pub read : AreRead words contents asked asked' input
  pub lines : List Line
  pub form : IsUnderstood input.class_text input.script_text class lines acts

-- all lines were done: the device has one `1` and line feed for each line that saves, and the report tells of the world after them
pub record IsDone (class : TextClass) (acts : List Act) (device device' sink sink' : Option (List ℕ)) : Type 0 where
  pub printed : Adds device device' (prints_of acts)
  pub reported : Adds sink sink' (report_of Done class.name.0 (world_of (length class.props) acts))

-- the put of a line that saves failed: the device has a front of its print behind the earlier ones, and the report tells of the world after it
pub record IsStopped (class : TextClass) (acts : List Act) (device device' : Option (List ℕ)) (faults faults' : ℕ) (sink sink' : Option (List ℕ)) : Type 0 where
  pub front : List Act
  pub object : ℕ
  pub rest : List Act
  pub split : acts ≡ front ++ Save object ∷ rest
  pub printed : AddsCut device device' (prints_of front) (codes "1\n")
  pub rises : Rises faults faults'
  pub reported : Adds sink sink' (report_of DeviceFault class.name.0 (world_of (length class.props) (front ++ Save object ∷ [])))

-- the process ran, and this is its report
pub record HasRun (class : TextClass) (acts : List Act) (device device' : Option (List ℕ)) (faults faults' : ℕ) (text : List ℕ) (ending : Ending) : Type 0 where
  pub world : List (List (List ℕ))
  pub played : IsPlayed (length class.props) acts device device' faults faults' world ending
  pub told : text ≡ report_of ending class.name.0 world
