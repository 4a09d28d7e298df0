-- What holds between two acts.
use Rattle.std.specs.Prelude.{◌≡◌, ℕ, ◌≤◌, List, [], ◌∷◌, reverse, Option}
use Rattle.obj_edges.specs.Told.{Adds}
use Rattle.first_path.specs.World.{Past, IsKnown, AreKnown}
use Rattle.first_path.specs.Steps.{Stands}
use Rattle.first_path.specs.Play.{prints_of}
use Rattle.first_path.specs.declared.act.Act.{Act}
use Rattle.first_path.specs.declared.session.Session.{Session}

-- each act of the past was known
abbrev pub PastKnown : ℕ → Past → Type 0
PastKnown n [] = Unit {0}
PastKnown n (act ∷ before) = IsKnown n before act × PastKnown n before

-- these acts were done and printed, the others are known
pub record IsAmid (n : ℕ) (done rest : List Act) (s : Session) (old now : Option (List ℕ)) (faults faults' : ℕ) : Type 0 where
  pub stands : Stands n (reverse done) s
  pub known : PastKnown n (reverse done)
  pub others : AreKnown n (reverse done) rest
  pub printed : Adds old now (prints_of done)
  pub faults_rise : faults ≤ faults'
