-- What playing the acts of a script prints and leaves.
use Rattle.std.specs.Prelude.{◌≡◌, ℕ, List, [], ◌∷◌, ◌++◌, codes, Option, Some}
use Rattle.std.specs.Option.{IfSome}
use Rattle.std.specs.List.{flat_map}
use Rattle.obj_edges.specs.Told.{Rises, Adds}
use Rattle.first_path.specs.World.{world_of}
use Rattle.first_path.specs.declared.act.Act.{Act}
use Rattle.first_path.specs.declared.act.Act.TheVariants.{Make, Fill, Save}
use Rattle.first_path.specs.declared.playing.Ending.{Ending}
use Rattle.first_path.specs.declared.playing.Ending.TheVariants.{Done, DeviceFault}

-- a save prints that it succeeded
abbrev pub print_of : Act → List ℕ
print_of Make = []
print_of (Fill object place text) = []
print_of (Save object) = codes "1\n"

abbrev pub prints_of : List Act → List ℕ
prints_of acts = flat_map print_of acts

-- where the bytes so far are told, they have all of the first bytes and a front of the others at their end afterwards
abbrev pub AddsCut : Option (List ℕ) → Option (List ℕ) → List ℕ → List ℕ → Type 0
AddsCut old new whole cut = IfSome old (λ before. (front : List ℕ) × (rest : List ℕ) × (cut ≡ front ++ rest) × (new ≡ Some (before ++ whole ++ front)))

-- all acts were done and printed
pub record IsWhole (n : ℕ) (acts : List Act) (old new : Option (List ℕ)) (saved : List (List (List ℕ))) : Type 0 where
  pub printed : Adds old new (prints_of acts)
  pub world : saved ≡ world_of n acts

-- the put of a save failed: all acts up to and with it were done, and of its print there is a front
pub record IsCut (n : ℕ) (acts : List Act) (old new : Option (List ℕ)) (faults faults' : ℕ) (saved : List (List (List ℕ))) : Type 0 where
  pub front : List Act
  pub object : ℕ
  pub rest : List Act
  pub split : acts ≡ front ++ Save object ∷ rest
  pub printed : AddsCut old new (prints_of front) (codes "1\n")
  pub rises : Rises faults faults'
  pub world : saved ≡ world_of n (front ++ Save object ∷ [])

abbrev pub IsPlayed : ℕ → List Act → Option (List ℕ) → Option (List ℕ) → ℕ → ℕ → List (List (List ℕ)) → Ending → Type 0
IsPlayed n acts old new faults faults' saved Done = IsWhole n acts old new saved
IsPlayed n acts old new faults faults' saved DeviceFault = IsCut n acts old new faults faults' saved
