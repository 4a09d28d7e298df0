-- One sides of whole records, and those that lack their target.
use Rattle.std.specs.Prelude.{◌≡◌, ◌⊎◌, ℕ, List, Option, None, Some}
use Rattle.std.specs.List.{filter_map}
use Rattle.std.specs.FinMap.{find}
use Rattle.obj_kinds.specs.declared.node.Node.{Node}
use Rattle.schema_kinds.specs.declared.class.Class.{Class}
use Rattle.schema_kinds.specs.declared.key.Key.{Key}
use Rattle.schema_kinds.specs.declared.prop.Prop.{Prop}
use Rattle.schema_kinds.specs.declared.record.Field.{Field}
use Rattle.schema_kinds.specs.declared.record.Record.{Record}
use Rattle.schema_kinds.specs.Classes.{IsBelow}
use Rattle.schema_kinds.specs.Worlds.{key_cmp}
use Rattle.schema_kinds.specs.declared.record.Field.TheViews.{out-Field}
use Rattle.storage_map.specs.Keys.{Side, target_in, side_in, sides_of, target_key}
use Rattle.storage_map.specs.SoundWorlds.{HasSide}
use Rattle.world_audit.specs.declared.found.Found.{Found}
use Rattle.world_audit.specs.declared.found.Found.TheVariants.{Whole}
use Rattle.world_audit.specs.declared.sides.OneSide.{OneSide}
use Rattle.world_audit.specs.Faults.{entry_of_side}
use Rattle.world_audit.specs.Finds.{Finds}
use Rattle.world_audit.specs.Least.{IsElement, IsUpTo}

abbrev pub side_seen : OneSide → Side
side_seen s = record { name = s.name.now; class = s.class.now; target = target_in (out-Field s.field.now) }

-- those among properties with their fields
abbrev pub sides_with : List (Prop × Field) → List Side
sides_with valued = filter_map (λ e. side_in e e.0.kind) valued

-- a whole record of a class at or below this one
abbrev pub IsFoundAt : List Class → Finds → Key → Side → Type 0
IsFoundAt classes finds key s = (r : Record) × (find key_cmp key finds ≡ Some (Whole r)) × IsBelow classes r.class s.class

-- the target is such a record; an empty side needs none
abbrev pub IsMetIn : List Class → Finds → Side → Option (List ℕ) → Type 0
IsMetIn classes finds s None = Unit {0}
IsMetIn classes finds s (Some id) = IsFoundAt classes finds (target_key classes s.class id) s

-- the entry of a one side that lacks its target
pub record IsUnmet (classes : List Class) (finds : Finds) (key : Key) (s : Side) (n : Node) : Type 0 where
  pub id : List ℕ
  pub names : s.target ≡ Some id
  pub unmet : IsMetIn classes finds s (Some id) → ⊥
  pub entry : n ≡ entry_of_side key s.name id

-- each of these sides is met, or it lacks its target and its entry is noted; and no other node is noted
pub record Notes (classes : List Class) (finds : Finds) (These : Key → Side → Type 0) (old new : Option Node) : Type 0 where
  pub keeps : (n : Node) → IsUpTo old n → IsUpTo new n
  pub from : (n : Node) → new ≡ Some n → (old ≡ Some n) ⊎ ((key : Key) × (s : Side) × These key s × IsUnmet classes finds key s n)
  pub met : (key : Key) (s : Side) → These key s → IsMetIn classes finds s s.target ⊎ ((n : Node) × IsUnmet classes finds key s n × IsUpTo new n)

-- a side of a key
abbrev pub IsOneOf : Key → List Side → Key → Side → Type 0
IsOneOf key ss k s = (k ≡ key) × HasSide s ss

-- a side of a whole record
pub record IsSideIn (classes : List Class) (e : Key × Found) (k : Key) (s : Side) : Type 0 where
  pub own : Record
  pub whole : e.1 ≡ Whole own
  pub key : k ≡ e.0
  pub has : HasSide s (sides_of classes own)

-- of one of these
abbrev pub IsSideOfAny : List Class → Finds → Key → Side → Type 0
IsSideOfAny classes es k s = (e : Key × Found) × IsElement e es × IsSideIn classes e k s
