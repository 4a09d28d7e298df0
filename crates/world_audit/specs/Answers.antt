-- What an audit answers.
use Rattle.std.specs.Prelude.{◌≡◌, ⊤, List, Option, None, Some}
use Rattle.obj_kinds.specs.declared.node.Node.{Node}
use Rattle.schema_kinds.specs.declared.class.Class.{Class}
use Rattle.record_reading.specs.declared.error.FormError.{FormError}
use Rattle.record_reading.specs.declared.error.FormError.TheVariants.{Damaged, NoMemory}
use Rattle.world_audit.specs.Faults.{IsFaultless, IsLeastFault}
use Rattle.world_audit.specs.Laws.{AreNodes, AreStorable}
use Rattle.world_audit.specs.Objects.{Told}

-- the least fault, or none where there is none
abbrev pub IsJudged : List Class → Told → Option Node → Type 0
IsJudged classes nodes None = IsFaultless classes nodes
IsJudged classes nodes (Some n) = IsLeastFault classes nodes n

-- the nodes rise within their limits, and in a schema whose classes are storable this is their least fault
pub record Judges (classes : List Class) (nodes : Told) (fault : Option Node) : Type 0 where
  pub are : AreNodes nodes
  pub judged : AreStorable classes → IsJudged classes nodes fault

-- the node of a refusal is this one
abbrev pub TellsNode : Option Node → FormError → Type 0
TellsNode fault (Damaged n) = fault ≡ Some n
TellsNode fault NoMemory = ⊤

-- it is the least fault
abbrev pub TellsFault : List Class → Told → FormError → Type 0
TellsFault classes nodes (Damaged n) = IsLeastFault classes nodes n
TellsFault classes nodes NoMemory = ⊤

-- memory ran out
abbrev pub TellsMemory : FormError → Type 0
TellsMemory (Damaged n) = ⊥
TellsMemory NoMemory = ⊤
