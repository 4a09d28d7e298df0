-- Counters that are at fault.
use Rattle.std.specs.Prelude.{ℕ, cond, nat_lt, List, [], ◌∷◌, Option, None, Some}
use Rattle.std.specs.FinMap.{find}
use Rattle.obj_kinds.specs.declared.node.Node.{Node}
use Rattle.obj_kinds.specs.Order.{node_cmp}
use Rattle.schema_kinds.specs.declared.class.Class.{Class}
use Rattle.schema_kinds.specs.declared.key.Key.{Key}
use Rattle.schema_kinds.specs.Classes.{is_own_global}
use Rattle.world_audit.specs.declared.found.Found.{Found}
use Rattle.world_audit.specs.Counters.{counter_number}
use Rattle.world_audit.specs.Finds.{of_whole}
use Rattle.world_audit.specs.Objects.{Told}
use Rattle.world_audit.specs.Openings.{counter_node, first_number}

abbrev pub if_low : Option ℕ → ℕ → Node → List Node
if_low None id n = []
if_low (Some number) id n = cond (nat_lt number id) (n ∷ []) []

-- the counter of the key's extent, where it is below the id
abbrev pub low : Told → Key → List Node
low nodes key = if_low (counter_number (find node_cmp (counter_node key.extent) nodes)) (first_number key.id) (counter_node key.extent)

abbrev pub low_of : Told → Key × Found → List Node
low_of nodes e = of_whole e.1 (λ r. low nodes e.0)

abbrev pub if_none : Option ℕ → Node → List Node
if_none None n = n ∷ []
if_none (Some number) n = []

-- the counter of an extent of which the class is the root, where it isn't in a counter's form
abbrev pub count_of : List Class → Told → Class → List Node
count_of classes nodes c = cond (is_own_global classes (counter_node c.name).global) (if_none (counter_number (find node_cmp (counter_node c.name) nodes)) (counter_node c.name)) []
