-- What the calls of objects look up in the classes of a schema.
use Rattle.std.specs.Prelude.{ℕ, zero, suc, Bool, false, not, cond, ◌&&◌, ◌||◌, ◌==◌, List, [], ◌∷◌, ◌++◌, length, codes, Option, None, Some}
use Rattle.std.specs.Option.{option_and_then}
use Rattle.std.specs.List.{list_any}
use Rattle.obj_kinds.specs.declared.name.ClassName.{ClassName}
use Rattle.obj_kinds.specs.declared.node.Node.{Node}
use Rattle.obj_kinds.specs.declared.sub.Sub.{Sub}
use Rattle.obj_kinds.specs.declared.cause.Cause.{Cause}
use Rattle.obj_kinds.specs.declared.cause.Cause.TheVariants.{OtherClass}
use Rattle.schema_kinds.specs.declared.class.Class.{Class}
use Rattle.schema_kinds.specs.Links.{row}
use Rattle.schema_kinds.specs.Hierarchy.{place_of, links_of}
use Rattle.schema_kinds.specs.Classes.{class_names, headers_of}
use Rattle.record_layout.specs.Shapes.{Form, row_forms}
use Rattle.record_layout.specs.Layout.{line_of, own_props, arrays_of}
use Rattle.record_layout.specs.Items.{if_long}
use Rattle.record_layout.specs.Shapes.{id_length}
use Rattle.storage_map.specs.Worlds.{id_of_sub}
pub use Rattle.storage_map.specs.Keys.{extent_at}

-- ---- at or below

-- from place a the links lead to place b in at most n steps
abbrev pub leads : ℕ → List (List ℕ) → ℕ → ℕ → Bool
leads zero links b a = a == b
leads (suc n) links b a = a == b || list_any (leads n links b) (row links a)

abbrev pub leads_to : List Class → Option ℕ → Option ℕ → Bool
leads_to classes (Some i) (Some j) = leads (length classes) (links_of (headers_of classes)) j i
leads_to classes _ _ = false

-- whether the first class is the second or one below it; no way up is longer than there are classes
unfoldable pub is_at_or_below : List Class → ClassName → ClassName → Bool
is_at_or_below classes a b = leads_to classes (place_of (class_names classes) a) (place_of (class_names classes) b)

-- where a class is asked for, one that is not at or below it is refused
abbrev pub refuses_other : List Class → ClassName → ClassName → Option Cause
refuses_other classes wanted class = cond (is_at_or_below classes class wanted) None (Some (OtherClass class))

abbrev pub refuses_none : ClassName → Option Cause
refuses_none class = None

-- ---- extents

-- the node that counts the ids of an extent
abbrev pub counter_node : ClassName → Node
counter_node extent = record { global = extent.0 ++ codes "D"; subs = [] }

-- the id of an extent that a subscript is
abbrev pub id_below : List Class → ClassName → Sub → Option (List ℕ)
id_below classes extent s = option_and_then (if_long (id_length classes extent)) (id_of_sub s)

-- ---- several nodes

abbrev pub is_filled : {A : Type 0} → List A → Bool
is_filled [] = false
is_filled (x ∷ xs) = not false

-- the items that the last class of a line has beside those of the class above it
abbrev pub last_own : List Class → List Form
last_own [] = []
last_own (root ∷ []) = []
last_own (above ∷ c ∷ []) = row_forms (own_props above c)
last_own (above ∷ c ∷ d ∷ more) = last_own (c ∷ d ∷ more)

-- an array property, or row properties of its own below its root
abbrev pub adds_nodes : List Class → Class → Bool
adds_nodes classes c = is_filled (arrays_of c.props) || is_filled (last_own (line_of classes c.name))

-- the class, or one below it, has an array property, or is below its root and has row properties of its own
unfoldable pub has_several : List Class → ClassName → Bool
has_several classes class = list_any (λ c. is_at_or_below classes c.name class && adds_nodes classes c) classes
