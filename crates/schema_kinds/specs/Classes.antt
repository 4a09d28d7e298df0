-- What the classes of a schema say: which is below which, extents, and the names of globals.
use Rattle.std.specs.Prelude.{◌≡◌, ℕ, Bool, true, false, cond, not, ◌&&◌, ◌||◌, List, [], ◌∷◌, ◌++◌, map, filter, length, slice_get, nat_eq, Option, Some, None, option_map, option_and_then, is_none}
use Rattle.std.specs.List.{list_any}
use Rattle.obj_kinds.specs.declared.name.ClassName.{ClassName}
use Rattle.schema_kinds.specs.declared.class.Class.{Class}
use Rattle.schema_kinds.specs.declared.class.Sort.{Sort}
use Rattle.schema_kinds.specs.declared.class.Sort.TheVariants.{Persistent, Serial, Registered, Plain}
use Rattle.schema_kinds.specs.declared.prop.Prop.{Prop}
use Rattle.schema_kinds.specs.declared.hierarchy.Header.{Header}
use Rattle.schema_kinds.specs.Links.{IsAtOrBelow}
use Rattle.schema_kinds.specs.Hierarchy.{same_text, place_of, first_place, names_of, links_of, firsts_of, top}

abbrev pub is_persistent : Sort → Bool
is_persistent Persistent = true
is_persistent Serial = false
is_persistent Registered = false
is_persistent Plain = false

abbrev pub header_of : Class → Header
header_of c = record { name = c.name; supers = c.supers }

abbrev pub headers_of : List Class → List Header
headers_of classes = map header_of classes

-- the names of the classes, in order
abbrev pub class_names : List Class → List (List ℕ)
class_names classes = names_of (headers_of classes)

-- the class of a name
abbrev pub class_of : List Class → ClassName → Option Class
class_of classes name = option_and_then (λ i. slice_get classes i) (place_of (class_names classes) name)

-- the first class is the second or one below it
abbrev pub IsBelow : List Class → ClassName → ClassName → Type 0
IsBelow classes a b =
    (i : ℕ) × (j : ℕ) × (place_of (class_names classes) a ≡ Some i) × (place_of (class_names classes) b ≡ Some j)
    × IsAtOrBelow (links_of (headers_of classes)) i j

-- the root class of an extent: the last one on the chain of first superclasses
abbrev pub root_at : List Class → ℕ → Option ClassName
root_at classes i = option_map (λ c. c.name) (slice_get classes (top (length classes) (firsts_of (headers_of classes)) i))

abbrev pub root_if : List Class → ℕ → Class → Option ClassName
root_if classes i c = cond (is_persistent c.sort) (root_at classes i) None

-- the extent of a persistent class, named by its root class
abbrev pub extent_of : List Class → ClassName → Option ClassName
extent_of classes name = option_and_then (λ i. option_and_then (root_if classes i) (slice_get classes i)) (place_of (class_names classes) name)

-- a text with one more letter
abbrev pub is_with : List ℕ → List ℕ → ℕ → Bool
is_with global name letter = same_text global (name ++ letter ∷ [])

-- the class is the root of an extent
abbrev pub is_root : List (List ℕ) → Class → Bool
is_root names c = is_persistent c.sort && is_none (first_place names c.supers)

-- the global is the data global (`D`) or the index global (`I`) of the extent of which the class is the root
abbrev pub is_global_of : List (List ℕ) → List ℕ → Class → Bool
is_global_of names global c = (is_with global c.name.0 68 || is_with global c.name.0 73) && is_root names c

abbrev pub is_own_global : List Class → List ℕ → Bool
is_own_global classes global = list_any (is_global_of (class_names classes) global) classes

-- what follows the last dot of a name
abbrev pub short_from : List ℕ → List ℕ → List ℕ
short_from [] best = best
short_from (b ∷ rest) best = short_from rest (cond (nat_eq b 46) rest best)

abbrev pub short_name : ClassName → List ℕ
short_name name = short_from name.0 name.0

-- a property of that name is among them
abbrev pub has_prop : List ℕ → List Prop → Bool
has_prop name props = list_any (λ p. same_text name p.name) props

-- the properties of a class that its first superclass lacks
abbrev pub props_of : Option Class → List Prop
props_of None = []
props_of (Some c) = c.props

abbrev pub own_props : Option Class → Class → List Prop
own_props first c = filter (λ p. not (has_prop p.name (props_of first))) c.props
