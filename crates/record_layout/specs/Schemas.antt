-- What the classes of a schema keep, so that each field of a record has one place of its own.
use Rattle.std.specs.Prelude.{◌≡◌, ℕ, List, [], ◌∷◌, ◌++◌, map, take, length}
use Rattle.obj_kinds.specs.declared.name.ClassName.{ClassName}
use Rattle.schema_kinds.specs.declared.class.Class.{Class}
use Rattle.schema_kinds.specs.declared.prop.Prop.{Prop}
use Rattle.schema_kinds.specs.Classes.{short_name}
use Rattle.record_layout.specs.Layout.{Layout, line_of, layout_of, layout_on, IsLaidOut, last_props, arrays_of}
use Rattle.record_layout.specs.Records.{HaveDifferentNames}

-- the properties of the class above come first in a class, each with its kind
abbrev pub Extends : Class → Class → Type 0
Extends above c = map (λ p. p.kind) (take (length above.props) c.props) ≡ map (λ p. p.kind) above.props

abbrev pub IsExtendedBy : Class → List Class → Type 0
IsExtendedBy above [] = Unit {0}
IsExtendedBy above (c ∷ cs) = Extends above c × IsExtendedBy c cs

-- each class of a line extends the one above it
abbrev pub IsLine : List Class → Type 0
IsLine [] = Unit {0}
IsLine (root ∷ below) = IsExtendedBy root below

abbrev pub IsNoneOf : List ℕ → List (List ℕ) → Type 0
IsNoneOf name [] = Unit {0}
IsNoneOf name (other ∷ names) = (name ≡ other → ⊥) × IsNoneOf name names

abbrev pub AreAllDifferent : List (List ℕ) → Type 0
AreAllDifferent [] = Unit {0}
AreAllDifferent (name ∷ names) = IsNoneOf name names × AreAllDifferent names

-- the names that may stand behind an id in the data global: the short names of the classes and the names of the arrays
abbrev pub names_behind : List Class → List (List ℕ)
names_behind [] = []
names_behind (root ∷ below) = map (λ c. short_name c.name) (root ∷ below) ++ map (λ a. a.0) (arrays_of (last_props root below))

-- each class of the schema extends the classes above it, and no two names behind an id are one
pub record IsStorable (classes : List Class) (name : ClassName) : Type 0 where
  pub line : IsLine (line_of classes name)
  pub names : AreAllDifferent (names_behind (line_of classes name))

-- the fields of such a class have their places, and no two nodes are one
abbrev pub StorableIsLaidOut : Type 0
StorableIsLaidOut = (classes : List Class) (name : ClassName) → IsStorable classes name → IsLaidOut (layout_of classes name) × HaveDifferentNames (layout_of classes name)
