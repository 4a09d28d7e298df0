-- Where what is stored of an object stands below its row.
use Rattle.std.specs.Prelude.{◌≡◌, ℕ, List, [], ◌∷◌, ◌++◌, map, filter, length, drop, slice_get, reverse, Option, None, Some}
use Rattle.std.specs.List.{filter_map}
use Rattle.obj_kinds.specs.declared.name.ClassName.{ClassName}
use Rattle.schema_kinds.specs.declared.class.Class.{Class}
use Rattle.schema_kinds.specs.declared.kind.Item.{Item}
use Rattle.schema_kinds.specs.declared.prop.Prop.{Prop}
use Rattle.schema_kinds.specs.Hierarchy.{chain, firsts_of, place_of}
use Rattle.schema_kinds.specs.Classes.{class_names, headers_of, short_name}
use Rattle.record_layout.specs.Shapes.{Form, keyed, is_row, form_of, forms_of, row_forms}

pub record Layout : Type 0 where
  pub forms : List Form  -- of the fields of the record
  pub root : List Form  -- of the items of the row, behind the marker
  pub lower : List (List ℕ × List Form)  -- of the items of each list below the row, with its subscript
  pub arrays : List (List ℕ × Item)  -- of the elements of each array, with its subscript

-- the places of a class, of its first superclass and so on, the root first
abbrev pub line_places : List Class → Option ℕ → List ℕ
line_places classes None = []
line_places classes (Some i) = reverse (chain (length classes) (firsts_of (headers_of classes)) i)

-- these classes
unfoldable pub line_of : List Class → ClassName → List Class
line_of classes name = filter_map (slice_get classes) (line_places classes (place_of (class_names classes) name))

-- the properties behind those of the class above, which come first
abbrev pub own_props : Class → Class → List Prop
own_props above c = drop (length above.props) c.props

-- a list of its own, where it has items
abbrev pub own_list : List ℕ → List Form → List (List ℕ × List Form)
own_list name [] = []
own_list name (form ∷ forms) = (name, form ∷ forms) ∷ []

-- the lists of the classes below the root: each has the items of the properties that the class above hasn't
abbrev pub lower_lists : Class → List Class → List (List ℕ × List Form)
lower_lists above [] = []
lower_lists above (c ∷ cs) = own_list (short_name c.name) (row_forms (own_props above c)) ++ lower_lists c cs

abbrev pub array_of : Prop → Option Form → Option (List ℕ × Item)
array_of p (Some (keyed i)) = Some (p.name, i)
array_of p _ = None

-- the array properties, in order
abbrev pub arrays_of : List Prop → List (List ℕ × Item)
arrays_of props = filter_map (λ p. array_of p (form_of p.kind)) props

abbrev pub last_props : Class → List Class → List Prop
last_props c [] = c.props
last_props c (d ∷ ds) = last_props d ds

abbrev pub layout_on : List Class → Layout
layout_on [] = record { forms = []; root = []; lower = []; arrays = [] }
layout_on (root ∷ below) =
    let props = last_props root below in
    record { forms = forms_of props; root = row_forms root.props; lower = lower_lists root below; arrays = arrays_of props }

-- of the objects of a class
unfoldable pub layout_of : List Class → ClassName → Layout
layout_of classes name = layout_on (line_of classes name)

-- the elements of an array
abbrev pub keyed_item : Form → Option Item
keyed_item (keyed i) = Some i
keyed_item _ = None

abbrev pub lower_forms : List (List ℕ × List Form) → List Form
lower_forms [] = []
lower_forms (l ∷ ls) = l.1 ++ lower_forms ls

-- each field has its one place
pub record IsLaidOut (layout : Layout) : Type 0 where
  pub own : layout.root ++ lower_forms layout.lower ≡ filter is_row layout.forms
  pub arrays : map (λ a. a.1) layout.arrays ≡ filter_map keyed_item layout.forms
