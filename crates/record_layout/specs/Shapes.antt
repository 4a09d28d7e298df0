-- The shape of a record of its class.
use Rattle.std.specs.Prelude.{◌≡◌, ℕ, zero, suc, Bool, true, false, List, [], ◌∷◌, map, filter, length, Option, None, Some}
use Rattle.std.specs.List.{filter_map}
use Rattle.std.specs.declared.cmp.Ordering.TheVariants.{Less}
use Rattle.obj_kinds.specs.declared.name.ClassName.{ClassName}
use Rattle.obj_kinds.specs.declared.sub.Sub.{Sub}
use Rattle.obj_kinds.specs.Ids.{IsId}
use Rattle.obj_kinds.specs.Order.{sub_cmp}
use Rattle.schema_kinds.specs.declared.kind.Kind.{Kind}
use Rattle.schema_kinds.specs.declared.kind.Kind.TheVariants as kind
use Rattle.schema_kinds.specs.declared.kind.Item.{Item}
use Rattle.schema_kinds.specs.declared.kind.Item.TheVariants as of
use Rattle.schema_kinds.specs.declared.prop.Prop.{Prop}
use Rattle.schema_kinds.specs.declared.class.Class.{Class}
use Rattle.schema_kinds.specs.declared.record.Field.{Field}
use Rattle.schema_kinds.specs.declared.record.Field.TheOpen.{Field-F}
use Rattle.schema_kinds.specs.declared.record.Field.TheViews.{out-Field}
use Rattle.schema_kinds.specs.Classes.{class_of, props_of}
use Rattle.record_layout.specs.Inverse.{EachGood, AreGood}

-- what is stored of a property: one element, a list of elements, or elements by key
pub data Form : Type 0 where
  single : Item → Form
  listed : Item → Form
  keyed : Item → Form

-- of a many side nothing is stored
abbrev pub form_of : Kind → Option Form
form_of kind.Text = Some (single of.Text)
form_of kind.Whole = Some (single of.Whole)
form_of kind.Truth = Some (single of.Truth)
form_of (kind.Ref c) = Some (single (of.Ref c))
form_of (kind.Serial c) = Some (single (of.Serial c))
form_of (kind.ListOf i) = Some (listed i)
form_of (kind.ArrayOf i) = Some (keyed i)
form_of (kind.Many c side) = None
form_of (kind.One c side) = Some (single (of.Ref c))

-- the forms of the fields of a record: one for each property that isn't a many side, in order
abbrev pub forms_of : List Prop → List Form
forms_of props = filter_map (λ p. form_of p.kind) props

abbrev pub is_row : Form → Bool
is_row (single i) = true
is_row (listed i) = true
is_row (keyed i) = false

abbrev pub is_row_kind : Option Form → Bool
is_row_kind None = false
is_row_kind (Some form) = is_row form

-- the forms of those that stand in rows; an array has nodes of its own
abbrev pub row_forms : List Prop → List Form
row_forms props = filter is_row (forms_of props)

-- how many parts the ids of the class's extent have
abbrev pub id_length : List Class → ClassName → ℕ
id_length classes class = 1

abbrev pub IsIdOf : List Class → ClassName → List ℕ → Type 0
IsIdOf classes class id = IsId id × (length id ≡ id_length classes class)

abbrev pub IsTarget : List Class → ClassName → Option (List ℕ) → Type 0
IsTarget classes class None = Unit {0}
IsTarget classes class (Some id) = IsIdOf classes class id

-- an element, where it is said what the fields of a part are
abbrev pub IsElement : List Class → (ClassName → List Field → Type 0) → Item → Field-F Field → Type 0
IsElement classes part of.Text (Field-F.Plain text) = Unit {0}
IsElement classes part of.Whole (Field-F.Plain text) = Unit {0}
IsElement classes part of.Truth (Field-F.Plain text) = Unit {0}
IsElement classes part (of.Ref c) (Field-F.Target id) = IsTarget classes c id
IsElement classes part (of.Serial c) (Field-F.Part None) = Unit {0}
IsElement classes part (of.Serial c) (Field-F.Part (Some fields)) = part c fields
IsElement classes part _ _ = ⊥

-- a field that is written as one item
abbrev pub IsField : List Class → (ClassName → List Field → Type 0) → Form → Field-F Field → Type 0
IsField classes part (single i) f = IsElement classes part i f
IsField classes part (listed i) (Field-F.List fields) = EachGood (λ f. IsElement classes part i (out-Field f)) fields
IsField classes part _ _ = ⊥

-- the fields of a part of the class, with no more than n parts one in the other
abbrev pub IsPart : ℕ → List Class → ClassName → List Field → Type 0
IsPart zero classes c fields = ⊥
IsPart (suc n) classes c fields = AreGood (λ form f. IsField classes (IsPart n classes) form (out-Field f)) (row_forms (props_of (class_of classes c))) fields

-- a field of that form, with parts nested at most n deep
abbrev pub HasForm : ℕ → List Class → Form → Field → Type 0
HasForm n classes form f = IsField classes (IsPart n classes) form (out-Field f)

-- serial parts nest at most 4 deep
unfoldable pub IsRowField : List Class → Form → Field → Type 0
IsRowField classes form f = HasForm 4 classes form f

-- each subscript comes after the one before it
abbrev pub RiseFrom : Sub → List Sub → Type 0
RiseFrom j [] = Unit {0}
RiseFrom j (k ∷ ks) = (sub_cmp j k ≡ Less) × RiseFrom k ks

abbrev pub Rise : List Sub → Type 0
Rise [] = Unit {0}
Rise (k ∷ ks) = RiseFrom k ks

-- the keys rise, and each element has the form
abbrev pub IsArray : List Class → Item → Field-F Field → Type 0
IsArray classes i (Field-F.Map pairs) = Rise (map (λ e. e.0) pairs) × EachGood (λ e. IsRowField classes (single i) e.1) pairs
IsArray classes i _ = ⊥

-- a field of a record
abbrev pub IsOfForm : List Class → Form → Field → Type 0
IsOfForm classes (keyed i) f = IsArray classes i (out-Field f)
IsOfForm classes form f = IsRowField classes form f

-- the fields of a record, one for each form
abbrev pub AreOfForms : List Class → List Form → List Field → Type 0
AreOfForms classes forms fields = AreGood (IsOfForm classes) forms fields
