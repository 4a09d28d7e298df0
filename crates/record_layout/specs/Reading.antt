-- How a record is read from its nodes.
use Rattle.std.specs.Prelude.{◌≡◌, ℕ, take, drop, Bool, cond, List, [], ◌∷◌, ◌++◌, map, length, Option, None, Some, is_some}
use Rattle.std.specs.List.{flat_map}
use Rattle.obj_kinds.specs.declared.sub.Sub.{Sub}
use Rattle.obj_kinds.specs.declared.sub.Sub.TheVariants.{Str}
use Rattle.obj_kinds.specs.declared.value.Value.{Value}
use Rattle.obj_kinds.specs.declared.value.Value.TheOpen.{Value-F}
use Rattle.obj_kinds.specs.declared.value.Value.TheViews.{out-Value}
use Rattle.schema_kinds.specs.declared.class.Class.{Class}
use Rattle.schema_kinds.specs.declared.kind.Item.{Item}
use Rattle.schema_kinds.specs.declared.record.Field.{Field}
use Rattle.schema_kinds.specs.declared.record.Field.TheVariants as field
use Rattle.record_layout.specs.Inverse.{each_read}
use Rattle.record_layout.specs.Shapes.{Form, single, keyed}
use Rattle.record_layout.specs.Items.{item, row_field}
use Rattle.record_layout.specs.Rows.{rows_in, maps_in, element_nodes, lower_nodes}
use Rattle.record_layout.specs.Layout.{Layout}

-- what reading gives, or the first node, below the row, that is missing or has the wrong form
pub data Reading (A : Type 0) : Type 0 where
  Read : A → Reading A
  Damaged : List Sub → Reading A

-- what is read: the values of nodes below the row, and the keys of each array
pub record Source : Type 0 where
  pub value : List Sub → Option Value
  pub keys : List ℕ → List Sub

abbrev pub then_read : {A B : Type 0} → Reading A → (A → Reading B) → Reading B
then_read (Read a) next = next a
then_read (Damaged at) next = Damaged at

abbrev pub or_damaged : {A : Type 0} → List Sub → Option A → Reading A
or_damaged at None = Damaged at
or_damaged at (Some a) = Read a

abbrev pub items_of : Value-F Value → Option (List Value)
items_of (Value-F.List vs) = Some vs
items_of (Value-F.Str text) = None

abbrev pub fields_of : List Class → List Form → Option (List Value) → Option (List Field)
fields_of classes forms None = None
fields_of classes forms (Some vs) = each_read (row_field classes) forms vs

abbrev pub fields_in : List Class → List Form → Option Value → Option (List Field)
fields_in classes forms None = None
fields_in classes forms (Some v) = fields_of classes forms (items_of (out-Value v))

-- the lists below the row, one after the other
abbrev pub read_lower : List Class → Source → List (List ℕ × List Form) → Reading (List Field)
read_lower classes s [] = Read []
read_lower classes s (l ∷ ls) =
    then_read (or_damaged (Str l.0 ∷ []) (fields_in classes l.1 (s.value (Str l.0 ∷ []))))
    (λ fields. then_read (read_lower classes s ls) (λ more. Read (fields ++ more)))

abbrev pub element_at : List Class → Item → Option Value → Option Field
element_at classes i None = None
element_at classes i (Some v) = row_field classes (single i) v

abbrev pub read_elements : List Class → Source → List ℕ → Item → List Sub → Reading (List (Sub × Field))
read_elements classes s name i [] = Read []
read_elements classes s name i (k ∷ ks) =
    then_read (or_damaged (Str name ∷ k ∷ []) (element_at classes i (s.value (Str name ∷ k ∷ []))))
    (λ f. then_read (read_elements classes s name i ks) (λ more. Read ((k, f) ∷ more)))

abbrev pub read_arrays : List Class → Source → List (List ℕ × Item) → Reading (List (List (Sub × Field)))
read_arrays classes s [] = Read []
read_arrays classes s (a ∷ as') =
    then_read (read_elements classes s a.0 a.1 (s.keys a.0))
    (λ pairs. then_read (read_arrays classes s as') (λ more. Read (pairs ∷ more)))

-- the fields in the order of the forms: each array is the next of the maps, and any other the next of the rest
abbrev pub merged : List Form → List Field → List (List (Sub × Field)) → List Field
merged [] own maps = []
merged (keyed i ∷ forms) own [] = []
merged (keyed i ∷ forms) own (pairs ∷ maps) = field.Map pairs ∷ merged forms own maps
merged (form ∷ forms) [] maps = []
merged (form ∷ forms) (f ∷ own) maps = f ∷ merged forms own maps

-- the fields, where the items of the row behind the marker are these
abbrev pub read_fields : List Class → Source → Layout → List Value → Reading (List Field)
read_fields classes s layout items =
    then_read (or_damaged [] (each_read (row_field classes) layout.root items))
    (λ first. then_read (read_lower classes s layout.lower)
    (λ more. then_read (read_arrays classes s layout.arrays)
    (λ maps. Read (merged layout.forms (first ++ more) maps))))

-- the nodes have these values in the source
abbrev pub AllStand : Source → List (List Sub × Value) → Type 0
AllStand s [] = Unit {0}
AllStand s (e ∷ es) = (s.value e.0 ≡ Some e.1) × AllStand s es

-- the arrays have these elements in the source
abbrev pub ArraysStand : Source → List (List ℕ × Item) → List (List (Sub × Field)) → Type 0
ArraysStand s [] [] = Unit {0}
ArraysStand s [] (pairs ∷ maps) = ⊥
ArraysStand s (a ∷ as') [] = ⊥
ArraysStand s (a ∷ as') (pairs ∷ maps) =
    (s.keys a.0 ≡ map (λ e. e.0) pairs) × AllStand s (element_nodes a.0 pairs) × ArraysStand s as' maps

-- the fields stand in the source as they are written
pub record FieldsStand (s : Source) (layout : Layout) (items : List Value) (fields : List Field) : Type 0 where
  pub row : items ≡ map item (take (length layout.root) (rows_in fields))
  pub lower : AllStand s (lower_nodes layout.lower (drop (length layout.root) (rows_in fields)))
  pub arrays : ArraysStand s layout.arrays (maps_in fields)

-- the node at which reading stops
abbrev pub damaged_at : {A : Type 0} → Reading A → Option (List Sub)
damaged_at (Read a) = None
damaged_at (Damaged at) = Some at

-- a node that reading looks at, and whether it has the right form
abbrev pub Look : Type 0
Look = List Sub × Bool

abbrev pub looks_lower : List Class → Source → List (List ℕ × List Form) → List Look
looks_lower classes s ls = map (λ l. (Str l.0 ∷ [], is_some (fields_in classes l.1 (s.value (Str l.0 ∷ []))))) ls

abbrev pub looks_elements : List Class → Source → List ℕ → Item → List Sub → List Look
looks_elements classes s name i ks = map (λ k. (Str name ∷ k ∷ [], is_some (element_at classes i (s.value (Str name ∷ k ∷ []))))) ks

abbrev pub looks_arrays : List Class → Source → List (List ℕ × Item) → List Look
looks_arrays classes s arrays = flat_map (λ a. looks_elements classes s a.0 a.1 (s.keys a.0)) arrays

-- all that are looked at, in order: the row, the lists below it, the elements of each array
abbrev pub looks : List Class → Source → Layout → List Value → List Look
looks classes s layout items =
    ([], is_some (each_read (row_field classes) layout.root items)) ∷ looks_lower classes s layout.lower ++ looks_arrays classes s layout.arrays

abbrev pub first_bad : List Look → Option (List Sub)
first_bad [] = None
first_bad (l ∷ ls) = cond l.1 (first_bad ls) (Some l.0)
