-- How a field is written as an item of a row, and how it is read.
use Rattle.std.specs.Prelude.{ℕ, zero, suc, cond, nat_eq, List, [], ◌∷◌, length, Option, None, Some, option_map}
use Rattle.std.specs.Option.{option_and_then}
use Rattle.obj_kinds.specs.declared.name.ClassName.{ClassName}
use Rattle.obj_kinds.specs.declared.value.Value.{Value}
use Rattle.obj_kinds.specs.declared.value.Value.TheVariants as value
use Rattle.obj_kinds.specs.declared.value.Value.TheOpen.{Value-F}
use Rattle.obj_kinds.specs.declared.value.Value.TheViews.{out-Value}
use Rattle.obj_kinds.specs.Ids.{id_text}
use Rattle.obj_kinds.specs.IdReading.{id_in}
use Rattle.schema_kinds.specs.declared.kind.Item.{Item}
use Rattle.schema_kinds.specs.declared.kind.Item.TheVariants as of
use Rattle.schema_kinds.specs.declared.class.Class.{Class}
use Rattle.schema_kinds.specs.declared.record.Field.{Field}
use Rattle.schema_kinds.specs.declared.record.Field.TheVariants as field
use Rattle.schema_kinds.specs.declared.record.Field.TheOpen.{Field-F}
use Rattle.schema_kinds.specs.declared.record.Field.TheFolds.{fold-Field}
use Rattle.schema_kinds.specs.Classes.{class_of, props_of}
use Rattle.record_layout.specs.Inverse.{all_read, each_read}
use Rattle.record_layout.specs.Shapes.{Form, single, listed, row_forms, id_length}

-- the id's text, or nothing
abbrev pub target_text : Option (List ℕ) → List ℕ
target_text None = []
target_text (Some id) = id_text id

-- an empty list is written as the empty text
abbrev pub list_item : List Value → Value
list_item [] = value.Str []
list_item (v ∷ vs) = value.List (v ∷ vs)

-- a part that is there is the list of its items, and one that isn't is the empty text
abbrev pub part_item : Option (List Value) → Value
part_item None = value.Str []
part_item (Some vs) = value.List vs

abbrev pub item_step : Field-F Value → Value
item_step (Field-F.Plain text) = value.Str text
item_step (Field-F.Target id) = value.Str (target_text id)
item_step (Field-F.Part items) = part_item items
item_step (Field-F.List items) = list_item items
item_step (Field-F.Map pairs) = value.Str []

-- the item of a field in its row; an array has nodes of its own
abbrev pub item : Field → Value
item = fold-Field Value item_step

-- an id that has as many parts as the ids of the extent
abbrev pub if_long : ℕ → List ℕ → Option (List ℕ)
if_long n id = cond (nat_eq (length id) n) (Some id) None

-- the target that the text names
abbrev pub target_in : List Class → ClassName → List ℕ → Option (Option (List ℕ))
target_in classes c [] = Some None
target_in classes c (byte ∷ text) = option_map Some (option_and_then (if_long (id_length classes c)) (id_in (byte ∷ text)))

-- any text
abbrev pub plain_of : Value-F Value → Option Field
plain_of (Value-F.Str text) = Some (field.Plain text)
plain_of (Value-F.List vs) = None

abbrev pub reference_of : List Class → ClassName → Value-F Value → Option Field
reference_of classes c (Value-F.Str text) = option_map field.Target (target_in classes c text)
reference_of classes c (Value-F.List vs) = None

-- a part, where it is said how its fields are read
abbrev pub serial_of : (ClassName → List Value → Option (List Field)) → ClassName → Value-F Value → Option Field
serial_of part c (Value-F.Str []) = Some (field.Part None)
serial_of part c (Value-F.Str (byte ∷ text)) = None
serial_of part c (Value-F.List vs) = option_map (λ fields. field.Part (Some fields)) (part c vs)

-- the element that is written so
abbrev pub element_in : List Class → (ClassName → List Value → Option (List Field)) → Item → Value-F Value → Option Field
element_in classes part of.Text v = plain_of v
element_in classes part of.Whole v = plain_of v
element_in classes part of.Truth v = plain_of v
element_in classes part (of.Ref c) v = reference_of classes c v
element_in classes part (of.Serial c) v = serial_of part c v

abbrev pub field_by : List Class → (ClassName → List Value → Option (List Field)) → Form → Value-F Value → Option Field
field_by classes part (single i) v = element_in classes part i v
field_by classes part (listed i) (Value-F.Str []) = Some (field.List [])
field_by classes part (listed i) (Value-F.List (v ∷ vs)) = option_map field.List (all_read (λ w. element_in classes part i (out-Value w)) (v ∷ vs))
field_by classes part _ _ = None

-- the fields of a part of the class, with no more than n parts one in the other
abbrev pub part_in : ℕ → List Class → ClassName → List Value → Option (List Field)
part_in zero classes c vs = None
part_in (suc n) classes c vs = each_read (λ form v. field_by classes (part_in n classes) form (out-Value v)) (row_forms (props_of (class_of classes c))) vs

-- the field of that form whose item this is, with parts nested at most n deep
abbrev pub field_in : ℕ → List Class → Form → Value → Option Field
field_in n classes form v = field_by classes (part_in n classes) form (out-Value v)

-- serial parts nest at most 4 deep
unfoldable pub row_field : List Class → Form → Value → Option Field
row_field classes form v = field_in 4 classes form v
