-- What items tell.
use Rattle.std.specs.Prelude.{◌↔◌, ◌≡◌, ℕ, List}
use Rattle.schema_kinds.specs.declared.class.Class.{Class}
use Rattle.schema_kinds.specs.declared.record.Field.{Field}
use Rattle.record_layout.specs.Inverse.{IsInverse}
use Rattle.record_layout.specs.Shapes.{Form, HasForm, Rise, AreOfForms}
use Rattle.obj_kinds.specs.declared.value.Value.{Value}
use Rattle.record_layout.specs.Items.{item, field_in}
use Rattle.record_layout.specs.Layout.{Layout, IsLaidOut, layout_of}
use Rattle.schema_kinds.specs.declared.key.Key.{Key}
use Rattle.schema_kinds.specs.declared.record.Record.{Record}
use Rattle.record_layout.specs.Rows.{Globals, data_node, rows}
use Rattle.record_layout.specs.Records.{IsReadWhole, IsSourceOf, IsTrueSource, HaveDifferentNames}
use Rattle.record_layout.specs.Reading.{Source, Read, read_fields, FieldsStand, damaged_at, looks, first_bad}

-- fields are read exactly where they have the forms and stand as they are written
abbrev pub ReadWhereTheyStand : Type 0
ReadWhereTheyStand =
    (classes : List Class) (s : Source) (layout : Layout) (items : List Value) (fields : List Field) → IsLaidOut layout → ((name : List ℕ) → Rise (s.keys name))
    → (read_fields classes s layout items ≡ Read fields) ↔ (AreOfForms classes layout.forms fields × FieldsStand s layout items fields)

-- an item is read as a field exactly where the field has the form and is written so
abbrev pub ItemsTellFields : Type 0
ItemsTellFields = (n : ℕ) (classes : List Class) (form : Form) → IsInverse (HasForm n classes form) item (field_in n classes form)

-- the node that is named is the first one that hasn't the right form
abbrev pub DamagedIsFirst : Type 0
DamagedIsFirst =
    (classes : List Class) (s : Source) (layout : Layout) (items : List Value) → damaged_at (read_fields classes s layout items) ≡ first_bad (looks classes s layout items)

-- where a record was read and no further node is there, the nodes are its rows
abbrev pub ReadWholeIsRows : Type 0
ReadWholeIsRows =
    (classes : List Class) (key : Key) (g : Globals) (s : Source) (r : Record) → IsLaidOut (layout_of classes r.class) → IsReadWhole classes key g s r → g ≡ rows classes key r

-- the rows of a record in shape are read as the record
abbrev pub RowsAreRead : Type 0
RowsAreRead =
    (classes : List Class) (key : Key) (s : Source) (r : Record) → IsLaidOut (layout_of classes r.class) → AreOfForms classes (layout_of classes r.class).forms r.fields → IsSourceOf classes key s r
    → IsReadWhole classes key (rows classes key r) s r

-- a record is read whole exactly where it is in shape and the nodes are its rows
abbrev pub RecordsAreTheirRows : Type 0
RecordsAreTheirRows =
    (classes : List Class) (key : Key) (g : Globals) (s : Source) (r : Record) → IsLaidOut (layout_of classes r.class) → HaveDifferentNames (layout_of classes r.class) → IsTrueSource g (data_node key) s
    → IsReadWhole classes key g s r ↔ (AreOfForms classes (layout_of classes r.class).forms r.fields × (g ≡ rows classes key r))
