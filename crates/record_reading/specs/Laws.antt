-- Records and the nodes that give them.
use Rattle.std.specs.Prelude.{◌≡◌, ◌↔◌, true, List, ◌∷◌, Option, None, Some, IsTrue}
use Rattle.std.specs.FinMap.{is_sorted, entries as listed}
use Rattle.obj_kinds.specs.declared.name.ClassName.{ClassName}
use Rattle.obj_kinds.specs.declared.node.Node.{Node}
use Rattle.obj_kinds.specs.declared.value.Value.{Value}
use Rattle.obj_kinds.specs.declared.value.Value.TheVariants as value
use Rattle.obj_kinds.specs.Order.{node_cmp}
use Rattle.schema_kinds.specs.declared.class.Class.{Class}
use Rattle.schema_kinds.specs.declared.key.Key.{Key}
use Rattle.schema_kinds.specs.declared.record.Record.{Record}
use Rattle.schema_kinds.specs.Classes.{extent_of}
use Rattle.record_layout.specs.Shapes.{AreOfForms}
use Rattle.record_layout.specs.Layout.{layout_of}
use Rattle.record_layout.specs.Rows.{marker, rows}
use Rattle.record_layout.specs.Reading.{Read}
use Rattle.record_layout.specs.Schemas.{IsStorable}
use Rattle.storage_map.specs.Markers.{row_class}
use Rattle.record_reading.specs.Rows.{items_behind, read_record}
use Rattle.record_reading.specs.Damage.{has_legal_entries, damage}

-- a record of a class of the key's extent, in the shape of its class, whose entries pass no limit
pub record IsStoredAt (classes : List Class) (key : Key) (r : Record) : Type 0 where
  pub extent : extent_of classes r.class ≡ Some key.extent
  pub fields : AreOfForms classes (layout_of classes r.class).forms r.fields
  pub entries : has_legal_entries classes key r ≡ true

-- the marker of a row names a class exactly where it is the marker of a class of the extent
abbrev pub MarkersTellClasses : Type 0
MarkersTellClasses =
    (classes : List Class) (extent c : ClassName) (v : Value)
    → (row_class classes extent v ≡ Some c) ↔ ((v ≡ value.List (value.Str (marker extent c) ∷ items_behind v)) × (extent_of classes c ≡ Some extent))

-- nodes give a record exactly where they are the rows of this record, which is in shape and whose entries pass no limit
abbrev pub RecordsComeFromTheirRows : Type 0
RecordsComeFromTheirRows =
    (classes : List Class) (key : Key) (nodes : List (Node × Value)) (r : Record) → IsTrue (is_sorted node_cmp nodes) → IsStorable classes r.class
    → ((damage classes key nodes ≡ None) × (read_record classes key nodes ≡ Read r)) ↔ (IsStoredAt classes key r × (nodes ≡ listed (rows classes key r)))

-- rows tell their record
abbrev pub RowsTellRecords : Type 0
RowsTellRecords =
    (classes : List Class) (key : Key) (r q : Record) → IsStorable classes r.class → IsStorable classes q.class
    → AreOfForms classes (layout_of classes r.class).forms r.fields → AreOfForms classes (layout_of classes q.class).forms q.fields → rows classes key r ≡ rows classes key q → r ≡ q
