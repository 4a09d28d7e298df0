-- How the steps of reading are seen: as the layout of a class.
use Rattle.std.specs.Prelude.{◌≡◌, ℕ, List, map}
use Rattle.schema_kinds.specs.declared.prop.Prop.{Prop}
use Rattle.schema_kinds.specs.declared.kind.Item.{Item}
use Rattle.record_layout.specs.Shapes.{Form, forms_of, row_forms}
use Rattle.record_layout.specs.Layout.{Layout}
use Rattle.record_reading.specs.declared.steps.ListBelow.{ListBelow}
use Rattle.record_reading.specs.declared.steps.ArrayBelow.{ArrayBelow}
use Rattle.record_reading.specs.declared.steps.Steps.{Steps}

-- a list is seen as its subscript and the forms of its items
abbrev pub list_seen : ListBelow → List ℕ × List Form
list_seen l = (l.name.now, row_forms l.props.now)

-- an array as its subscript and what its elements are
abbrev pub array_seen : ArrayBelow → List ℕ × Item
array_seen a = (a.name.now, a.item.now)

abbrev pub layout_seen : Steps → Layout
layout_seen s = record {
  forms = forms_of s.props.now;
  root = row_forms s.root.now;
  lower = map list_seen s.lists.items;
  arrays = map array_seen s.arrays.items;
}
