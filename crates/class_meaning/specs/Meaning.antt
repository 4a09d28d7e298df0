-- The schema that class trees mean.
use Rattle.std.specs.Prelude.{ℕ, ℤ, pos, ◌+◌, Bool, true, false, cond, ◌||◌, List, [], ◌∷◌, filter_map, codes, int_lt, unsigned_abs, Option, Some, None, option_and_then, option_map}
use Rattle.obj_kinds.specs.declared.name.ClassName.{ClassName}
use Rattle.schema_kinds.specs.declared.class.Class.{Class}
use Rattle.schema_kinds.specs.declared.class.Sort.{Sort}
use Rattle.schema_kinds.specs.declared.class.Sort.TheVariants.{Persistent, Serial, Registered, Plain}
use Rattle.schema_kinds.specs.declared.kind.Kind.{Kind}
use Rattle.schema_kinds.specs.declared.kind.Kind.TheVariants as k
use Rattle.schema_kinds.specs.declared.kind.Item.{Item}
use Rattle.schema_kinds.specs.declared.kind.Item.TheVariants as it
use Rattle.schema_kinds.specs.declared.prop.Prop.{Prop}
use Rattle.schema_kinds.specs.declared.tree.ClassTree.{ClassTree}
use Rattle.schema_kinds.specs.declared.tree.PropTree.{PropTree}
use Rattle.schema_kinds.specs.declared.tree.Form.{Form}
use Rattle.schema_kinds.specs.declared.tree.Form.TheVariants.{Single, List as ListForm, Array, Relation}
use Rattle.schema_kinds.specs.Hierarchy.{same_text, place_of}
use Rattle.class_facts.specs.Types.{data_item}
use Rattle.class_facts.specs.Trees.{prop_at, index_at, spots_in}
use Rattle.class_facts.specs.Facts.{Facts, sort_in, props_in, indexes_in}
use Rattle.class_facts.specs.Numbers.{number_of}

-- a property of a serial class as its type has a part, one of any other class a reference
abbrev pub class_item : ClassName → Sort → Item
class_item name Persistent = it.Ref name
class_item name Serial = it.Serial name
class_item name Registered = it.Ref name
class_item name Plain = it.Ref name

abbrev pub item_or : Option Item → Option Item → Option Item
item_or None other = other
item_or (Some item) other = Some item

abbrev pub listed_item : Facts → ClassName → Option Item
listed_item f name = option_map (λ j. class_item name (sort_in f j)) (place_of f.names name)

-- what a type makes; nothing where it is unknown
abbrev pub item_of : Facts → ClassName → Option Item
item_of f name = item_or (data_item name) (listed_item f name)

abbrev pub single_kind : Item → Kind
single_kind it.Text = k.Text
single_kind it.Whole = k.Whole
single_kind it.Truth = k.Truth
single_kind (it.Ref name) = k.Ref name
single_kind (it.Serial name) = k.Serial name

-- the kind of a side of a relationship; nothing where its words make none
abbrev pub side_with : ClassName → List ℕ → List ℕ → Option Kind
side_with name cardinality inverse =
    cond (same_text cardinality (codes "many")) (Some (k.Many name inverse))
    (cond (same_text cardinality (codes "one")) (Some (k.One name inverse)) None)

abbrev pub side_kind : ClassName → Option (List ℕ) → Option (List ℕ) → Option Kind
side_kind name None inverse = None
side_kind name (Some cardinality) None = None
side_kind name (Some cardinality) (Some inverse) = side_with name cardinality inverse

abbrev pub kind_by : Facts → ClassName → Form → Option Kind
kind_by f name Single = option_map single_kind (item_of f name)
kind_by f name ListForm = option_map k.ListOf (item_of f name)
kind_by f name Array = option_map k.ArrayOf (item_of f name)
kind_by f name (Relation cardinality inverse) = side_kind name cardinality inverse

-- texts have 50 bytes at most unless `MAXLEN` is given; an empty one, or one above 32,767, is no limit
abbrev pub is_text_item : Item → Bool
is_text_item it.Text = true
is_text_item it.Whole = false
is_text_item it.Truth = false
is_text_item (it.Ref name) = false
is_text_item (it.Serial name) = false

abbrev pub is_whole_item : Item → Bool
is_whole_item it.Text = false
is_whole_item it.Whole = true
is_whole_item it.Truth = false
is_whole_item (it.Ref name) = false
is_whole_item (it.Serial name) = false

abbrev pub has_text : Kind → Bool
has_text k.Text = true
has_text k.Whole = false
has_text k.Truth = false
has_text (k.Ref name) = false
has_text (k.Serial name) = false
has_text (k.ListOf item) = is_text_item item
has_text (k.ArrayOf item) = is_text_item item
has_text (k.Many name side) = false
has_text (k.One name side) = false

abbrev pub has_whole : Kind → Bool
has_whole k.Text = false
has_whole k.Whole = true
has_whole k.Truth = false
has_whole (k.Ref name) = false
has_whole (k.Serial name) = false
has_whole (k.ListOf item) = is_whole_item item
has_whole (k.ArrayOf item) = is_whole_item item
has_whole (k.Many name side) = false
has_whole (k.One name side) = false

abbrev pub len_limit : ℤ → Option ℕ
len_limit z = cond (int_lt (pos 32767) z || int_lt z (pos 0)) None (Some (unsigned_abs z))

abbrev pub given_len : Option (List ℕ) → Option ℕ
given_len None = Some 50
given_len (Some text) = option_and_then len_limit (number_of text)

abbrev pub max_len_of : Kind → Option (List ℕ) → Option ℕ
max_len_of kind given = cond (has_text kind) (given_len given) None

abbrev pub bound_of : Kind → Option (List ℕ) → Option ℤ
bound_of kind given = cond (has_whole kind) (option_and_then number_of given) None

abbrev pub prop_with : PropTree → Kind → Prop
prop_with p kind = record {
  name = p.name;
  kind = kind;
  required = p.required;
  initial = p.initial;
  max_len = max_len_of kind p.max_len;
  min_val = bound_of kind p.min_val;
  max_val = bound_of kind p.max_val;
}

abbrev pub prop_of : Facts → PropTree → Option Prop
prop_of f p = option_map (prop_with p) (kind_by f p.of p.form)

-- a class with all that it has
abbrev pub class_with : List ClassTree → Facts → ℕ → ClassTree → Class
class_with trees f i tree = record {
  name = tree.name;
  sort = sort_in f i;
  supers = tree.supers;
  props = filter_map (λ s. option_and_then (prop_of f) (prop_at trees s)) (spots_in (props_in f i));
  indexes = filter_map (index_at trees) (spots_in (indexes_in f i));
  methods = tree.methods;
}

abbrev pub classes_from : List ClassTree → Facts → ℕ → List ClassTree → List Class
classes_from trees f i [] = []
classes_from trees f i (tree ∷ rest) = class_with trees f i tree ∷ classes_from trees f (i + 1) rest

-- the classes of the schema, in the order of the files
abbrev pub classes_of : List ClassTree → Facts → List Class
classes_of trees f = classes_from trees f 0 trees
