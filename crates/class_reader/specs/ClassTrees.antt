-- The trees that are read: what their parts make of each other, and which names are taken.
use Rattle.std.specs.Prelude.{◌-◌, Bool, false, None, List, [], ◌∷◌, ◌++◌, length, take, drop, codes}
use Rattle.std.specs.Str.{bytes_eq}
use Rattle.std.specs.List.{list_any}
use Rattle.obj_kinds.specs.declared.name.ClassName.{ClassName}
use Rattle.schema_kinds.specs.declared.class.Index.{Index}
use Rattle.schema_kinds.specs.declared.method.Arg.{Arg}
use Rattle.schema_kinds.specs.declared.method.Method.{Method}
use Rattle.schema_kinds.specs.declared.tree.ClassTree.{ClassTree}
use Rattle.schema_kinds.specs.declared.tree.Form.{Form}
use Rattle.schema_kinds.specs.declared.tree.Form.TheVariants as form
use Rattle.schema_kinds.specs.declared.tree.PropTree.{PropTree}
use Rattle.text_reading.specs.declared.places.Place.{Place}
use Rattle.text_reading.specs.Tokens.{Bytes}
use Rattle.text_reading.specs.Places.{Placed}
use Rattle.class_tokens.specs.ClassTongue.{Token}
use Rattle.class_reader.specs.declared.keys.Given.{Given}
use Rattle.class_reader.specs.declared.keys.Bounds.{Bounds}
use Rattle.class_reader.specs.declared.properties.TypeName.{TypeName}
use Rattle.class_reader.specs.declared.properties.Typed.{Typed}
use Rattle.class_reader.specs.declared.members.Body.{Body}
use Rattle.class_reader.specs.declared.classes.Members.{Members}
use Rattle.class_reader.specs.ClassKeys.{no_bounds}
use Rattle.class_reader.specs.ClassNames.{whole_name}

-- a class, as it is named in a class of the package
abbrev pub class_in : Bytes → Bytes → ClassName
class_in home name = record { 0 = whole_name home name }

-- ---- types and properties

abbrev pub type_name : Form → Bytes → TypeName
type_name f name = record { form = f; name = name }

abbrev pub typed : Bytes → TypeName → Bounds → Typed
typed home written given = record { form = written.form; of = class_in home written.name; bounds = given }

-- the type of a property that has none
abbrev pub text_type : Typed
text_type = record { form = form.Single; of = record { 0 = codes "%String" }; bounds = no_bounds }

abbrev pub has_prop : List PropTree → Bytes → Bool
has_prop props name = list_any (λ p. bytes_eq p.name name) props

unfoldable pub prop_of : Bytes → Typed → Given → PropTree
prop_of name type given = record {
  name = name;
  form = type.form;
  of = type.of;
  required = given.required;
  initial = given.initial;
  max_len = type.bounds.max_len;
  min_val = type.bounds.min_val;
  max_val = type.bounds.max_val;
}

unfoldable pub relation_of : Bytes → Bytes → Given → PropTree
relation_of name of given = record {
  name = name;
  form = form.Relation given.cardinality given.inverse;
  of = record { 0 = of };
  required = false;
  initial = [];
  max_len = None;
  min_val = None;
  max_val = None;
}

-- ---- indexes and methods

abbrev pub has_index : List Index → Bytes → Bool
has_index indexes name = list_any (λ i. bytes_eq i.name name) indexes

abbrev pub index_of : Bytes → List Bytes → Given → Index
index_of name props given = record { name = name; props = props; unique = given.unique }

abbrev pub has_method : List Method → Bytes → Bool
has_method methods name = list_any (λ m. bytes_eq m.name name) methods

-- what stands between the braces of a block
abbrev pub between : Bytes → Bytes
between text = take (length text - 2) (drop 1 text)

-- a body, and how many bytes of the file there are from its first one on
abbrev pub body_of : Token → Body
body_of t = record { text = between t.text; left = t.left - 1 }

abbrev pub method_of : Bytes → Bool → List Arg → Bytes → Place → Method
method_of name of_class args text place = record {
  name = name;
  of_class = of_class;
  args = args;
  body = text;
  line = place.line;
  column = place.column;
}

-- ---- members and classes

-- where a member stands: in this text, in a class of this package
pub record Site : Type 0 where
  pub text : Placed
  pub home : Bytes

abbrev pub site : Placed → Bytes → Site
site text home = record { text = text; home = home }

abbrev pub no_members : Members
no_members = record { props = []; indexes = []; methods = [] }

abbrev pub with_props : Members → List PropTree → Members
with_props m props = record m { props = props }

abbrev pub with_indexes : Members → List Index → Members
with_indexes m indexes = record m { indexes = indexes }

abbrev pub with_methods : Members → List Method → Members
with_methods m methods = record m { methods = methods }

abbrev pub tree_of : Bytes → List ClassName → Members → ClassTree
tree_of name supers m = record { name = record { 0 = name }; supers = supers; props = m.props; indexes = m.indexes; methods = m.methods }
