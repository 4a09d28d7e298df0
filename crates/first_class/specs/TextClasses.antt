-- The form of a class file with one class of text properties, over what the file declares.
use Rattle.std.specs.Prelude.{◌≡◌, Bool, true, false, ◌&&◌, not, List, [], ◌∷◌, map, codes, IsTrue, Option, Some, None}
use Rattle.std.specs.List.{list_all}
use Rattle.std.specs.Str.{bytes_eq}
use Rattle.obj_kinds.specs.declared.name.ClassName.{ClassName}
use Rattle.schema_kinds.specs.declared.tree.ClassTree.{ClassTree}
use Rattle.schema_kinds.specs.declared.tree.PropTree.{PropTree}
use Rattle.schema_kinds.specs.declared.tree.Form.{Form}
use Rattle.schema_kinds.specs.declared.tree.Form.TheVariants.{Single, List as ListForm, Array, Relation}
use Rattle.first_class.specs.declared.form.TextClass.{TextClass}

abbrev pub is_single : Form → Bool
is_single Single = true
is_single ListForm = false
is_single Array = false
is_single (Relation cardinality inverse) = false

abbrev pub is_empty : {A : Type 0} → List A → Bool
is_empty [] = true
is_empty (x ∷ xs) = false

abbrev pub is_absent : {A : Type 0} → Option A → Bool
is_absent None = true
is_absent (Some x) = false

-- one text, with no length of its own, that may stay empty and begins so
abbrev pub is_text_prop : PropTree → Bool
is_text_prop p =
    is_single p.form && bytes_eq p.of.0 (codes "%String") && not p.required && is_empty p.initial && is_absent p.max_len

-- `Extends %Persistent` and nothing else
abbrev pub is_plain_persistent : List ClassName → Bool
is_plain_persistent [] = false
is_plain_persistent (name ∷ []) = bytes_eq name.0 (codes "%Persistent")
is_plain_persistent (name ∷ other ∷ names) = false

-- a persistent class of such properties alone
abbrev pub is_text_tree : ClassTree → Bool
is_text_tree tree =
    is_plain_persistent tree.supers && list_all is_text_prop tree.props && is_empty tree.indexes && is_empty tree.methods

-- the file declares one class, which is such: this is its name, and these are the names of its properties
pub record IsTextClass (trees : List ClassTree) (class : TextClass) : Type 0 where
  pub tree : ClassTree
  pub only : trees ≡ tree ∷ []
  pub fits : IsTrue (is_text_tree tree)
  pub name : class.name ≡ tree.name
  pub props : class.props ≡ map (λ p. p.name) tree.props
