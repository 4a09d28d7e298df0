-- Which method a call means, and what its first variables are.
use Rattle.std.specs.Prelude.{ℕ, zero, suc, Bool, false, cond, ◌||◌, ◌==◌, List, [], ◌∷◌, ◌++◌, length, Option, Some, None, is_some}
use Rattle.std.specs.Str.{bytes_eq}
use Rattle.obj_kinds.specs.declared.name.ClassName.{ClassName}
use Rattle.schema_kinds.specs.declared.class.Class.{Class}
use Rattle.schema_kinds.specs.declared.method.Method.{Method}
use Rattle.schema_kinds.specs.declared.method.Arg.{Arg}
use Rattle.os_kinds.specs.declared.val.Val.{Val}
use Rattle.os_meaning.specs.Syntax.{Name, Block}
use Rattle.os_meaning.specs.Values.{text_value}
use Rattle.os_meaning.specs.Frames.{Vars}

-- the classes of a schema, and beside each class the bodies of the methods that it declares, in their order
pub record Program : Type 0 where
  pub classes : List Class
  pub bodies : List (List Block)
  pub scripts : List Block

-- a method with its body, and the class that declares it
pub record Found : Type 0 where
  pub class : ClassName
  pub method : Method
  pub body : Block

-- the method of that name among those that a class declares, with its body
abbrev pub declared : ClassName → Name → List Method → List Block → Option Found
declared class name (m ∷ ms) (b ∷ bs) = cond (bytes_eq m.name name) (Some (record { class = class; method = m; body = b })) (declared class name ms bs)
declared class name _ _ = None

-- a class and the bodies of its methods
abbrev pub class_at : ClassName → List Class → List (List Block) → Option (Class × List Block)
class_at name (c ∷ cs) (b ∷ bs) = cond (bytes_eq c.name.0 name.0) (Some (c, b)) (class_at name cs bs)
class_at name _ _ = None

abbrev pub or_else : Option Found → Option Found → Option Found
or_else None other = other
or_else (Some f) other = Some f

-- the first of several classes that has the method
abbrev pub first_of : (ClassName → Option Found) → List ClassName → Option Found
first_of look [] = None
first_of look (c ∷ cs) = or_else (look c) (first_of look cs)

abbrev pub in_class : Name → (ClassName → Option Found) → Option (Class × List Block) → Option Found
in_class name above None = None
in_class name above (Some (c, bodies)) = or_else (declared c.name name c.methods bodies) (first_of above c.supers)

-- The method that a class has by a name: its own, or else that of the first of its superclasses, from left to right, that has one. No
-- chain of superclasses is longer than the list of classes.
abbrev pub method_within : ℕ → Program → Name → ClassName → Option Found
method_within zero p name class = None
method_within (suc depth) p name class = in_class name (method_within depth p name) (class_at class p.classes p.bodies)

unfoldable pub method_of : Program → ClassName → Name → Option Found
method_of p class name = method_within (suc (length p.classes)) p name class

abbrev pub is_class : Program → ClassName → Bool
is_class p class = is_some (class_at class p.classes p.bodies)

-- ---- the name of a class in a method's body

-- a name without a dot is one of the package of the class that declares the method
abbrev pub has_dot : List ℕ → Bool
has_dot [] = false
has_dot (b ∷ z) = b == 46 || has_dot z

-- what stands up to the last dot, with it
abbrev pub package_of : List ℕ → List ℕ
package_of [] = []
package_of (b ∷ z) = cond (b == 46 || has_dot z) (b ∷ package_of z) []

abbrev pub full_name : Option ClassName → ClassName → ClassName
full_name None class = class
full_name (Some within) class = cond (has_dot class.0) class (record { 0 = package_of within.0 ++ class.0 })

-- ---- arguments

-- an argument that the call doesn't give is its default, or has no value
abbrev pub default_by : Name → Option (List ℕ) → Vars → Vars
default_by name None vars = vars
default_by name (Some text) vars = record { name = name; value = text_value text } ∷ vars

abbrev pub defaults : List Arg → Vars
defaults [] = []
defaults (a ∷ more) = default_by a.name a.default (defaults more)

abbrev pub with_value : Name → Val → Option Vars → Option Vars
with_value name v None = None
with_value name v (Some vars) = Some (record { name = name; value = v } ∷ vars)

-- the first variables of a method, or none where more values are given than it has arguments
abbrev pub arguments : List Arg → List Val → Option Vars
arguments args [] = Some (defaults args)
arguments [] (v ∷ vs) = None
arguments (a ∷ args) (v ∷ vs) = with_value a.name v (arguments args vs)
