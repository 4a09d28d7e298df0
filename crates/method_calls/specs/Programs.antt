-- A program with its codes, and which class method a call means by it.
use Rattle.std.specs.Prelude.{◌≡◌, ℕ, false, List, [], ◌∷◌, map, cond, slice_get, Option, Some, None, option_and_then, Result, Ok, Err}
use Rattle.std.specs.Str.{bytes_eq}
use Rattle.obj_kinds.specs.declared.name.ClassName.{ClassName}
use Rattle.obj_kinds.specs.declared.error_name.ErrorName.{ErrorName}
use Rattle.obj_kinds.specs.declared.error_name.ErrorName.TheVariants as error
use Rattle.schema_kinds.specs.declared.class.Class.{Class}
use Rattle.schema_kinds.specs.declared.method.Method.{Method}
use Rattle.schema_kinds.specs.declared.method.Arg.{Arg}
use Rattle.os_meaning.specs.Syntax.{Name, Block}
use Rattle.os_code.specs.declared.instruction.Instruction.{Instruction}
use Rattle.os_code.specs.Coding.{script_code}
use Rattle.host_meaning.specs.Methods.{Program as Meant, Found, method_of, is_class}
use Rattle.method_table.specs.declared.table.MethodPlace.{MethodPlace}
use Rattle.method_table.specs.Tables.{HaveBodies, IsTableOf}
use Rattle.method_calls.specs.declared.program.Program.{Program}
use Rattle.method_calls.specs.declared.program.Callee.{Callee}

-- ---- arguments whose names are apart

abbrev pub IsOther : Name → List Arg → Type 0
IsOther name [] = Unit {0}
IsOther name (a ∷ more) = (bytes_eq name a.name ≡ false) × IsOther name more

-- no name is there twice
abbrev pub AreApart : List Arg → Type 0
AreApart [] = Unit {0}
AreApart (a ∷ more) = IsOther a.name more × AreApart more

-- ---- programs

abbrev pub codes_of : List Block → List (List Instruction)
codes_of bodies = map script_code bodies

-- The program has these classes, and the code of each body; no method has two arguments of one name.
pub record IsProgramOf (meant : Meant) (p : Program) : Type 0 where
  pub classes : p.schema ≡ meant.classes
  pub bodies : HaveBodies meant.classes meant.bodies
  pub table : IsTableOf p.schema p.table
  pub codes : p.methods ≡ map codes_of meant.bodies
  pub apart : (i j : ℕ) (c : Class) (m : Method) → slice_get meant.classes i ≡ Some c → slice_get c.methods j ≡ Some m → AreApart m.args

abbrev pub code_at : List (List (List Instruction)) → MethodPlace → Option (List Instruction)
code_at rows place = option_and_then (λ codes. slice_get codes place.method) (slice_get rows place.class)

-- ---- calls of class methods

abbrev pub of_found : Option Found → Result Found ErrorName
of_found None = Err error.MethodDoesNotExist
of_found (Some f) = cond f.method.of_class (Ok f) (Err error.MethodDoesNotExist)

-- the class method that a call means, or its error
abbrev pub callee_of : Meant → ClassName → Name → Result Found ErrorName
callee_of meant class name = cond (is_class meant class) (of_found (method_of meant class name)) (Err error.ClassDoesNotExist)

-- what a call needs of a method
pub record Called : Type 0 where
  pub args : List Arg
  pub code : List Instruction
  pub declarer : ClassName

abbrev pub of_declared : Class → Method → List Instruction → Result Called ErrorName
of_declared c m code = cond m.of_class (Ok (record { args = m.args; code = code; declarer = c.name })) (Err error.MethodDoesNotExist)

abbrev pub Fits : Result Called ErrorName → ClassName → Result Callee ErrorName → Type 0
Fits (Ok d) on (Ok c) = (c.args.now ≡ d.args) × ((c.code.now ≡ d.code) × ((c.declarer.now ≡ d.declarer) × (c.called_on.now ≡ on)))
Fits (Err e) on (Err x) = x ≡ e
Fits _ on _ = ⊥

-- the method that is found: its code is that of its body
abbrev pub IsFound : Found → ClassName → Callee → Type 0
IsFound f on c =
    (c.args.now ≡ f.method.args) × ((c.code.now ≡ script_code f.body) × ((c.declarer.now ≡ f.class) × ((c.called_on.now ≡ on) × AreApart f.method.args)))

abbrev pub Finds : Result Found ErrorName → ClassName → Result Callee ErrorName → Type 0
Finds (Ok f) on (Ok c) = IsFound f on c
Finds (Err e) on (Err x) = x ≡ e
Finds _ on _ = ⊥
