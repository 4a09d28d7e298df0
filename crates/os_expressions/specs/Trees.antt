-- The trees that phrases of scripts say.
use Rattle.std.specs.Prelude.{ℕ, Bool, true, false, Option, Some, None, List, [], ◌∷◌, ◌++◌}
use Rattle.obj_kinds.specs.declared.name.ClassName.{ClassName}
use Rattle.obj_kinds.specs.declared.op.Mode.{Mode}
use Rattle.obj_kinds.specs.declared.op.Mode.TheVariants as mode
use Rattle.text_reading.specs.Tokens.{Bytes}
use Rattle.text_reading.specs.Places.{Placed}
use Rattle.script_tokens.specs.declared.token.Kind.{Kind}
use Rattle.script_tokens.specs.declared.token.Kind.TheVariants as k
use Rattle.os_kinds.specs.declared.call.Special.TheVariants as special
use Rattle.os_kinds.specs.declared.expression.Sign.{Sign}
use Rattle.os_kinds.specs.declared.expression.Sign.TheVariants as sign
use Rattle.os_kinds.specs.declared.expression.Operator.{Operator}
use Rattle.os_kinds.specs.declared.expression.Operator.TheVariants as op
use Rattle.os_kinds.specs.declared.expression.Function.{Function}
use Rattle.os_kinds.specs.declared.expression.Function.TheVariants as f
use Rattle.os_kinds.specs.declared.expression.GlobalReference.{GlobalReference}
use Rattle.os_kinds.specs.declared.expression.Place.{Place}
use Rattle.os_kinds.specs.declared.expression.Member.{Member}
use Rattle.os_kinds.specs.declared.expression.Operation.{Operation}
use Rattle.os_kinds.specs.declared.expression.Expression.{Expression}
use Rattle.os_kinds.specs.declared.expression.Expression.TheVariants as e
use Rattle.os_kinds.specs.declared.command.Target.{Target}
use Rattle.os_kinds.specs.declared.command.Target.TheVariants as target
use Rattle.os_kinds.specs.declared.command.LockAction.{LockAction}
use Rattle.os_kinds.specs.declared.command.Claim.{Claim}
use Rattle.os_kinds.specs.declared.command.Assignment.{Assignment}
use Rattle.os_kinds.specs.declared.command.Counting.{Counting}
use Rattle.os_kinds.specs.declared.command.Branch.{Branch}
use Rattle.os_kinds.specs.declared.command.Command.{Command}
use Rattle.os_expressions.specs.declared.given.Spot.{Spot}
use Rattle.os_expressions.specs.declared.given.Calling.{Calling}
use Rattle.os_expressions.specs.declared.given.Ground.{Ground}
use Rattle.os_expressions.specs.declared.given.Looked.{Looked}
use Rattle.os_expressions.specs.declared.given.Path.{Path}
use Rattle.os_expressions.specs.declared.given.Callee.{Callee}

-- ---- what phrases are given

-- an expression that may begin with any token
abbrev pub plain : ℕ → Spot
plain d = record { depth = d; barred = false }

abbrev pub calling : ℕ → ℕ → Option ℕ → Calling
calling d fewest most = record { depth = d; fewest = fewest; most = most }

-- any number of arguments
abbrev pub free_args : ℕ → Calling
free_args d = calling d 0 None

-- a text and where a command stands in it
pub record Site : Type 0 where
  pub text : Placed
  pub ground : Ground

abbrev pub ground : ℕ → Bool → Ground
ground d in_loop = record { depth = d; in_loop = in_loop }

abbrev pub site : Placed → Ground → Site
site text g = record { text = text; ground = g }

-- ---- what kinds of token say

abbrev pub sign_of : Kind → Sign
sign_of k.Plus = sign.Plus
sign_of k.Minus = sign.Minus
sign_of _ = sign.Not

abbrev pub operator_of : Kind → Operator
operator_of k.Add = op.Add
operator_of k.Subtract = op.Subtract
operator_of k.Multiply = op.Multiply
operator_of k.Quotient = op.Quotient
operator_of k.Modulo = op.Modulo
operator_of k.Join = op.Join
operator_of k.Less = op.Less
operator_of k.Greater = op.Greater
operator_of k.AtMost = op.AtMost
operator_of k.AtLeast = op.AtLeast
operator_of k.Contains = op.Contains
operator_of k.Follows = op.Follows
operator_of k.And = op.And
operator_of k.Or = op.Or
operator_of k.NotEqual = op.NotEqual
operator_of k.NotLess = op.NotLess
operator_of k.NotGreater = op.NotGreater
operator_of k.NotContains = op.NotContains
operator_of k.NotFollows = op.NotFollows
operator_of k.AndThen = op.AndThen
operator_of k.OrElse = op.OrElse
operator_of _ = op.Equal

abbrev pub special_of : Kind → Expression
special_of k.Test = e.Special special.Test
special_of k.Level = e.Special special.Level
special_of k.LastError = e.Special special.LastError
special_of _ = e.This

abbrev pub function_of : Kind → Function
function_of k.Length = f.Length
function_of k.Extract = f.Extract
function_of k.Piece = f.Piece
function_of k.Find = f.Find
function_of k.Ascii = f.Ascii
function_of k.Char = f.Char
function_of k.ListBuild = f.ListBuild
function_of k.List = f.List
function_of _ = f.ListLength

-- how many arguments a function has
abbrev pub fewest_of : Function → ℕ
fewest_of f.Piece = 2
fewest_of f.Find = 2
fewest_of _ = 1

abbrev pub most_of : Function → ℕ
most_of f.Length = 2
most_of f.Extract = 3
most_of f.Piece = 4
most_of f.Find = 3
most_of f.Ascii = 2
most_of f.Char = 16
most_of f.ListBuild = 200
most_of f.List = 2
most_of f.ListLength = 1

abbrev pub counted : ℕ → Function → Calling
counted d f = calling d (fewest_of f) (Some (most_of f))

-- ---- expressions

abbrev pub global_of : Bytes → List Expression → GlobalReference
global_of name subs = record { name = name; subs = subs }

abbrev pub class_of : Bytes → ClassName
class_of name = record { 0 = name }

abbrev pub member_of : Bytes → Option (List Expression) → Member
member_of name args = record { name = name; args = args }

abbrev pub operation_of : Operator → Expression → Operation
operation_of o x = record { operator = o; right = x }

abbrev pub looked_of : Place → Option Expression → Looked
looked_of p second = record { place = p; second = second }

abbrev pub looked_as : Kind → Looked → Expression
looked_as k.Get l = e.Get l.place l.second
looked_as k.Increment l = e.Increment l.place l.second
looked_as _ l = e.Data l.place

unfoldable pub with_members : Expression → List Member → Expression
with_members x [] = x
with_members x (m ∷ ms) = e.Members x (m ∷ ms)

unfoldable pub with_signs : List Sign → Expression → Expression
with_signs [] x = x
with_signs (s ∷ ss) x = e.Signed (s ∷ ss) x

unfoldable pub with_operations : Expression → List Operation → Expression
with_operations x [] = x
with_operations x (o ∷ os) = e.Operations x (o ∷ os)

abbrev pub operand_of : List Sign → Expression → List Member → Expression
operand_of signs x ms = with_signs signs (with_members x ms)

-- what is called, up to its last member
abbrev pub callee_of : Expression → List Member → Callee
callee_of x ms = record { object = x; members = ms }

-- ---- targets

abbrev pub path : List Member → Bytes → Path
path ms name = record { members = ms; name = name }

-- the path goes on with another name; the last one has these arguments, or none
abbrev pub path_on : Path → Option (List Expression) → Bytes → Path
path_on p args name = path (p.members ++ member_of p.name args ∷ []) name

abbrev pub target_of : List Sign → Expression → Path → Target
target_of signs x p = target.Property (operand_of signs x p.members) p.name

-- of the members behind `..` the first is the object's own
abbrev pub own_by : List Member → Bytes → Target
own_by [] name = target.OwnProperty name
own_by (m ∷ ms) name = target.Property (with_members (e.Own m) ms) name

unfoldable pub own_target_of : Path → Target
own_target_of p = own_by p.members p.name

-- ---- commands

abbrev pub assignment_of : Target → Expression → Assignment
assignment_of t x = record { target = t; value = x }

abbrev pub mode_of : Bool → Mode
mode_of true = mode.Shared
mode_of false = mode.Exclusive

abbrev pub claim_of : LockAction → GlobalReference → Bool → Option Expression → Claim
claim_of a g shared timeout = record { action = a; global = g; mode = mode_of shared; timeout = timeout }

abbrev pub counting_of : Bytes → Expression → Expression → Option Expression → Counting
counting_of name first step last = record { variable = name; first = first; step = step; last = last }

abbrev pub branch_of : ℕ → List Expression → List Command → Branch
branch_of line conditions block = record { line = line; conditions = conditions; block = block }
