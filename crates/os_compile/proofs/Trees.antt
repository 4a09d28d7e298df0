-- What the trees of the reader say, constructor by constructor.
use Rattle.std.proofs.Common.{◌≡◌, ℕ, suc, List, [], ◌∷◌, ◌++◌, map, length, Option, Some, None, refl, sym, ap, ◌∙◌}
use Rattle.std.specs.Option.{option_map}
use Rattle.obj_kinds.specs.declared.name.ClassName.{ClassName}
use Rattle.os_kinds.specs.declared.call.Special.{Special}
use Rattle.os_kinds.specs.declared.expression.Function.{Function}
use Rattle.os_kinds.specs.declared.expression.Operator.{Operator}
use Rattle.os_kinds.specs.declared.expression.Sign.{Sign}
use Rattle.os_kinds.specs.declared.expression.Member.{Member}
use Rattle.os_kinds.specs.declared.expression.Operation.{Operation}
use Rattle.os_kinds.specs.declared.expression.GlobalReference.{GlobalReference}
use Rattle.os_kinds.specs.declared.expression.Place.{Place}
use Rattle.os_kinds.specs.declared.expression.Place.TheVariants as p
use Rattle.os_kinds.specs.declared.expression.Place.TheVariants.{rolls-Variable, rolls-Global}
use Rattle.os_kinds.specs.declared.expression.Expression.{Expression}
use Rattle.os_kinds.specs.declared.expression.Expression.TheVariants as e
use Rattle.os_kinds.specs.declared.expression.Expression.TheVariants.{rolls-Literal, rolls-Value, rolls-Special, rolls-This, rolls-Function, rolls-Get, rolls-Data, rolls-Order, rolls-Increment, rolls-ClassCall, rolls-Own, rolls-Members, rolls-Signed, rolls-Operations}
use Rattle.os_kinds.specs.declared.expression.Expression.TheViews.{rolls-struct-Member, rolls-struct-GlobalReference, rolls-struct-Operation}
use Rattle.os_kinds.specs.declared.expression.Expression.TheOpen.{Expression-F, Place-F, GlobalReference-F, Member-F, Operation-F}
use Rattle.os_kinds.specs.declared.expression.Expression.TheFolds.{fold-roll-Expression, fold-roll-Place, fold-roll-GlobalReference, fold-roll-Member, fold-roll-Operation}
use Rattle.os_meaning.specs.Syntax as s
use Rattle.os_meaning.specs.Syntax.{Name, Exprs}
use Rattle.os_meaning.specs.Tree.{NodeOf, MemberOf, OperationOf, exprs, get_by, increment_by, own_by, members, signed, operations, expr_of, place_of, node_of, expr_step, place_step, global_step, member_step, operation_step}
use Rattle.os_code.specs.Coding.{count}
use Rattle.os_compile.specs.Chains.{member_of, operation_of}

pub count_is : (es : List Expression) → count (exprs (map expr_of es)) ≡ length es
count_is [] = refl
count_is (x ∷ es) = ap suc (count_is es)

pub literal_is : (t : List ℕ) → expr_of (e.Literal t) ≡ s.Literal t
literal_is t = ap expr_of (sym (rolls-Literal t)) ∙ fold-roll-Expression s.Expr s.Place NodeOf MemberOf OperationOf expr_step place_step global_step member_step operation_step (Expression-F.Literal t)

pub value_is : (place : Place) → expr_of (e.Value place) ≡ s.Read (place_of place)
value_is place = ap expr_of (sym (rolls-Value place)) ∙ fold-roll-Expression s.Expr s.Place NodeOf MemberOf OperationOf expr_step place_step global_step member_step operation_step (Expression-F.Value place)

pub special_is : (special : Special) → expr_of (e.Special special) ≡ s.Kept special
special_is special = ap expr_of (sym (rolls-Special special)) ∙ fold-roll-Expression s.Expr s.Place NodeOf MemberOf OperationOf expr_step place_step global_step member_step operation_step (Expression-F.Special special)

pub this_is : expr_of e.This ≡ s.This
this_is = ap expr_of (sym rolls-This) ∙ fold-roll-Expression s.Expr s.Place NodeOf MemberOf OperationOf expr_step place_step global_step member_step operation_step Expression-F.This

pub function_is : (f : Function) (args : List Expression) → expr_of (e.Function f args) ≡ s.Apply f (exprs (map expr_of args))
function_is f args = ap expr_of (sym (rolls-Function f args)) ∙ fold-roll-Expression s.Expr s.Place NodeOf MemberOf OperationOf expr_step place_step global_step member_step operation_step (Expression-F.Function f args)

pub get_is : (place : Place) (otherwise : Option Expression) → expr_of (e.Get place otherwise) ≡ get_by (place_of place) (option_map expr_of otherwise)
get_is place None = ap expr_of (sym (rolls-Get place None)) ∙ fold-roll-Expression s.Expr s.Place NodeOf MemberOf OperationOf expr_step place_step global_step member_step operation_step (Expression-F.Get place None)
get_is place (Some o) = ap expr_of (sym (rolls-Get place (Some o))) ∙ fold-roll-Expression s.Expr s.Place NodeOf MemberOf OperationOf expr_step place_step global_step member_step operation_step (Expression-F.Get place (Some o))

pub data_is : (place : Place) → expr_of (e.Data place) ≡ s.Defined (place_of place)
data_is place = ap expr_of (sym (rolls-Data place)) ∙ fold-roll-Expression s.Expr s.Place NodeOf MemberOf OperationOf expr_step place_step global_step member_step operation_step (Expression-F.Data place)

pub order_is : (g : GlobalReference) → expr_of (e.Order g) ≡ s.Order (node_of g).global (node_of g).subs
order_is g = ap expr_of (sym (rolls-Order g)) ∙ fold-roll-Expression s.Expr s.Place NodeOf MemberOf OperationOf expr_step place_step global_step member_step operation_step (Expression-F.Order g)

pub increment_is : (place : Place) (step : Option Expression) → expr_of (e.Increment place step) ≡ increment_by (place_of place) (option_map expr_of step)
increment_is place None = ap expr_of (sym (rolls-Increment place None)) ∙ fold-roll-Expression s.Expr s.Place NodeOf MemberOf OperationOf expr_step place_step global_step member_step operation_step (Expression-F.Increment place None)
increment_is place (Some o) = ap expr_of (sym (rolls-Increment place (Some o))) ∙ fold-roll-Expression s.Expr s.Place NodeOf MemberOf OperationOf expr_step place_step global_step member_step operation_step (Expression-F.Increment place (Some o))

pub class_call_is : (class : ClassName) (member : List ℕ) (args : List Expression) → expr_of (e.ClassCall class member args) ≡ s.OnClass class member (exprs (map expr_of args))
class_call_is class member args = ap expr_of (sym (rolls-ClassCall class member args)) ∙ fold-roll-Expression s.Expr s.Place NodeOf MemberOf OperationOf expr_step place_step global_step member_step operation_step (Expression-F.ClassCall class member args)

pub own_is : (m : Member) → expr_of (e.Own m) ≡ own_by (member_of m).name (member_of m).args
own_is m = ap expr_of (sym (rolls-Own m)) ∙ fold-roll-Expression s.Expr s.Place NodeOf MemberOf OperationOf expr_step place_step global_step member_step operation_step (Expression-F.Own m)

pub members_is : (object : Expression) (ms : List Member) → expr_of (e.Members object ms) ≡ members (expr_of object) (map member_of ms)
members_is object ms = ap expr_of (sym (rolls-Members object ms)) ∙ fold-roll-Expression s.Expr s.Place NodeOf MemberOf OperationOf expr_step place_step global_step member_step operation_step (Expression-F.Members object ms)

pub signed_is : (signs : List Sign) (operand : Expression) → expr_of (e.Signed signs operand) ≡ signed signs (expr_of operand)
signed_is signs operand = ap expr_of (sym (rolls-Signed signs operand)) ∙ fold-roll-Expression s.Expr s.Place NodeOf MemberOf OperationOf expr_step place_step global_step member_step operation_step (Expression-F.Signed signs operand)

pub operations_is : (left : Expression) (list : List Operation) → expr_of (e.Operations left list) ≡ operations (expr_of left) (map operation_of list)
operations_is left list = ap expr_of (sym (rolls-Operations left list)) ∙ fold-roll-Expression s.Expr s.Place NodeOf MemberOf OperationOf expr_step place_step global_step member_step operation_step (Expression-F.Operations left list)

-- ---- parts

pub variable_is : (x : List ℕ) → place_of (p.Variable x) ≡ s.Local x
variable_is x = ap place_of (sym (rolls-Variable x)) ∙ fold-roll-Place s.Expr s.Place NodeOf MemberOf OperationOf expr_step place_step global_step member_step operation_step (Place-F.Variable x)

pub global_is : (g : GlobalReference) → place_of (p.Global g) ≡ s.Global (node_of g).global (node_of g).subs
global_is g = ap place_of (sym (rolls-Global g)) ∙ fold-roll-Place s.Expr s.Place NodeOf MemberOf OperationOf expr_step place_step global_step member_step operation_step (Place-F.Global g)

pub node_is : (g : GlobalReference) → node_of g ≡ record { global = g.name; subs = exprs (map expr_of g.subs) }
node_is g =
    let layer : GlobalReference-F Expression Place GlobalReference Member Operation = record { name = g.name; subs = g.subs } in
    ap node_of (sym (rolls-struct-GlobalReference layer)) ∙ fold-roll-GlobalReference s.Expr s.Place NodeOf MemberOf OperationOf expr_step place_step global_step member_step operation_step layer

given_is : (name : List ℕ) (args : Option (List Expression)) → let m : Member = record { name = name; args = args } in member_of m ≡ record { name = name; args = option_map exprs (option_map (map expr_of) args) }
given_is name None =
    let layer : Member-F Expression Place GlobalReference Member Operation = record { name = name; args = None } in
    ap member_of (sym (rolls-struct-Member layer)) ∙ fold-roll-Member s.Expr s.Place NodeOf MemberOf OperationOf expr_step place_step global_step member_step operation_step layer
given_is name (Some args) =
    let layer : Member-F Expression Place GlobalReference Member Operation = record { name = name; args = Some args } in
    ap member_of (sym (rolls-struct-Member layer)) ∙ fold-roll-Member s.Expr s.Place NodeOf MemberOf OperationOf expr_step place_step global_step member_step operation_step layer

pub member_is : (m : Member) → member_of m ≡ record { name = m.name; args = option_map exprs (option_map (map expr_of) m.args) }
member_is m = given_is m.name m.args

pub operation_is : (o : Operation) → operation_of o ≡ record { operator = o.operator; right = expr_of o.right }
operation_is o =
    let layer : Operation-F Expression Place GlobalReference Member Operation = record { operator = o.operator; right = o.right } in
    ap operation_of (sym (rolls-struct-Operation layer)) ∙ fold-roll-Operation s.Expr s.Place NodeOf MemberOf OperationOf expr_step place_step global_step member_step operation_step layer
