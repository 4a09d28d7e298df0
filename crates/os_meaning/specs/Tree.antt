-- The syntax that a tree of the reader stands for.
use Rattle.std.specs.Prelude.{ℕ, List, [], ◌∷◌, map, Option, Some, None}
use Rattle.std.specs.Option.{option_map}
use Rattle.os_kinds.specs.declared.expression.Operator.{Operator}
use Rattle.os_kinds.specs.declared.expression.Sign.{Sign}
use Rattle.os_kinds.specs.declared.expression.Operator.TheVariants as op
use Rattle.os_kinds.specs.declared.expression.Expression.{Expression}
use Rattle.os_kinds.specs.declared.expression.GlobalReference.{GlobalReference}
use Rattle.os_kinds.specs.declared.expression.Place.{Place}
use Rattle.os_kinds.specs.declared.expression.Expression.TheOpen.{Expression-F, GlobalReference-F, Place-F, Member-F, Operation-F}
use Rattle.os_kinds.specs.declared.expression.Expression.TheFolds.{fold-Expression, fold-GlobalReference, fold-Place}
use Rattle.os_kinds.specs.declared.command.Target.{Target}
use Rattle.os_kinds.specs.declared.command.Target.TheVariants as target
use Rattle.os_kinds.specs.declared.command.Assignment.{Assignment}
use Rattle.os_kinds.specs.declared.command.Output.{Output}
use Rattle.os_kinds.specs.declared.command.Output.TheVariants as output
use Rattle.os_kinds.specs.declared.command.Claim.{Claim}
use Rattle.os_kinds.specs.declared.command.Action.{Action}
use Rattle.os_kinds.specs.declared.command.Action.TheVariants as action
use Rattle.os_kinds.specs.declared.command.Counting.{Counting}
use Rattle.os_kinds.specs.declared.command.Command.{Command}
use Rattle.os_kinds.specs.declared.command.Command.TheOpen.{Command-F, Branch-F}
use Rattle.os_kinds.specs.declared.command.Command.TheFolds.{fold-Command}
use Rattle.os_meaning.specs.Syntax as s
use Rattle.os_meaning.specs.Syntax.{Name, Exprs, Block, Branches}

abbrev pub exprs : List s.Expr → Exprs
exprs [] = s.NoMore
exprs (e ∷ es) = s.More e (exprs es)

-- a node of a global
pub record NodeOf : Type 0 where
  pub global : Name
  pub subs : Exprs

-- a member, behind an object or of the object whose method runs
pub record MemberOf : Type 0 where
  pub name : Name
  pub args : Option Exprs

-- a method of a property, or of what else stands before it
abbrev pub method_by : s.Expr → Name → Exprs → s.Expr
method_by (s.Property object property) name args = s.PropertyMethod object property name args
method_by (s.OwnProperty property) name args = s.OwnPropertyMethod property name args
method_by object name args = s.Method object name args

abbrev pub member_by : s.Expr → Name → Option Exprs → s.Expr
member_by object name None = s.Property object name
member_by object name (Some args) = method_by object name args

abbrev pub own_by : Name → Option Exprs → s.Expr
own_by name None = s.OwnProperty name
own_by name (Some args) = s.OwnMethod name args

-- each member is one of what stands before it
abbrev pub members : s.Expr → List MemberOf → s.Expr
members object [] = object
members object (m ∷ ms) = members (member_by object m.name m.args) ms

-- the last sign is applied first
abbrev pub signed : List Sign → s.Expr → s.Expr
signed [] e = e
signed (sign ∷ signs) e = s.Signed sign (signed signs e)

pub record OperationOf : Type 0 where
  pub operator : Operator
  pub right : s.Expr

abbrev pub operation : Operator → s.Expr → s.Expr → s.Expr
operation op.AndThen left right = s.AndThen left right
operation op.OrElse left right = s.OrElse left right
operation other left right = s.Binary other left right

-- operators go from left to right, without ranks
abbrev pub operations : s.Expr → List OperationOf → s.Expr
operations left [] = left
operations left (o ∷ more) = operations (operation o.operator left o.right) more

abbrev pub get_by : s.Place → Option s.Expr → s.Expr
get_by place None = s.Get place
get_by place (Some otherwise) = s.GetOr place otherwise

abbrev pub increment_by : s.Place → Option s.Expr → s.Expr
increment_by place None = s.Increment place
increment_by place (Some step) = s.IncrementBy place step

abbrev pub global_step : GlobalReference-F s.Expr s.Place NodeOf MemberOf OperationOf → NodeOf
global_step g = record { global = g.name; subs = exprs g.subs }

abbrev pub place_step : Place-F s.Expr s.Place NodeOf MemberOf OperationOf → s.Place
place_step (Place-F.Variable x) = s.Local x
place_step (Place-F.Global g) = s.Global g.global g.subs

abbrev pub member_step : Member-F s.Expr s.Place NodeOf MemberOf OperationOf → MemberOf
member_step m = record { name = m.name; args = option_map exprs m.args }

abbrev pub operation_step : Operation-F s.Expr s.Place NodeOf MemberOf OperationOf → OperationOf
operation_step o = record { operator = o.operator; right = o.right }

abbrev pub expr_step : Expression-F s.Expr s.Place NodeOf MemberOf OperationOf → s.Expr
expr_step (Expression-F.Literal t) = s.Literal t
expr_step (Expression-F.Value place) = s.Read place
expr_step (Expression-F.Special special) = s.Kept special
expr_step Expression-F.This = s.This
expr_step (Expression-F.Function f args) = s.Apply f (exprs args)
expr_step (Expression-F.Get place otherwise) = get_by place otherwise
expr_step (Expression-F.Data place) = s.Defined place
expr_step (Expression-F.Order g) = s.Order g.global g.subs
expr_step (Expression-F.Increment place step) = increment_by place step
expr_step (Expression-F.ClassCall class member args) = s.OnClass class member (exprs args)
expr_step (Expression-F.Own m) = own_by m.name m.args
expr_step (Expression-F.Members object ms) = members object ms
expr_step (Expression-F.Signed signs e) = signed signs e
expr_step (Expression-F.Operations left list) = operations left list

abbrev pub expr_of : Expression → s.Expr
expr_of = fold-Expression s.Expr s.Place NodeOf MemberOf OperationOf expr_step place_step global_step member_step operation_step

abbrev pub place_of : Place → s.Place
place_of = fold-Place s.Expr s.Place NodeOf MemberOf OperationOf expr_step place_step global_step member_step operation_step

abbrev pub node_of : GlobalReference → NodeOf
node_of = fold-GlobalReference s.Expr s.Place NodeOf MemberOf OperationOf expr_step place_step global_step member_step operation_step

abbrev pub target_of : Target → s.Target
target_of (target.Place place) = s.OfPlace (place_of place)
target_of (target.OwnProperty name) = s.OfOwn name
target_of (target.Property object name) = s.OfProperty (expr_of object) name

abbrev pub assignment_of : Assignment → s.Assignment
assignment_of a = record { target = target_of a.target; value = expr_of a.value }

abbrev pub output_of : Output → Option s.Expr
output_of (output.Value e) = Some (expr_of e)
output_of output.NewLine = None

abbrev pub claim_of : Claim → s.Claim
claim_of c = let g = node_of c.global in record { action = c.action; global = g.global; subs = g.subs; mode = c.mode; timeout = option_map expr_of c.timeout }

abbrev pub quit_by : Option s.Expr → s.Action
quit_by None = s.Quit
quit_by (Some e) = s.QuitWith e

abbrev pub action_of : Action → s.Action
action_of (action.Set list) = s.Set (map assignment_of list)
action_of (action.Write list) = s.Write (map output_of list)
action_of (action.Do list) = s.Do (map expr_of list)
action_of (action.Quit value) = quit_by (option_map expr_of value)
action_of (action.Kill list) = s.Kill (map place_of list)
action_of action.KillAll = s.KillAll
action_of (action.Lock list) = s.Lock (map claim_of list)
action_of action.UnlockAll = s.UnlockAll
action_of action.TStart = s.TStart
action_of action.TCommit = s.TCommit
action_of action.TRollback = s.TRollback
action_of action.TRollbackOne = s.TRollbackOne
action_of action.Halt = s.Halt

abbrev pub block : List s.Command → Block
block [] = s.Empty
block (c ∷ cs) = s.Then c (block cs)

abbrev pub block_or_none : Option (List s.Command) → Block
block_or_none None = s.Empty
block_or_none (Some cs) = block cs

-- a branch, where the others follow
abbrev pub Cased : Type 0
Cased = Branches → Branches

abbrev pub branches : List Cased → Block → Branches
branches [] otherwise = s.Else otherwise
branches (b ∷ bs) otherwise = b (branches bs otherwise)

abbrev pub branch_step : Branch-F s.Command Cased → Cased
branch_step b = s.Branch b.line (map expr_of b.conditions) (block b.block)

-- FOR without argument, or of a variable
abbrev pub for_by : List s.Command → Option Counting → ℕ → s.Command
for_by body None line = s.Loop line (block body)
for_by body (Some c) line = s.For line c.variable (expr_of c.first) (expr_of c.step) (option_map expr_of c.last) (block body)

abbrev pub command_step : Command-F s.Command Cased → s.Command
command_step (Command-F.Plain line post a) = s.Plain line (option_map expr_of post) (action_of a)
command_step (Command-F.If list otherwise) = s.If (branches list (block_or_none otherwise))
command_step (Command-F.For line counting body) = for_by body counting line
command_step (Command-F.While line cs body) = s.While line (map expr_of cs) (block body)

abbrev pub command_of : Command → s.Command
command_of = fold-Command s.Command Cased command_step branch_step

-- what a script, a method's body or a block says
abbrev pub script_of : List Command → Block
script_of cs = block (map command_of cs)
