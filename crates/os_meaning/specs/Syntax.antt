-- The syntax of scripts: what the trees of the reader say, each list of signs, members and operations as one node in another.
use Rattle.std.specs.Prelude.{ℕ, List, Option}
use Rattle.obj_kinds.specs.declared.name.ClassName.{ClassName}
use Rattle.obj_kinds.specs.declared.op.Mode.{Mode}
use Rattle.os_kinds.specs.declared.call.Special.{Special}
use Rattle.os_kinds.specs.declared.expression.Sign.{Sign}
use Rattle.os_kinds.specs.declared.expression.Operator.{Operator}
use Rattle.os_kinds.specs.declared.expression.Function.{Function}
use Rattle.os_kinds.specs.declared.command.LockAction.{LockAction}

abbrev pub Name : Type 0
Name = List ℕ

mutual
  pub data Expr : Type 0 where
    Literal : List ℕ → Expr
    -- the value of a variable, of a node, of a special variable, and the object whose method runs
    Read : Place → Expr
    Kept : Special → Expr
    This : Expr
    Apply : Function → Exprs → Expr
    -- `$GET` without and with what is answered where there is no value
    Get : Place → Expr
    GetOr : Place → Expr → Expr
    Defined : Place → Expr
    -- `$ORDER` of a global, its subscripts down to the one behind which the next is sought
    Order : Name → Exprs → Expr
    -- `$INCREMENT` by 1, and by a number
    Increment : Place → Expr
    IncrementBy : Place → Expr → Expr
    -- a class method
    OnClass : ClassName → Name → Exprs → Expr
    -- a property and a method of the object whose method runs, and a method of such a property
    OwnProperty : Name → Expr
    OwnMethod : Name → Exprs → Expr
    OwnPropertyMethod : Name → Name → Exprs → Expr
    -- those of another object: a method of a property is one of its value, or one of the collection that it is
    Property : Expr → Name → Expr
    Method : Expr → Name → Exprs → Expr
    PropertyMethod : Expr → Name → Name → Exprs → Expr
    Signed : Sign → Expr → Expr
    -- both operands are evaluated; the next two may leave out the right one
    Binary : Operator → Expr → Expr → Expr
    AndThen : Expr → Expr → Expr
    OrElse : Expr → Expr → Expr

  -- a variable, or a node of a global
  pub data Place : Type 0 where
    Local : Name → Place
    Global : Name → Exprs → Place

  pub data Exprs : Type 0 where
    NoMore : Exprs
    More : Expr → Exprs → Exprs

pub data Target : Type 0 where
  OfPlace : Place → Target
  OfOwn : Name → Target
  OfProperty : Expr → Name → Target

pub record Assignment : Type 0 where
  pub target : Target
  pub value : Expr

-- one name of a LOCK
pub record Claim : Type 0 where
  pub action : LockAction
  pub global : Name
  pub subs : Exprs
  pub mode : Mode
  pub timeout : Option Expr

pub data Action : Type 0 where
  Set : List Assignment → Action
  -- an output without expression is `!`
  Write : List (Option Expr) → Action
  Do : List Expr → Action
  Kill : List Place → Action
  KillAll : Action
  Lock : List Claim → Action
  UnlockAll : Action
  TStart : Action
  TCommit : Action
  TRollback : Action
  TRollbackOne : Action
  Quit : Action
  QuitWith : Expr → Action
  Halt : Action

mutual
  pub data Command : Type 0 where
    -- the line of its word, its postcondition, and what it does
    Plain : ℕ → Option Expr → Action → Command
    If : Branches → Command
    While : ℕ → List Expr → Block → Command
    -- FOR without argument
    Loop : ℕ → Block → Command
    -- FOR of a variable from a first number by a step, up to or down to a last one
    For : ℕ → Name → Expr → Expr → Option Expr → Block → Command

  pub data Block : Type 0 where
    Empty : Block
    Then : Command → Block → Block

  -- what stands behind the conditions before it: nothing, the block of ELSE, or conditions with their block
  pub data Branches : Type 0 where
    Else : Block → Branches
    Branch : ℕ → List Expr → Block → Branches → Branches
