-- Flat code of what stands in one node of the reader's tree: places, members, signs and operations.
use Rattle.std.specs.Prelude.{ℕ, ◌+◌, Bool, true, false, List, [], ◌∷◌, Option, Some, None}
use Rattle.os_kinds.specs.declared.expression.Operator.{Operator}
use Rattle.os_kinds.specs.declared.expression.Operator.TheVariants as op
use Rattle.os_kinds.specs.declared.expression.Sign.{Sign}
use Rattle.os_kinds.specs.declared.expression.Member.{Member}
use Rattle.os_kinds.specs.declared.expression.Operation.{Operation}
use Rattle.os_kinds.specs.declared.expression.Expression.TheFolds.{fold-Member, fold-Operation}
use Rattle.os_meaning.specs.Syntax as s
use Rattle.os_meaning.specs.Syntax.{Name, Exprs}
use Rattle.os_meaning.specs.Tree.{NodeOf, MemberOf, OperationOf, expr_step, place_step, global_step, member_step, operation_step}
use Rattle.os_code.specs.declared.instruction.Instruction.{Instruction}
use Rattle.os_code.specs.declared.instruction.Instruction.TheVariants as i
use Rattle.os_compile.specs.declared.receiver.Receiver.{Receiver}
use Rattle.os_compile.specs.declared.receiver.Receiver.TheVariants as r
use Rattle.os_code.specs.Coding.{Put, count, expr_size, drops, expr_code, args_code, subs_code}

abbrev pub member_of : Member → MemberOf
member_of = fold-Member s.Expr s.Place NodeOf MemberOf OperationOf expr_step place_step global_step member_step operation_step

abbrev pub operation_of : Operation → OperationOf
operation_of = fold-Operation s.Expr s.Place NodeOf MemberOf OperationOf expr_step place_step global_step member_step operation_step

-- ---- receivers

abbrev pub receiver : s.Expr → Receiver
receiver (s.Property object property) = r.Property property
receiver (s.OwnProperty property) = r.OwnProperty property
receiver other = r.Value

abbrev after_by : Name → Option Exprs → Receiver
after_by name None = r.Property name
after_by name (Some args) = r.Value

abbrev pub receiver_after : MemberOf → Receiver
receiver_after m = after_by m.name m.args

abbrev pub receiver_behind : Receiver → List MemberOf → Receiver
receiver_behind before [] = before
receiver_behind before (m ∷ ms) = receiver_behind (receiver_after m) ms

abbrev is_given : Option Exprs → Bool
is_given None = false
is_given (Some args) = true

abbrev pub is_method : MemberOf → Bool
is_method m = is_given m.args

-- whether a method stands behind these members' object, where it is said whether one stands behind them
abbrev pub method_first : List MemberOf → Bool → Bool
method_first [] method = method
method_first (m ∷ ms) method = is_method m

-- what is said, where there are no items
abbrev pub if_none : {X : Type 0} → List X → Bool → Bool
if_none [] method = method
if_none (x ∷ xs) method = false

module _ (line : ℕ) where
  -- ---- places: the subscripts, and then what is asked

  abbrev pub place_code : s.Place → Put
  place_code (s.Local x) rest = rest
  place_code (s.Global g subs) rest = subs_code line 0 subs rest

  abbrev pub read_code : s.Place → Put
  read_code (s.Local x) rest = i.Load x line ∷ rest
  read_code (s.Global g subs) rest = i.Get g (count subs) line ∷ drops (count subs) rest

  abbrev pub get_code : s.Place → Put
  get_code (s.Local x) rest = i.LoadOrEmpty x ∷ rest
  get_code (s.Global g subs) rest = i.GetOrEmpty g (count subs) line ∷ drops (count subs) rest

  abbrev pub get_or_code : s.Place → Put
  get_or_code (s.Local x) rest = i.LoadOrJump x 1 ∷ i.DropUnder ∷ rest
  get_or_code (s.Global g subs) rest = i.GetOrSkip g (count subs) line ∷ i.DropUnder ∷ drops (count subs) rest

  abbrev pub defined_code : s.Place → Put
  defined_code (s.Local x) rest = i.IsSet x ∷ rest
  defined_code (s.Global g subs) rest = i.Defined g (count subs) line ∷ drops (count subs) rest

  abbrev pub increment_code : s.Place → Put
  increment_code (s.Local x) rest = i.Increment x line ∷ rest
  increment_code (s.Global g subs) rest = i.Incr g (count subs) line ∷ drops (count subs) rest

  abbrev pub increment_by_code : s.Place → Put
  increment_by_code (s.Local x) rest = i.IncrementBy x line ∷ i.DropUnder ∷ rest
  increment_by_code (s.Global g subs) rest = i.IncrBy g (count subs) line ∷ i.DropUnder ∷ drops (count subs) rest

  -- ---- members

  abbrev pub read_by : Bool → Name → Instruction
  read_by false property = i.Read property line
  read_by true property = i.ReadSubject property line

  abbrev pub read_own_by : Bool → Name → Instruction
  read_own_by false property = i.ReadOwn property line
  read_own_by true property = i.ReadOwnSubject property line

  -- an expression, where it is said whether a method of it follows
  abbrev pub code_before : Bool → s.Expr → Put
  code_before method (s.Property object property) rest = expr_code line object (read_by method property ∷ i.DropUnder ∷ rest)
  code_before method (s.OwnProperty property) rest = read_own_by method property ∷ rest
  code_before method other rest = expr_code line other rest

  abbrev pub call_by : Receiver → Name → ℕ → Instruction
  call_by (r.Property property) name k = i.CallSubject property name k line
  call_by (r.OwnProperty property) name k = i.CallOwnSubject property name k line
  call_by r.Value name k = i.CallMember name k line

  abbrev given_code : Receiver → Bool → Name → Option Exprs → Put
  given_code before method name None rest = read_by method name ∷ i.DropUnder ∷ rest
  given_code before method name (Some args) rest = args_code line args (call_by before name (count args) ∷ drops (count args) (i.DropUnder ∷ rest))

  -- a member of what has been evaluated
  abbrev pub member_code : Receiver → Bool → MemberOf → Put
  member_code before method m rest = given_code before method m.name m.args rest

  abbrev pub members_code : Receiver → Bool → List MemberOf → Put
  members_code before method [] rest = rest
  members_code before method (m ∷ ms) rest = member_code before (method_first ms method) m (members_code (receiver_after m) method ms rest)

  -- ---- signs and operations

  abbrev pub signs_code : List Sign → Put
  signs_code [] rest = rest
  signs_code (sign ∷ signs) rest = signs_code signs (i.Sign sign line ∷ i.DropUnder ∷ rest)

  abbrev pub operation_code : Operator → s.Expr → Put
  operation_code op.AndThen e rest = i.SkipUnless (expr_size e + 3) line ∷ expr_code line e (i.Truth line ∷ i.DropUnder ∷ i.Go 1 ∷ i.PushTruth false ∷ i.DropUnder ∷ rest)
  operation_code op.OrElse e rest = i.SkipWhere (expr_size e + 3) line ∷ expr_code line e (i.Truth line ∷ i.DropUnder ∷ i.Go 1 ∷ i.PushTruth true ∷ i.DropUnder ∷ rest)
  operation_code other e rest = expr_code line e (i.Operate other line ∷ i.DropUnder ∷ i.DropUnder ∷ rest)

  abbrev pub operations_code : List OperationOf → Put
  operations_code [] rest = rest
  operations_code (o ∷ more) rest = operation_code o.operator o.right (operations_code more rest)
