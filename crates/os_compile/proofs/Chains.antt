-- Code of places, members, signs and operations is that of the expressions that they stand for.
use Rattle.std.proofs.Common.{◌≡◌, ℕ, ◌+◌, ◌<◌, take, get_or, Bool, true, false, List, [], ◌∷◌, ◌++◌, map, length, Option, Some, None, refl, sym, ap, ◌∙◌}
use Rattle.std.specs.Option.{option_map}
use Rattle.std.proofs.lemmas.List.{take_more}
use Rattle.os_kinds.specs.declared.expression.Operator.{Operator}
use Rattle.os_kinds.specs.declared.expression.Operator.TheVariants as op
use Rattle.os_kinds.specs.declared.expression.Sign.{Sign}
use Rattle.os_kinds.specs.declared.expression.Member.{Member}
use Rattle.os_kinds.specs.declared.expression.Operation.{Operation}
use Rattle.os_kinds.specs.declared.expression.Place.{Place}
use Rattle.os_kinds.specs.declared.expression.Expression.TheVariants as e
use Rattle.os_kinds.specs.declared.expression.Expression.{Expression}
use Rattle.os_meaning.specs.Syntax as s
use Rattle.os_meaning.specs.Syntax.{Name, Exprs}
use Rattle.os_meaning.specs.Tree.{MemberOf, OperationOf, expr_of, place_of, method_by, member_by, members, signed, operation, operations}
use Rattle.os_code.specs.declared.instruction.Instruction.{Instruction}
use Rattle.os_code.specs.declared.instruction.Instruction.TheVariants as i
use Rattle.os_compile.specs.declared.receiver.Receiver.{Receiver}
use Rattle.os_compile.specs.declared.receiver.Receiver.TheVariants as r
use Rattle.os_code.specs.Coding.{count, expr_size, drops, expr_code, args_code}
use Rattle.os_compile.proofs.Trees.{value_is, get_is, data_is, increment_is, members_is, signed_is, operations_is}
use Rattle.os_code.proofs.Lengths.{expr_longer}
use Rattle.os_compile.specs.Chains.{if_none, place_code, read_code, get_code, get_or_code, defined_code, increment_code, increment_by_code, member_of, operation_of, receiver, receiver_after, receiver_behind, is_method, method_first, read_by, code_before, call_by, member_code, members_code, signs_code, operation_code, operations_code}

-- ---- receivers

-- the receiver that a member is of anything
member_receiver : (o : s.Expr) (name : Name) (args : Option Exprs) → receiver (member_by o name args) ≡ receiver_after (record { name = name; args = args })
member_receiver o name None = refl
member_receiver (s.Property object property) name (Some args) = refl
member_receiver (s.OwnProperty property) name (Some args) = refl
member_receiver o name (Some args) = refl

pub receiver_members : (o : s.Expr) (ms : List MemberOf) → receiver (members o ms) ≡ receiver_behind (receiver o) ms
receiver_members o [] = refl
receiver_members o (m ∷ ms) = receiver_members (member_by o m.name m.args) ms ∙ ap (λ b. receiver_behind b ms) (member_receiver o m.name m.args)

pub behind_last : (b : Receiver) (ms : List Member) (m : Member) → receiver_behind b (map member_of (ms ++ m ∷ [])) ≡ receiver_after (member_of m)
behind_last b [] m = refl
behind_last b (x ∷ ms) m = behind_last (receiver_after (member_of x)) ms m

pub members_receiver : (o : Expression) (ms : List Member) → receiver (expr_of (e.Members o ms)) ≡ receiver_behind (receiver (expr_of o)) (map member_of ms)
members_receiver o ms = ap receiver (members_is o ms) ∙ receiver_members (expr_of o) (map member_of ms)

pub get_receiver : (p : Place) (o : Option Expression) → receiver (expr_of (e.Get p o)) ≡ r.Value
get_receiver p None = ap receiver (get_is p None)
get_receiver p (Some o) = ap receiver (get_is p (Some o))

pub increment_receiver : (p : Place) (o : Option Expression) → receiver (expr_of (e.Increment p o)) ≡ r.Value
increment_receiver p None = ap receiver (increment_is p None)
increment_receiver p (Some o) = ap receiver (increment_is p (Some o))

abbrev pub if_no : {X : Type 0} → List X → Receiver → Receiver
if_no [] b = b
if_no (x ∷ xs) b = r.Value

pub signed_receiver : (signs : List Sign) (o : Expression) → receiver (expr_of (e.Signed signs o)) ≡ if_no signs (receiver (expr_of o))
signed_receiver [] o = ap receiver (signed_is [] o)
signed_receiver (sign ∷ signs) o = ap receiver (signed_is (sign ∷ signs) o)

operation_receiver : (o : Operator) (left right : s.Expr) → receiver (operation o left right) ≡ r.Value
operation_receiver op.AndThen left right = refl
operation_receiver op.OrElse left right = refl
operation_receiver other left right = refl

more_receiver : (o : Operator) (left right : s.Expr) (more : List OperationOf) → receiver (operations (operation o left right) more) ≡ r.Value
more_receiver o left right [] = operation_receiver o left right
more_receiver o left right (p ∷ more) = more_receiver p.operator (operation o left right) p.right more

pub operations_receiver : (left : Expression) (list : List Operation) → receiver (expr_of (e.Operations left list)) ≡ if_no list (receiver (expr_of left))
operations_receiver left [] = ap receiver (operations_is left [])
operations_receiver left (o ∷ more) = ap receiver (operations_is left (o ∷ more)) ∙ more_receiver (operation_of o).operator (expr_of left) (operation_of o).right (map operation_of more)

-- ---- members

module _ (line : ℕ) where
  pub code_before_other : (a : s.Expr) (rest : List Instruction) → code_before line false a rest ≡ expr_code line a rest
  code_before_other (s.Property object property) rest = refl
  code_before_other (s.OwnProperty property) rest = refl
  code_before_other other rest = refl

  -- one member
  before_member : (method : Bool) (o : s.Expr) (name : Name) (args : Option Exprs) (rest : List Instruction) → let m : MemberOf = record { name = name; args = args } in code_before line method (member_by o name args) rest ≡ code_before line (is_method m) o (member_code line (receiver o) method m rest)
  before_member method o name None rest = sym (code_before_other o _)
  before_member method (s.Property object property) name (Some args) rest = refl
  before_member method (s.OwnProperty property) name (Some args) rest = refl
  before_member method o name (Some args) rest = refl

  pub before_members : (method : Bool) (o : s.Expr) (ms : List MemberOf) (rest : List Instruction) → code_before line method (members o ms) rest ≡ code_before line (method_first ms method) o (members_code line (receiver o) method ms rest)
  before_members method o [] rest = refl
  before_members method o (m ∷ ms) rest =
      before_members method (member_by o m.name m.args) ms rest
      ∙ ap (λ b. code_before line (method_first ms method) (member_by o m.name m.args) (members_code line b method ms rest)) (member_receiver o m.name m.args)
      ∙ before_member (method_first ms method) o m.name m.args _

  -- one more at the end
  pub members_last : (b : Receiver) (method : Bool) (ms : List Member) (m : Member) (rest : List Instruction) →
      members_code line b method (map member_of (ms ++ m ∷ [])) rest ≡ members_code line b (is_method (member_of m)) (map member_of ms) (member_code line (receiver_behind b (map member_of ms)) method (member_of m) rest)
  members_last b method [] m rest = refl
  members_last b method (x ∷ []) m rest = refl
  members_last b method (x ∷ y ∷ ms) m rest = ap (member_code line b (is_method (member_of y)) (member_of x)) (members_last (receiver_after (member_of x)) method (y ∷ ms) m rest)

  -- the member there, before those behind it
  pub member_step : (b before : Receiver) (next after : Bool) (ms : List Member) (at all : ℕ) (m : Member) (out : List Instruction) → at < length ms → all ≡ at + 1 → m ≡ get_or ms at m → before ≡ receiver_behind b (map member_of (take at ms)) → after ≡ is_method (member_of m) →
      members_code line b after (map member_of (take at ms)) (member_code line before next (member_of m) out) ≡ members_code line b next (map member_of (take all ms)) out
  member_step b before next after ms at all m out within more there behind given =
      sym (ap (λ k. members_code line b next (map member_of (take k ms)) out) more
      ∙ ap (λ l. members_code line b next (map member_of l) out) (take_more ms at m within ∙ ap (λ x. take at ms ++ x ∷ []) (sym there))
      ∙ members_last b next (take at ms) m out
      ∙ ap (λ r. members_code line b (is_method (member_of m)) (map member_of (take at ms)) (member_code line r next (member_of m) out)) (sym behind)
      ∙ ap (λ a. members_code line b a (map member_of (take at ms)) (member_code line before next (member_of m) out)) (sym given))

  pub members_before : (method : Bool) (o : Expression) (ms : List Member) (rest : List Instruction) → code_before line method (expr_of (e.Members o ms)) rest ≡ code_before line (method_first (map member_of ms) method) (expr_of o) (members_code line (receiver (expr_of o)) method (map member_of ms) rest)
  members_before method o ms rest = ap (λ k. code_before line method k rest) (members_is o ms) ∙ before_members method (expr_of o) (map member_of ms) rest

  -- ---- signs

  signed_code : (signs : List Sign) (a : s.Expr) (rest : List Instruction) → expr_code line (signed signs a) rest ≡ expr_code line a (signs_code line signs rest)
  signed_code [] a rest = refl
  signed_code (sign ∷ signs) a rest = signed_code signs a _

  before_signed : (method : Bool) (signs : List Sign) (a : s.Expr) (rest : List Instruction) → code_before line method (signed signs a) rest ≡ code_before line (if_none signs method) a (signs_code line signs rest)
  before_signed method [] a rest = refl
  before_signed method (sign ∷ signs) a rest = signed_code signs a _ ∙ sym (code_before_other a _)

  pub signed_before : (method : Bool) (signs : List Sign) (o : Expression) (rest : List Instruction) → code_before line method (expr_of (e.Signed signs o)) rest ≡ code_before line (if_none signs method) (expr_of o) (signs_code line signs rest)
  signed_before method signs o rest = ap (λ k. code_before line method k rest) (signed_is signs o) ∙ before_signed method signs (expr_of o) rest

  -- ---- operations

  one_operation : (o : Operator) (left right : s.Expr) (rest : List Instruction) → expr_code line (operation o left right) rest ≡ expr_code line left (operation_code line o right rest)
  one_operation op.AndThen left right rest = refl
  one_operation op.OrElse left right rest = refl
  one_operation other left right rest = refl

  before_operation : (method : Bool) (o : Operator) (left right : s.Expr) (rest : List Instruction) → code_before line method (operation o left right) rest ≡ expr_code line left (operation_code line o right rest)
  before_operation method op.AndThen left right rest = refl
  before_operation method op.OrElse left right rest = refl
  before_operation method other left right rest = refl

  more_operations : (method : Bool) (o : Operator) (left right : s.Expr) (more : List OperationOf) (rest : List Instruction) → code_before line method (operations (operation o left right) more) rest ≡ expr_code line left (operation_code line o right (operations_code line more rest))
  more_operations method o left right [] rest = before_operation method o left right rest
  more_operations method o left right (p ∷ more) rest = more_operations method p.operator (operation o left right) p.right more rest ∙ one_operation o left right _

  before_operations : (method : Bool) (left : s.Expr) (list : List Operation) (rest : List Instruction) → code_before line method (operations left (map operation_of list)) rest ≡ code_before line (if_none list method) left (operations_code line (map operation_of list) rest)
  before_operations method left [] rest = refl
  before_operations method left (o ∷ more) rest = more_operations method (operation_of o).operator left (operation_of o).right (map operation_of more) rest ∙ sym (code_before_other left _)

  pub operations_before : (method : Bool) (left : Expression) (list : List Operation) (rest : List Instruction) → code_before line method (expr_of (e.Operations left list)) rest ≡ code_before line (if_none list method) (expr_of left) (operations_code line (map operation_of list) rest)
  operations_before method left list rest = ap (λ k. code_before line method k rest) (operations_is left list) ∙ before_operations method (expr_of left) list rest

  pub expr_length : (a : s.Expr) (rest : List Instruction) → length (expr_code line a rest) ≡ expr_size a + length rest
  expr_length a rest = (expr_longer line a rest).by

  -- ---- places

  read_of : (method : Bool) (p : s.Place) (rest : List Instruction) → code_before line method (s.Read p) rest ≡ place_code line p (read_code line p rest)
  read_of method (s.Local x) rest = refl
  read_of method (s.Global g subs) rest = refl

  pub value_code_is : (method : Bool) (p : Place) (rest : List Instruction) → code_before line method (expr_of (e.Value p)) rest ≡ place_code line (place_of p) (read_code line (place_of p) rest)
  value_code_is method p rest = ap (λ k. code_before line method k rest) (value_is p) ∙ read_of method (place_of p) rest

  get_of : (method : Bool) (p : s.Place) (rest : List Instruction) → code_before line method (s.Get p) rest ≡ place_code line p (get_code line p rest)
  get_of method (s.Local x) rest = refl
  get_of method (s.Global g subs) rest = refl

  pub get_code_is : (method : Bool) (p : Place) (rest : List Instruction) → code_before line method (expr_of (e.Get p None)) rest ≡ place_code line (place_of p) (get_code line (place_of p) rest)
  get_code_is method p rest = ap (λ k. code_before line method k rest) (get_is p None) ∙ get_of method (place_of p) rest

  get_or_of : (method : Bool) (p : s.Place) (a : s.Expr) (rest : List Instruction) → code_before line method (s.GetOr p a) rest ≡ place_code line p (expr_code line a (get_or_code line p rest))
  get_or_of method (s.Local x) a rest = refl
  get_or_of method (s.Global g subs) a rest = refl

  pub get_or_code_is : (method : Bool) (p : Place) (o : Expression) (rest : List Instruction) → code_before line method (expr_of (e.Get p (Some o))) rest ≡ place_code line (place_of p) (expr_code line (expr_of o) (get_or_code line (place_of p) rest))
  get_or_code_is method p o rest = ap (λ k. code_before line method k rest) (get_is p (Some o)) ∙ get_or_of method (place_of p) (expr_of o) rest

  defined_of : (method : Bool) (p : s.Place) (rest : List Instruction) → code_before line method (s.Defined p) rest ≡ place_code line p (defined_code line p rest)
  defined_of method (s.Local x) rest = refl
  defined_of method (s.Global g subs) rest = refl

  pub defined_code_is : (method : Bool) (p : Place) (rest : List Instruction) → code_before line method (expr_of (e.Data p)) rest ≡ place_code line (place_of p) (defined_code line (place_of p) rest)
  defined_code_is method p rest = ap (λ k. code_before line method k rest) (data_is p) ∙ defined_of method (place_of p) rest

  increment_of : (method : Bool) (p : s.Place) (rest : List Instruction) → code_before line method (s.Increment p) rest ≡ place_code line p (increment_code line p rest)
  increment_of method (s.Local x) rest = refl
  increment_of method (s.Global g subs) rest = refl

  pub increment_code_is : (method : Bool) (p : Place) (rest : List Instruction) → code_before line method (expr_of (e.Increment p None)) rest ≡ place_code line (place_of p) (increment_code line (place_of p) rest)
  increment_code_is method p rest = ap (λ k. code_before line method k rest) (increment_is p None) ∙ increment_of method (place_of p) rest

  increment_by_of : (method : Bool) (p : s.Place) (a : s.Expr) (rest : List Instruction) → code_before line method (s.IncrementBy p a) rest ≡ place_code line p (expr_code line a (increment_by_code line p rest))
  increment_by_of method (s.Local x) a rest = refl
  increment_by_of method (s.Global g subs) a rest = refl

  pub increment_by_code_is : (method : Bool) (p : Place) (o : Expression) (rest : List Instruction) → code_before line method (expr_of (e.Increment p (Some o))) rest ≡ place_code line (place_of p) (expr_code line (expr_of o) (increment_by_code line (place_of p) rest))
  increment_by_code_is method p o rest = ap (λ k. code_before line method k rest) (increment_is p (Some o)) ∙ increment_by_of method (place_of p) (expr_of o) rest
