-- Small processes, each with what is seen of it where the store's replies are taken from a list; worked out by hand.
use Rattle.std.specs.Prelude.{◌≡◌, ℕ, pos, true, List, [], ◌∷◌, Option, Some, None, codes}
use Rattle.obj_kinds.specs.declared.name.ClassName.{ClassName}
use Rattle.obj_kinds.specs.declared.value.Value.TheVariants.{Str}
use Rattle.obj_kinds.specs.declared.op.Mode.TheVariants.{Exclusive}
use Rattle.obj_kinds.specs.declared.op.Owner.TheVariants.{Script}
use Rattle.obj_kinds.specs.declared.op.Keep.TheVariants.{Counted}
use Rattle.obj_kinds.specs.declared.op.Op.{Op}
use Rattle.obj_kinds.specs.declared.op.Op.TheVariants as ops
use Rattle.obj_kinds.specs.declared.op.Reply.{Reply}
use Rattle.obj_kinds.specs.declared.op.Reply.TheVariants as reply
use Rattle.obj_kinds.specs.declared.error_name.ErrorName.TheVariants as error
use Rattle.schema_kinds.specs.declared.class.Class.{Class}
use Rattle.schema_kinds.specs.declared.class.Sort.TheVariants.{Plain as PlainClass}
use Rattle.schema_kinds.specs.declared.method.Method.{Method}
use Rattle.schema_kinds.specs.declared.method.Arg.{Arg}
use Rattle.os_kinds.specs.declared.call.Answer.TheVariants as answer
use Rattle.os_kinds.specs.declared.call.Special.TheVariants.{Test, Level}
use Rattle.os_kinds.specs.declared.command.LockAction.TheVariants as lock
use Rattle.os_kinds.specs.declared.expression.Operator.TheVariants as op
use Rattle.os_meaning.specs.Syntax as s
use Rattle.os_meaning.specs.Syntax.{Name, Expr, Exprs, Action, Command, Block}
use Rattle.os_meaning.specs.Samples.{lit, var, one, line, block, write, set, at_first, first, bare}
use Rattle.store_calls.specs.Calls.{Call, Give, Ask, Tell, Cut, Told, Prints}
use Rattle.host_meaning.specs.declared.ending.Ending.{Ending}
use Rattle.host_meaning.specs.declared.ending.Ending.TheVariants as ending
use Rattle.host_meaning.specs.Methods.{Program}
use Rattle.host_meaning.specs.Objects.{Objects}
use Rattle.host_meaning.specs.Process.{process}

-- ---- what is seen of a process

pub data Seen : Type 0 where
  Noted : Told → Seen
  Asked : Op → Seen
  Ended : Ending → Seen

abbrev pub seen : Call Ending → List Reply → List Seen
seen (Give e) rs = Ended e ∷ []
seen (Tell x c) rs = Noted x ∷ seen c rs
seen Cut rs = []
seen (Ask op tag k) [] = Asked op ∷ []
seen (Ask op tag k) (r ∷ rs) = Asked op ∷ seen (k r) rs

-- ---- a process whose objects have no members of their own

abbrev pub no_objects : Objects (Unit {0})
no_objects = record {
  empty = tt;
  more = λ n m. m;
  less = λ n m. m;
  waiting = λ m. [];
  given = λ m. m;
  class = λ m n. None;
  on_class = λ class name args s. Give (s, answer.Error error.MethodDoesNotExist);
  on_object = λ n name args s. Give (s, answer.Error error.InvalidOref);
  on_items = λ n property name args s. Give (s, answer.Error error.InvalidOref);
  read = λ n property s. Give (s, answer.Error error.InvalidOref);
  write = λ n property v s. Give (s, answer.Error error.InvalidOref);
}

-- ---- two classes

abbrev pub named : List ℕ → ClassName
named t = record { 0 = t }

abbrev pub arg : Name → Option (List ℕ) → Arg
arg x default = record { name = x; default = default }

abbrev pub class_method : Name → List Arg → Method
class_method name args = record { name = name; of_class = true; args = args; body = []; line = 1; column = 1 }

-- `A.B` declares `Next(x, by = 1)`, which answers the sum, and `Fails()`, whose second line reads a variable without value
abbrev pub parent : Class
parent = record { name = named (codes "A.B"); sort = PlainClass; supers = []; props = []; indexes = []; methods = class_method (codes "Next") (arg (codes "x") None ∷ arg (codes "by") (Some (codes "1")) ∷ []) ∷ class_method (codes "Fails") [] ∷ [] }

-- `A.C` extends it, and declares `Twice(x)`, which calls `Next` of the class `B` of its package
abbrev pub heir : Class
heir = record { name = named (codes "A.C"); sort = PlainClass; supers = named (codes "A.B") ∷ []; props = []; indexes = []; methods = class_method (codes "Twice") (arg (codes "x") None ∷ []) ∷ [] }

abbrev pub on_class : List ℕ → Name → Exprs → Expr
on_class class name args = s.OnClass (named class) name args

abbrev pub next_body : Block
next_body = block (s.Plain 1 None (s.QuitWith (s.Binary op.Add (var (codes "x")) (var (codes "by")))) ∷ [])

abbrev pub fails_body : Block
fails_body = block (line 7 (set (codes "y") (lit (codes "1"))) ∷ line 8 (write (var (codes "z"))) ∷ [])

abbrev pub twice_body : Block
twice_body = block (s.Plain 1 None (s.QuitWith (on_class (codes "B") (codes "Next") (s.More (var (codes "x")) (one (var (codes "x")))))) ∷ [])

abbrev pub program : Program
program = record { classes = parent ∷ heir ∷ []; bodies = (next_body ∷ fails_body ∷ []) ∷ (twice_body ∷ []) ∷ []; scripts = [] }

-- a script with its units and the replies of the store
pub record Sample : Type 0 where
  pub units : ℕ
  pub script : List Command
  pub replies : List Reply
  pub sees : List Seen

abbrev pub printed : List ℕ → Seen
printed t = Noted (Prints t)

abbrev pub at_end : List Seen
at_end = Ended ending.Done ∷ []

abbrev pub IsSeen : Sample → Type 0
IsSeen x = seen (process no_objects program x.units (block x.script)) x.replies ≡ x.sees

abbrev pub AreSeen : List Sample → Type 0
AreSeen [] = Unit {0}
AreSeen (x ∷ xs) = IsSeen x × AreSeen xs

-- ---- the processes

abbrev pub samples : List Sample
samples =
    -- `TCommit` without a transaction
    (record { units = 20; script = line 1 (s.TCommit) ∷ []; replies = reply.NoTran ∷ []; sees = Asked ops.Commit ∷ Ended (ending.Error error.Command None 1) ∷ [] }) ∷
    -- `Lock +^a(1):1`, `Write $TEST`: another holds the node above
    (record { units = 20; script = line 1 (s.Lock (record { action = lock.Add; global = codes "a"; subs = one (lit (codes "1")); mode = Exclusive; timeout = Some (lit (codes "1")) } ∷ [])) ∷ line 2 (write (s.Kept Test)) ∷ []; replies = reply.Held (record { 0 = 1 }) bare Exclusive ∷ []; sees = Asked (ops.Lock first Exclusive Script Counted) ∷ printed (codes "0") ∷ at_end }) ∷
    -- `Lock +^a(1)`: without a timeout it is asked for until it is granted
    (record { units = 20; script = line 1 (s.Lock (record { action = lock.Add; global = codes "a"; subs = one (lit (codes "1")); mode = Exclusive; timeout = None } ∷ [])) ∷ []; replies = reply.Held (record { 0 = 1 }) bare Exclusive ∷ reply.Granted ∷ []; sees = Asked (ops.Lock first Exclusive Script Counted) ∷ Asked (ops.Lock first Exclusive Script Counted) ∷ at_end }) ∷
    -- `Set ^a(1)=7`, `Write 1` with two units: the argument takes one, and the operation the other
    (record { units = 2; script = line 1 (s.Set (record { target = s.OfPlace at_first; value = lit (codes "7") } ∷ [])) ∷ line 2 (write (lit (codes "1"))) ∷ []; replies = reply.Done ∷ []; sees = Asked (ops.Set first (Str (codes "7"))) ∷ Ended ending.Fuel ∷ [] }) ∷
    -- the same with one unit
    (record { units = 1; script = line 1 (s.Set (record { target = s.OfPlace at_first; value = lit (codes "7") } ∷ [])) ∷ []; replies = []; sees = Ended ending.Fuel ∷ [] }) ∷
    -- `TStart`, `Write $TLEVEL`, `TRollback`, `Write $TLEVEL`
    (record { units = 20; script = line 1 (s.TStart) ∷ line 2 (write (s.Kept Level)) ∷ line 3 (s.TRollback) ∷ line 4 (write (s.Kept Level)) ∷ []; replies = reply.Number (pos 1) ∷ reply.Done ∷ []; sees = Asked ops.Begin ∷ printed (codes "1") ∷ Asked ops.RollbackAll ∷ printed (codes "0") ∷ at_end }) ∷
    -- `Write ##class(A.B).Next(2)`: the second argument takes its default
    (record { units = 20; script = line 1 (write (on_class (codes "A.B") (codes "Next") (one (lit (codes "2"))))) ∷ []; replies = []; sees = printed (codes "3") ∷ at_end }) ∷
    -- `Write ##class(A.C).Next(2,5)`: the method of the superclass
    (record { units = 20; script = line 1 (write (on_class (codes "A.C") (codes "Next") (s.More (lit (codes "2")) (one (lit (codes "5")))))) ∷ []; replies = []; sees = printed (codes "7") ∷ at_end }) ∷
    -- `Write ##class(A.C).Twice(4)`: a class without a package is one of the method's own package
    (record { units = 20; script = line 1 (write (on_class (codes "A.C") (codes "Twice") (one (lit (codes "4"))))) ∷ []; replies = []; sees = printed (codes "8") ∷ at_end }) ∷
    -- `Do ##class(A.C).Fails()`: the error has the class that declares the method, and its line
    (record { units = 20; script = line 1 (s.Do (on_class (codes "A.C") (codes "Fails") s.NoMore ∷ [])) ∷ []; replies = []; sees = Ended (ending.Error error.Undefined (Some (named (codes "A.B"))) 8) ∷ [] }) ∷
    -- `Do ##class(A.B).Fails(1)`: an argument too many is an error of the caller
    (record { units = 20; script = line 5 (s.Do (on_class (codes "A.B") (codes "Fails") (one (lit (codes "1"))) ∷ [])) ∷ []; replies = []; sees = Ended (ending.Error error.Parameter None 5) ∷ [] }) ∷
    -- `Do ##class(A.D).M()`, and `Do ##class(A.B).M()`: no such class; no such method
    (record { units = 20; script = line 1 (s.Do (on_class (codes "A.D") (codes "M") s.NoMore ∷ [])) ∷ []; replies = []; sees = Ended (ending.Error error.ClassDoesNotExist None 1) ∷ [] }) ∷
    -- the second of these
    (record { units = 20; script = line 1 (s.Do (on_class (codes "A.B") (codes "M") s.NoMore ∷ [])) ∷ []; replies = []; sees = Ended (ending.Error error.MethodDoesNotExist None 1) ∷ [] }) ∷
    -- `Do ..M()` in a script: there is no class
    (record { units = 20; script = line 1 (s.Do (s.OwnMethod (codes "M") s.NoMore ∷ [])) ∷ []; replies = []; sees = Ended (ending.Error error.InvalidOref None 1) ∷ [] }) ∷
    []
