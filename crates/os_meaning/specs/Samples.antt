-- Small scripts, each with what is seen of it where its calls are answered from a list; worked out by hand.
use Rattle.std.specs.Prelude.{◌≡◌, ℕ, pos, List, [], ◌∷◌, Option, Some, None, codes}
use Rattle.obj_kinds.specs.declared.node.Node.{Node}
use Rattle.obj_kinds.specs.declared.sub.Sub.TheVariants.{Num}
use Rattle.obj_kinds.specs.declared.value.Value.TheVariants.{Str}
use Rattle.obj_kinds.specs.declared.op.Op.TheVariants as ops
use Rattle.obj_kinds.specs.declared.op.Mode.TheVariants.{Exclusive}
use Rattle.obj_kinds.specs.declared.op.Owner.TheVariants.{Script}
use Rattle.obj_kinds.specs.declared.op.Reply.TheVariants as reply
use Rattle.obj_kinds.specs.declared.error_name.ErrorName.{ErrorName}
use Rattle.obj_kinds.specs.declared.error_name.ErrorName.TheVariants as error
use Rattle.os_kinds.specs.declared.val.Val.{Val}
use Rattle.os_kinds.specs.declared.val.Val.TheVariants.{Ref}
use Rattle.os_kinds.specs.declared.call.Call.TheVariants as call
use Rattle.os_kinds.specs.declared.call.Answer.{Answer}
use Rattle.os_kinds.specs.declared.call.Answer.TheVariants as answer
use Rattle.os_kinds.specs.declared.call.ScriptEnd.TheVariants as end
use Rattle.os_kinds.specs.declared.command.LockAction.TheVariants as lock
use Rattle.os_kinds.specs.declared.expression.Operator.TheVariants as op
use Rattle.os_meaning.specs.Syntax as s
use Rattle.os_meaning.specs.Syntax.{Name, Expr, Exprs, Action, Command, Block}
use Rattle.os_meaning.specs.Values.{text_value, number_value}
use Rattle.os_meaning.specs.Frames.{Vars, within}
use Rattle.os_meaning.specs.Meaning.{frame}
use Rattle.os_meaning.specs.Shown.{Shown, shown, Printed, Held, Lost, Pointed, Spent, Asked, Ended}

-- ---- words

abbrev pub lit : List ℕ → Expr
lit t = s.Literal t

abbrev pub var : Name → Expr
var x = s.Read (s.Local x)

abbrev pub one : Expr → Exprs
one e = s.More e s.NoMore

abbrev pub line : ℕ → Action → Command
line n action = s.Plain n None action

abbrev pub block : List Command → Block
block [] = s.Empty
block (c ∷ cs) = s.Then c (block cs)

abbrev pub write : Expr → Action
write e = s.Write (Some e ∷ [])

abbrev pub set : Name → Expr → Action
set x e = s.Set (record { target = s.OfPlace (s.Local x); value = e } ∷ [])

-- the global `^a`, with one subscript or none
abbrev pub bare : Node
bare = record { global = codes "a"; subs = [] }

abbrev pub first : Node
first = record { global = codes "a"; subs = Num (pos 1) ∷ [] }

abbrev pub at_first : s.Place
at_first = s.Global (codes "a") (one (lit (codes "1")))

-- an object
abbrev pub oref : ℕ → Val
oref n = Ref n (record { 0 = codes "A.B" })

-- the variable `o` with the first object
abbrev pub with_object : Vars
with_object = record { name = codes "o"; value = oref 1 } ∷ []

abbrev pub told : List ℕ → Answer
told t = answer.Reply (reply.Found (Str t))

abbrev pub done : Answer
done = answer.Reply reply.Done

-- the end of a script
abbrev pub at_end : List Shown
at_end = Ended (end.Done (text_value [])) ∷ []

abbrev pub failed : ErrorName → ℕ → List Shown
failed e n = Ended (end.Error e n) ∷ []

-- A script with the object whose method it is, its first variables, its units, and the answers to its calls.
pub record Sample : Type 0 where
  pub this : Option Val
  pub vars : Vars
  pub units : ℕ
  pub script : Block
  pub answers : List Answer
  pub sees : List Shown

abbrev pub plainly : List Command → List Answer → List Shown → Sample
plainly script answers sees = record { this = None; vars = []; units = 20; script = block script; answers = answers; sees = sees }

abbrev pub IsShown : Sample → Type 0
IsShown x = shown (within (frame x.this x.units x.script x.vars) x.units) x.answers ≡ x.sees

abbrev pub AreShown : List Sample → Type 0
AreShown [] = Unit {0}
AreShown (x ∷ xs) = IsShown x × AreShown xs

-- ---- the scripts

abbrev pub samples : List Sample
samples =
    -- `Write 1+2*3,!`: from left to right
    (plainly (line 1 (s.Write (Some (s.Binary op.Multiply (s.Binary op.Add (lit (codes "1")) (lit (codes "2"))) (lit (codes "3"))) ∷ None ∷ [])) ∷ []) ([]) (Spent ∷ Printed (codes "9") ∷ Pointed ∷ Spent ∷ Printed (10 ∷ []) ∷ Pointed ∷ at_end)) ∷
    -- `Write x` on line 3, without a value
    (plainly (line 3 (write (var (codes "x"))) ∷ []) ([]) (Spent ∷ failed error.Undefined 3)) ∷
    -- `Set x=5`, `Write x_x`
    (plainly (line 1 (set (codes "x") (lit (codes "5"))) ∷ line 2 (write (s.Binary op.Join (var (codes "x")) (var (codes "x")))) ∷ []) ([]) (Spent ∷ Pointed ∷ Spent ∷ Printed (codes "55") ∷ Pointed ∷ at_end)) ∷
    -- `For i=1:1:2 { Write i }`: the header, the tests and the writes take a unit each
    (plainly (s.For 1 (codes "i") (lit (codes "1")) (lit (codes "1")) (Some (lit (codes "2"))) (block (line 1 (write (var (codes "i"))) ∷ [])) ∷ []) ([]) (Spent ∷ Pointed ∷ Spent ∷ Pointed ∷ Spent ∷ Printed (codes "1") ∷ Pointed ∷ Spent ∷ Pointed ∷ Spent ∷ Printed (codes "2") ∷ Pointed ∷ Spent ∷ Pointed ∷ at_end)) ∷
    -- `For i=1:1 { Quit:i>1 }`: without a last number, up to a QUIT
    (plainly (s.For 1 (codes "i") (lit (codes "1")) (lit (codes "1")) None (block (s.Plain 1 (Some (s.Binary op.Greater (var (codes "i")) (lit (codes "1")))) s.Quit ∷ [])) ∷ []) ([]) (Spent ∷ Pointed ∷ Spent ∷ Pointed ∷ Pointed ∷ Spent ∷ Pointed ∷ Pointed ∷ Spent ∷ Pointed ∷ at_end)) ∷
    -- `While 1 { }` with three units
    (record { this = None; vars = []; units = 3; script = block (s.While 1 (lit (codes "1") ∷ []) s.Empty ∷ []); answers = []; sees = Spent ∷ Pointed ∷ Spent ∷ Pointed ∷ Spent ∷ Pointed ∷ Ended end.Fuel ∷ [] }) ∷
    -- `If 0 { Write "a" } ElseIf 1 { Write "b" } Else { Write "c" }`
    (plainly (s.If (s.Branch 1 (lit (codes "0") ∷ []) (block (line 1 (write (lit (codes "a"))) ∷ [])) (s.Branch 2 (lit (codes "1") ∷ []) (block (line 2 (write (lit (codes "b"))) ∷ [])) (s.Else (block (line 3 (write (lit (codes "c"))) ∷ []))))) ∷ []) ([]) (Spent ∷ Pointed ∷ Spent ∷ Pointed ∷ Spent ∷ Printed (codes "b") ∷ Pointed ∷ at_end)) ∷
    -- `Set ^a(1)=7`, `Write ^a(1)`
    (plainly (line 1 (s.Set (record { target = s.OfPlace at_first; value = lit (codes "7") } ∷ [])) ∷ line 2 (write (s.Read at_first)) ∷ []) (done ∷ told (codes "7") ∷ []) (Spent ∷ Asked (call.Store (ops.Set first (Str (codes "7")))) ∷ Pointed ∷ Spent ∷ Asked (call.Store (ops.Get first)) ∷ Printed (codes "7") ∷ Pointed ∷ at_end)) ∷
    -- `Write ^a(1)` without a value
    (plainly (line 1 (write (s.Read at_first)) ∷ []) (answer.Reply reply.Absent ∷ []) (Spent ∷ Asked (call.Store (ops.Get first)) ∷ failed error.Undefined 1)) ∷
    -- `Write $GET(^a(1),"d")` without a value
    (plainly (line 1 (write (s.GetOr at_first (lit (codes "d")))) ∷ []) (answer.Reply reply.Absent ∷ []) (Spent ∷ Asked (call.Store (ops.Get first)) ∷ Printed (codes "d") ∷ Pointed ∷ at_end)) ∷
    -- `Write $ORDER(^a(""))` at the end prints nothing
    (plainly (line 1 (write (s.Order (codes "a") (one (lit [])))) ∷ []) (answer.Reply reply.NoNext ∷ []) (Spent ∷ Asked (call.Store (ops.Order bare None)) ∷ Pointed ∷ at_end)) ∷
    -- `Write ^a("")`: an empty subscript is refused before the store is asked
    (plainly (line 1 (write (s.Read (s.Global (codes "a") (one (lit []))))) ∷ []) ([]) (Spent ∷ failed error.Subscript 1)) ∷
    -- `Write $INCREMENT(^a(1))` past 18 digits
    (plainly (line 4 (write (s.Increment at_first)) ∷ []) (answer.Reply reply.NumberLimit ∷ []) (Spent ∷ Asked (call.Store (ops.Incr first (pos 1))) ∷ failed error.MaxNumber 4)) ∷
    -- `Lock ^a,+^a(1):2,-^a`: the first name without a sign gives back all locks
    (plainly (line 1 (s.Lock (record { action = lock.Renew; global = codes "a"; subs = s.NoMore; mode = Exclusive; timeout = None } ∷ record { action = lock.Add; global = codes "a"; subs = one (lit (codes "1")); mode = Exclusive; timeout = Some (lit (codes "2")) } ∷ record { action = lock.Remove; global = codes "a"; subs = s.NoMore; mode = Exclusive; timeout = None } ∷ [])) ∷ []) (done ∷ answer.Done ∷ answer.Done ∷ answer.Reply reply.NotHeld ∷ []) (Spent ∷ Asked (call.Store (ops.UnlockAll Script)) ∷ Asked (call.TryLock bare Exclusive None) ∷ Pointed ∷ Spent ∷ Asked (call.TryLock first Exclusive (Some 2)) ∷ Pointed ∷ Spent ∷ Asked (call.Store (ops.Unlock bare Exclusive Script)) ∷ Pointed ∷ at_end)) ∷
    -- `TCommit` without a transaction; `TRollback 1` without one is no error
    (plainly (line 1 (s.TRollbackOne) ∷ line 2 (s.TCommit) ∷ []) (answer.Reply reply.NoTran ∷ answer.Reply reply.NoTran ∷ []) (Spent ∷ Asked (call.Store ops.RollbackOne) ∷ Pointed ∷ Spent ∷ Asked (call.Store ops.Commit) ∷ failed error.Command 2)) ∷
    -- `Set o=##class(A.B).%New()`, `Kill o`: the object has a place as long as the variable has it
    (plainly (line 1 (set (codes "o") (s.OnClass (record { 0 = codes "A.B" }) (codes "%New") s.NoMore)) ∷ line 2 (s.Kill (s.Local (codes "o") ∷ [])) ∷ []) (answer.Got (oref 1) ∷ []) (Spent ∷ Asked (call.OnClass (record { 0 = codes "A.B" }) (codes "%New") []) ∷ Pointed ∷ Spent ∷ Lost 1 ∷ Pointed ∷ at_end)) ∷
    -- `Set x=7`, `Set x.P=1`: what has no members is refused when the value has been evaluated
    (plainly (line 1 (set (codes "x") (lit (codes "7"))) ∷ line 2 (s.Set (record { target = s.OfProperty (var (codes "x")) (codes "P"); value = s.Read at_first } ∷ [])) ∷ []) (told (codes "1") ∷ []) (Spent ∷ Pointed ∷ Spent ∷ Asked (call.Store (ops.Get first)) ∷ failed error.InvalidOref 2)) ∷
    -- `Write 0&&^a(1)`: the right operand is left out
    (plainly (line 1 (write (s.AndThen (lit (codes "0")) (s.Read at_first))) ∷ []) ([]) (Spent ∷ Printed (codes "0") ∷ Pointed ∷ at_end)) ∷
    -- `Halt`, `Write 1`
    (plainly (line 1 (s.Halt) ∷ line 2 (write (lit (codes "1"))) ∷ []) ([]) (Spent ∷ Ended end.Halt ∷ [])) ∷
    -- `Do ..M(1)` without an object
    (plainly (line 1 (s.Do (s.OwnMethod (codes "M") (one (lit (codes "1"))) ∷ [])) ∷ []) (answer.Got (text_value []) ∷ []) (Spent ∷ Asked (call.OnOwn (codes "M") (text_value (codes "1") ∷ [])) ∷ Pointed ∷ at_end)) ∷
    -- `Do o.Items.Insert(5)`: a method of a collection; at the end the variable is lost
    (record { this = None; vars = with_object; units = 20; script = block (line 1 (s.Do (s.PropertyMethod (var (codes "o")) (codes "Items") (codes "Insert") (one (lit (codes "5"))) ∷ [])) ∷ []); answers = answer.Items ∷ answer.Got (number_value (pos 1)) ∷ []; sees = Spent ∷ Held 1 ∷ Asked (call.Read 1 (codes "Items")) ∷ Asked (call.OnItems 1 (codes "Items") (codes "Insert") (text_value (codes "5") ∷ [])) ∷ Lost 1 ∷ Pointed ∷ Lost 1 ∷ at_end }) ∷
    -- `Write o.Items`: a collection is used by a method alone
    (record { this = None; vars = with_object; units = 20; script = block (line 1 (write (s.Property (var (codes "o")) (codes "Items"))) ∷ []); answers = answer.Items ∷ []; sees = Spent ∷ Held 1 ∷ Asked (call.Read 1 (codes "Items")) ∷ failed error.InvalidOref 1 }) ∷
    -- `Write o`, as text
    (record { this = None; vars = with_object; units = 20; script = block (line 1 (write (var (codes "o"))) ∷ []); answers = []; sees = Spent ∷ Held 1 ∷ Printed (codes "1@A.B") ∷ Lost 1 ∷ Pointed ∷ Lost 1 ∷ at_end }) ∷
    -- in a method of an object, `Set ..P=$THIS`, `Quit o`: the answer keeps its place, and the variable and the object are lost
    (record { this = Some (oref 2); vars = with_object; units = 20; script = block (line 1 (s.Set (record { target = s.OfOwn (codes "P"); value = s.This } ∷ [])) ∷ line 2 (s.QuitWith (var (codes "o"))) ∷ []); answers = answer.Done ∷ []; sees = Spent ∷ Held 2 ∷ Asked (call.Write 2 (codes "P") (oref 2)) ∷ Lost 2 ∷ Pointed ∷ Spent ∷ Held 1 ∷ Pointed ∷ Lost 1 ∷ Lost 2 ∷ Ended (end.Done (oref 1)) ∷ [] }) ∷
    []
