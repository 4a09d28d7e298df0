-- What a frame does, as a tree that branches where its surroundings answer; and the steps that expressions and commands share.
use Rattle.std.specs.Prelude.{ℕ, zero, suc, ℤ, pos, cond, List, [], ◌∷◌, reverse, length, Option, Some, None, Ok, Err}
use Rattle.std.specs.Str.{bytes_eq}
use Rattle.obj_kinds.specs.declared.node.Node.{Node}
use Rattle.obj_kinds.specs.declared.sub.Sub.{Sub}
use Rattle.obj_kinds.specs.declared.op.Op.TheVariants as ops
use Rattle.obj_kinds.specs.declared.op.Reply.{Reply}
use Rattle.obj_kinds.specs.declared.op.Reply.TheVariants as reply
use Rattle.obj_kinds.specs.declared.error_name.ErrorName.{ErrorName}
use Rattle.obj_kinds.specs.declared.error_name.ErrorName.TheVariants as error
use Rattle.os_kinds.specs.declared.val.Val.{Val}
use Rattle.os_kinds.specs.declared.val.Val.TheVariants.{Data, Ref}
use Rattle.os_kinds.specs.declared.call.Call.{Call}
use Rattle.os_kinds.specs.declared.call.Call.TheVariants as call
use Rattle.os_kinds.specs.declared.call.Answer.{Answer}
use Rattle.os_kinds.specs.declared.call.Answer.TheVariants as answer
use Rattle.os_kinds.specs.declared.call.ScriptEnd.{ScriptEnd}
use Rattle.os_kinds.specs.declared.call.ScriptEnd.TheVariants as end
use Rattle.os_value.specs.Answers.{and_then}
use Rattle.os_meaning.specs.Syntax.{Name}
use Rattle.os_meaning.specs.Values.{Checked, number_of, subscript_of, after_of, plain}

pub data Frame : Type 0 where
  Ends : ScriptEnd → Frame
  Prints : List ℕ → Frame → Frame
  -- a copy of the OREF gets a place
  Holds : ℕ → Frame → Frame
  -- a place of the OREF is lost
  Loses : ℕ → Frame → Frame
  -- the end of a command argument, postcondition, header or loop test
  Points : Frame → Frame
  -- a unit is taken
  Spends : Frame → Frame
  Asks : Call → (Answer → Frame) → Frame

-- the same frame, where only so many units are left
abbrev pub within : Frame → ℕ → Frame
within (Ends e) units = Ends e
within (Prints t f) units = Prints t (within f units)
within (Holds o f) units = Holds o (within f units)
within (Loses o f) units = Loses o (within f units)
within (Points f) units = Points (within f units)
within (Spends f) zero = Ends end.Fuel
within (Spends f) (suc units) = Spends (within f units)
within (Asks c f) units = Asks c (λ a. within (f a) units)

abbrev pub fails : ℕ → ErrorName → Frame
fails line e = Ends (end.Error e line)

-- goes on with a result, or ends with its error
abbrev pub checked : {A : Type 0} → Checked A → ℕ → (A → Frame) → Frame
checked (Ok a) line go = go a
checked (Err e) line go = fails line e

-- ---- places of OREFs

abbrev pub holds : Val → Frame → Frame
holds (Data v) f = f
holds (Ref number class) f = Holds number f

abbrev pub loses : Val → Frame → Frame
loses (Data v) f = f
loses (Ref number class) f = Loses number f

abbrev pub loses_each : List Val → Frame → Frame
loses_each [] f = f
loses_each (v ∷ vs) f = loses v (loses_each vs f)

abbrev pub loses_some : Option Val → Frame → Frame
loses_some None f = f
loses_some (Some v) f = loses v f

-- an empty text prints nothing
abbrev pub prints : List ℕ → Frame → Frame
prints [] f = f
prints (b ∷ t) f = Prints (b ∷ t) f

-- ---- variables: each name once, in the order in which they were first set

pub record Var : Type 0 where
  pub name : Name
  pub value : Val

abbrev pub Vars : Type 0
Vars = List Var

-- what follows a value, and what follows a command
abbrev pub Use : Type 0
Use = Val → Vars → Frame

abbrev pub Rest : Type 0
Rest = Vars → Frame

abbrev pub value_in : Name → Vars → Option Val
value_in name [] = None
value_in name (x ∷ vars) = cond (bytes_eq x.name name) (Some x.value) (value_in name vars)

abbrev pub with_var : Name → Val → Vars → Vars
with_var name v [] = record { name = name; value = v } ∷ []
with_var name v (x ∷ vars) = cond (bytes_eq x.name name) (record { name = x.name; value = v } ∷ vars) (x ∷ with_var name v vars)

abbrev pub without_var : Name → Vars → Vars
without_var name [] = []
without_var name (x ∷ vars) = cond (bytes_eq x.name name) vars (x ∷ without_var name vars)

-- the variable that was set first is lost last
abbrev pub loses_vars : Vars → Frame → Frame
loses_vars [] f = f
loses_vars (x ∷ vars) f = loses_vars vars (loses x.value f)

abbrev pub read : Option Val → Checked Val
read None = Err error.Undefined
read (Some v) = Ok v

-- the number that an increment begins with
abbrev pub current : Option Val → Checked ℤ
current None = Ok (pos 0)
current (Some v) = number_of v

-- ---- objects

-- a member is asked of an object alone
abbrev pub object_in : Val → Checked ℕ
object_in (Data v) = Err error.InvalidOref
object_in (Ref number class) = Ok number

abbrev pub object_here : Option Val → Checked Val
object_here None = Err error.InvalidOref
object_here (Some v) = Ok v

-- What a method is called on: a value, or the collection or many side that is a property of an object.
pub data Subject : Type 0 where
  Whole : Val → Subject
  Collection : ℕ → Name → Subject

-- ---- what is answered; an answer that doesn't fit ends the frame

abbrev pub misfit : Frame
misfit = Ends end.Halt

abbrev pub on_got : ℕ → Answer → (Val → Frame) → Frame
on_got line (answer.Got v) go = go v
on_got line (answer.Error e) go = fails line e
-- a collection is used by a method alone
on_got line answer.Items go = fails line error.InvalidOref
on_got line _ go = misfit

-- the value of a property, or that it is a collection
abbrev pub on_read : ℕ → Answer → (Val → Frame) → Frame → Frame
on_read line answer.Items go items = items
on_read line a go items = on_got line a go

abbrev pub on_written : ℕ → Answer → Frame → Frame
on_written line answer.Done f = f
on_written line (answer.Error e) f = fails line e
on_written line _ f = misfit

abbrev pub on_tried : Answer → Frame → Frame
on_tried answer.Done f = f
on_tried _ f = misfit

abbrev pub on_reply : Answer → (Reply → Frame) → Frame
on_reply (answer.Reply r) go = go r
on_reply _ go = misfit

abbrev pub found : Reply → (Val → Frame) → Frame → Frame
found (reply.Found v) go absent = go (Data v)
found reply.Absent go absent = absent
found _ go absent = misfit

abbrev pub done : Reply → Frame → Frame
done reply.Done f = f
done _ f = misfit

-- a lock that isn't held is given back like one that is
abbrev pub given_back : Reply → Frame → Frame
given_back reply.NotHeld f = f
given_back r f = done r f

abbrev pub state : Reply → (ℕ → Frame) → Frame
state (reply.State n) go = go n
state _ go = misfit

abbrev pub next : Reply → (Option Sub → Frame) → Frame
next (reply.Next s) go = go (Some s)
next reply.NoNext go = go None
next _ go = misfit

abbrev pub counted : ℕ → Reply → (ℤ → Frame) → Frame
counted line (reply.Number z) go = go z
counted line reply.NumberLimit go = fails line error.MaxNumber
counted line _ go = misfit

abbrev pub begun : ℕ → Reply → Frame → Frame
begun line (reply.Number level) f = f
begun line reply.TooDeep f = fails line error.TransactionLevel
begun line _ f = misfit

abbrev pub committed : ℕ → Reply → Frame → Frame
committed line (reply.Number level) f = f
committed line reply.NoTran f = fails line error.Command
committed line _ f = misfit

-- without a transaction nothing is undone
abbrev pub undone : Reply → Frame → Frame
undone (reply.Number level) f = f
undone reply.NoTran f = f
undone _ f = misfit

-- ---- what is asked of the store. The values of subscripts are given from the last to the first.

abbrev pub node : Name → List Sub → Node
node global subs = record { global = global; subs = subs }

abbrev pub subs_by : ℕ → List Val → Checked (List Sub)
subs_by others [] = Ok []
subs_by others (v ∷ vs) = and_then (subscript_of others v) (λ s. and_then (subs_by (suc others) vs) (λ subs. Ok (s ∷ subs)))

unfoldable pub at_node : Name → List Val → ℕ → (Node → Frame) → Frame
at_node global vs line go = checked (subs_by 0 (reverse vs)) line (λ subs. go (node global subs))

unfoldable pub gets : Name → List Val → ℕ → (Val → Frame) → Frame → Frame
gets global vs line go absent =
    at_node global vs line (λ n. Asks (call.Store (ops.Get n)) (λ a. on_reply a (λ r. found r go absent)))

unfoldable pub defines : Name → List Val → ℕ → (ℕ → Frame) → Frame
defines global vs line go = at_node global vs line (λ n. Asks (call.Store (ops.Defined n)) (λ a. on_reply a (λ r. state r go)))

unfoldable pub sets : Name → List Val → Val → ℕ → Frame → Frame
sets global vs v line f = at_node global vs line (λ n. Asks (call.Store (ops.Set n (plain v))) (λ a. on_reply a (λ r. done r f)))

unfoldable pub kills : Name → List Val → ℕ → Frame → Frame
kills global vs line f = at_node global vs line (λ n. Asks (call.Store (ops.Kill n)) (λ a. on_reply a (λ r. done r f)))

unfoldable pub increments : Name → List Val → ℤ → ℕ → (ℤ → Frame) → Frame
increments global vs by line go =
    at_node global vs line (λ n. Asks (call.Store (ops.Incr n by)) (λ a. on_reply a (λ r. counted line r go)))

-- the last value says behind which subscript the next one is sought
unfoldable pub orders : Name → List Val → ℕ → (Option Sub → Frame) → Frame
orders global [] line go = misfit
orders global (last ∷ vs) line go =
    checked (after_of (length vs) last) line (λ after.
    at_node global vs line (λ n. Asks (call.Store (ops.Order n after)) (λ a. on_reply a (λ r. next r go))))

-- ---- calls of methods. The values of arguments are given from the last to the first.

unfoldable pub calls : Subject → Name → List Val → ℕ → (Val → Frame) → Frame
calls (Whole object) member vs line go =
    checked (object_in object) line (λ number. Asks (call.OnObject number member (reverse vs)) (λ a. on_got line a go))
calls (Collection number property) member vs line go = Asks (call.OnItems number property member (reverse vs)) (λ a. on_got line a go)

-- of the object whose method runs, and where there is none, of the class of the method
unfoldable pub calls_own : Option Val → Name → List Val → ℕ → (Val → Frame) → Frame
calls_own None member vs line go = Asks (call.OnOwn member (reverse vs)) (λ a. on_got line a go)
calls_own (Some object) member vs line go =
    checked (object_in object) line (λ number. Asks (call.OnObject number member (reverse vs)) (λ a. on_got line a go))

unfoldable pub writes : Val → Name → Val → ℕ → Frame → Frame
writes object property v line f =
    checked (object_in object) line (λ number. Asks (call.Write number property v) (λ a. on_written line a f))
