-- What a process means: its script's frame and those of the methods that it calls, over one store and its own objects.
use Rattle.std.specs.Prelude.{ℕ, zero, suc, pos, Bool, true, false, cond, List, [], ◌∷◌, Option, Some, None}
use Rattle.obj_kinds.specs.declared.name.ClassName.{ClassName}
use Rattle.obj_kinds.specs.declared.node.Node.{Node}
use Rattle.obj_kinds.specs.declared.op.Mode.{Mode}
use Rattle.obj_kinds.specs.declared.op.Keep.TheVariants.{Counted}
use Rattle.obj_kinds.specs.declared.op.Owner.TheVariants.{Script}
use Rattle.obj_kinds.specs.declared.op.Op.{Op}
use Rattle.obj_kinds.specs.declared.op.Op.TheVariants as ops
use Rattle.obj_kinds.specs.declared.op.Reply.{Reply}
use Rattle.obj_kinds.specs.declared.op.Reply.TheVariants as reply
use Rattle.obj_kinds.specs.declared.error_name.ErrorName.{ErrorName}
use Rattle.obj_kinds.specs.declared.error_name.ErrorName.TheVariants as error
use Rattle.os_kinds.specs.declared.val.Val.{Val}
use Rattle.os_kinds.specs.declared.val.Val.TheVariants.{Data, Ref}
use Rattle.os_kinds.specs.declared.call.Special.{Special}
use Rattle.os_kinds.specs.declared.call.Special.TheVariants.{Test, Level, LastError}
use Rattle.os_kinds.specs.declared.call.Call.{Call as Need}
use Rattle.os_kinds.specs.declared.call.Call.TheVariants as call
use Rattle.os_kinds.specs.declared.call.Answer.{Answer}
use Rattle.os_kinds.specs.declared.call.Answer.TheVariants as answer
use Rattle.os_kinds.specs.declared.call.ScriptEnd.{ScriptEnd}
use Rattle.os_kinds.specs.declared.call.ScriptEnd.TheVariants as end
use Rattle.os_meaning.specs.Syntax.{Name, Block}
use Rattle.os_meaning.specs.Values.{text_value, number_value, bit}
use Rattle.os_meaning.specs.Frames.{Frame, Ends, Prints as Printing, Holds, Loses, Points, Spends, Asks, Vars}
use Rattle.os_meaning.specs.Meaning.{frame}
use Rattle.store_calls.specs.Calls.{Call, Give, Ask, Tell, Cut, Plain, Prints}
use Rattle.host_meaning.specs.declared.ending.Ending.{Ending}
use Rattle.host_meaning.specs.declared.ending.Ending.TheVariants as ending
use Rattle.host_meaning.specs.Methods.{Program, Found, method_of, is_class, full_name, arguments}
use Rattle.host_meaning.specs.Objects.{Known, Objects, ObjectCall}

-- A frame that is begun: the body, the object whose method it is, its first variables; the class that declares the method, and the class
-- on which it was called. A script has neither.
pub record Begun : Type 0 where
  pub body : Block
  pub this : Option Val
  pub vars : Vars
  pub declarer : Option ClassName
  pub called_on : Option ClassName

-- how many open transactions a reply tells
abbrev pub level_after : Op → Reply → ℕ → ℕ
level_after ops.Begin (reply.Number (pos n)) level = n
level_after ops.Commit (reply.Number (pos n)) level = n
level_after ops.RollbackOne (reply.Number (pos n)) level = n
level_after ops.RollbackAll r level = 0
level_after op r level = level

-- one thing where a lock was granted, and another where it was refused
abbrev pub on_grant : {A : Type 0} → Reply → A → A → A
on_grant reply.Granted a b = a
on_grant _ a b = b

-- how a process ends with its script's frame; an error has the class that declares the method of its frame
abbrev pub ending_of : Option ClassName → ScriptEnd → Ending
ending_of class (end.Done v) = ending.Done
ending_of class end.Halt = ending.Done
ending_of class (end.Error name line) = ending.Error name class line
ending_of class end.Fuel = ending.Fuel

-- what begins where a call means a method that a class declares: a frame, or an error; else a built-in member is meant
pub data Meant : Type 0 where
  Method : Begun → Meant
  Wrong : ErrorName → Meant
  BuiltIn : Meant

abbrev pub begun : Found → Option Val → ClassName → Option Vars → Meant
begun f this on None = Wrong error.Parameter
begun f this on (Some vars) = Method (record { body = f.body; this = this; vars = vars; declarer = Some f.class; called_on = Some on })

-- a class method, called on a class
abbrev pub on_class : ClassName → List Val → Option Found → Meant
on_class class args None = BuiltIn
on_class class args (Some f) = cond f.method.of_class (begun f None class (arguments f.method.args args)) (Wrong error.MethodDoesNotExist)

-- a method of an object; a class method may be called through an object too
abbrev pub on_object : Val → ClassName → List Val → Option Found → Meant
on_object object class args None = BuiltIn
on_object object class args (Some f) = begun f (cond f.method.of_class None (Some object)) class (arguments f.method.args args)

module _ {M : Type 0} (objects : Objects M) (program : Program) (fuel : ℕ) where
  abbrev pub State : Type 0
  State = Known M

  -- what follows, with the units that are left
  abbrev pub Then : Type 0 → Type 0
  Then A = A → ℕ → State → Call Ending

  -- an operation takes a unit
  abbrev pub asks : Op → ℕ → State → Then Reply → Call Ending
  asks op zero s go = Give ending.Fuel
  asks op (suc units) s go = Ask op Plain (λ r. go r units (record { memory = s.memory; level = level_after op r s.level; test = s.test; last_error = s.last_error }))

  -- a call of an object, each operation of which takes a unit
  abbrev pub calls : Call (State × Answer) → ℕ → Then Answer → Call Ending
  calls (Give a) units go = go a.1 units a.0
  calls (Tell x c) units go = Tell x (calls c units go)
  calls Cut units go = Cut
  calls (Ask op tag k) zero go = Give ending.Fuel
  calls (Ask op tag k) (suc units) go = Ask op tag (λ r. calls (k r) units go)

  -- ---- locks of scripts

  abbrev pub lock : Node → Mode → Op
  lock n mode = ops.Lock n mode Script Counted

  abbrev pub with_test : Bool → State → State
  with_test t s = record { memory = s.memory; level = s.level; test = t; last_error = s.last_error }

  -- without a timeout a lock is asked for until it is granted
  abbrev pub waits : Op → ℕ → State → Then Answer → Call Ending
  waits op zero s go = Give ending.Fuel
  waits op (suc units) s go = Ask op Plain (λ r. on_grant r (go answer.Done units s) (waits op units s go))

  -- with one, at most so many times
  abbrev pub tries : Op → ℕ → ℕ → State → Then Answer → Call Ending
  tries op zero units s go = go answer.Done units (with_test false s)
  tries op (suc times) units s go = asks op units s (λ r units s. on_grant r (go answer.Done units (with_test true s)) (tries op times units s go))

  abbrev pub locks : Node → Mode → Option ℕ → ℕ → State → Then Answer → Call Ending
  locks n mode None units s go = waits (lock n mode) units s go
  locks n mode (Some times) units s go = tries (lock n mode) times units s go

  -- ---- the end of a command argument: locks of objects that left memory are given back

  abbrev pub unlocks : List Op → ℕ → State → (ℕ → State → Call Ending) → Call Ending
  unlocks [] units s go = go units s
  unlocks (op ∷ more) units s go = asks op units s (λ r units s. unlocks more units s go)

  abbrev pub with_memory : M → State → State
  with_memory m s = record { memory = m; level = s.level; test = s.test; last_error = s.last_error }

  abbrev pub points : ℕ → State → (ℕ → State → Call Ending) → Call Ending
  points units s go = unlocks (objects.waiting s.memory) units (with_memory (objects.given s.memory) s) go

  -- ---- methods

  abbrev pub special : Special → State → Val
  special Test s = bit s.test
  special Level s = number_value (pos s.level)
  special LastError s = text_value s.last_error

  abbrev pub of_class : ClassName → Name → List Val → Meant
  of_class class name args = cond (is_class program class) (on_class class args (method_of program class name)) (Wrong error.ClassDoesNotExist)

  abbrev pub of_object : Option ClassName → ℕ → Name → List Val → Meant
  of_object None number name args = Wrong error.InvalidOref
  of_object (Some class) number name args = on_object (Ref number class) class args (method_of program class name)

  -- a method of the class on which the frame's method was called
  abbrev pub of_own : Option ClassName → Name → List Val → Meant
  of_own None name args = Wrong error.InvalidOref
  of_own (Some class) name args = of_class class name args

  abbrev pub built_in_own : Option ClassName → Name → List Val → ObjectCall M
  built_in_own None name args s = Give (s, answer.Error error.InvalidOref)
  built_in_own (Some class) name args s = objects.on_class class name args s

  -- the places of a frame that begins
  abbrev pub placed : Val → M → M
  placed (Data v) m = m
  placed (Ref number class) m = objects.more number m

  abbrev pub placed_some : Option Val → M → M
  placed_some None m = m
  placed_some (Some v) m = placed v m

  abbrev pub placed_vars : Vars → M → M
  placed_vars [] m = m
  placed_vars (x ∷ vars) m = placed_vars vars (placed x.value m)

  -- ---- frames

  -- how a method is run that a frame calls
  abbrev pub RunsMethod : Type 0
  RunsMethod = Begun → ℕ → State → Then Answer → Call Ending

  abbrev pub meant : RunsMethod → Meant → ObjectCall M → ℕ → State → Then Answer → Call Ending
  meant run (Method b) built_in units s go = run b units s go
  meant run (Wrong e) built_in units s go = go (answer.Error e) units s
  meant run BuiltIn built_in units s go = calls (built_in s) units go

  -- what a frame asks of its surroundings
  abbrev pub needs : RunsMethod → Begun → Need → ℕ → State → Then Answer → Call Ending
  needs run b (call.Store op) units s go = asks op units s (λ r units s. go (answer.Reply r) units s)
  needs run b (call.TryLock n mode times) units s go = locks n mode times units s go
  needs run b (call.Special x) units s go = go (answer.Got (special x s)) units s
  needs run b (call.OnClass class name args) units s go =
      meant run (of_class (full_name b.declarer class) name args) (objects.on_class (full_name b.declarer class) name args) units s go
  needs run b (call.OnOwn name args) units s go =
      meant run (of_own b.called_on name args) (built_in_own b.called_on name args) units s go
  needs run b (call.OnObject number name args) units s go =
      meant run (of_object (objects.class s.memory number) number name args) (objects.on_object number name args) units s go
  needs run b (call.OnItems number property name args) units s go = calls (objects.on_items number property name args s) units go
  needs run b (call.Read number property) units s go = calls (objects.read number property s) units go
  needs run b (call.Write number property v) units s go = calls (objects.write number property v s) units go

  -- a frame, where `run` runs the methods that it calls
  abbrev pub runs : RunsMethod → Begun → Frame → ℕ → State → Then ScriptEnd → Call Ending
  runs run b (Ends e) units s go = go e units s
  runs run b (Printing t f) units s go = Tell (Prints t) (runs run b f units s go)
  runs run b (Holds number f) units s go = runs run b f units (with_memory (objects.more number s.memory) s) go
  runs run b (Loses number f) units s go = runs run b f units (with_memory (objects.less number s.memory) s) go
  runs run b (Points f) units s go = points units s (λ units s. runs run b f units s go)
  runs run b (Spends f) zero s go = Give ending.Fuel
  runs run b (Spends f) (suc units) s go = runs run b f units s go
  runs run b (Asks c f) units s go = needs run b c units s (λ a units s. runs run b (f a) units s go)

  -- A whole frame. No loop makes more turns than there are units, since each test takes one.
  abbrev pub whole : Begun → Frame
  whole b = frame b.this fuel b.body b.vars

  abbrev pub begins : Begun → State → State
  begins b s = with_memory (placed_vars b.vars (placed_some b.this s.memory)) s

  -- a method answers its value; any other end of it ends the process
  abbrev pub answers : Option ClassName → ScriptEnd → ℕ → State → Then Answer → Call Ending
  answers class (end.Done v) units s go = go (answer.Got v) units s
  answers class e units s go = Give (ending_of class e)

  -- methods, with so many frames left
  abbrev pub method : ℕ → RunsMethod
  method zero b units s go = go (answer.Error error.FrameStack) units s
  method (suc frames) b units s go = runs (method frames) b (whole b) units (begins b s) (λ e units s. answers b.declarer e units s go)

  abbrev pub script_begun : Block → Begun
  script_begun body = record { body = body; this = None; vars = []; declarer = None; called_on = None }

  -- a whole process: its script's frame is one of 64
  unfoldable pub process : Block → Call Ending
  process script =
      runs (method 63) (script_begun script) (whole (script_begun script)) fuel
      (record { memory = objects.empty; level = 0; test = false; last_error = [] }) (λ e units s. Give (ending_of None e))
