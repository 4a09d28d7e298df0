-- What one instruction does: to the values in progress, the numbers that are kept, and the variables; what it shows or asks, and
-- where the code goes on.
use Rattle.std.specs.Prelude.{ℕ, zero, suc, ℤ, pos, negsuc, ◌+ℤ◌, Bool, true, false, cond, List, [], ◌∷◌, take, drop, reverse, length, Option, Some, None, is_some, Ok, Err}
use Rattle.obj_kinds.specs.declared.node.Node.{Node}
use Rattle.obj_kinds.specs.declared.sub.Sub.{Sub}
use Rattle.obj_kinds.specs.declared.value.Value.{Value}
use Rattle.obj_kinds.specs.declared.op.Owner.TheVariants.{Script}
use Rattle.obj_kinds.specs.declared.op.Op.{Op}
use Rattle.obj_kinds.specs.declared.op.Op.TheVariants as ops
use Rattle.obj_kinds.specs.declared.error_name.ErrorName.TheVariants as error
use Rattle.os_kinds.specs.declared.val.Val.{Val}
use Rattle.os_kinds.specs.declared.val.Val.TheVariants.{Data, Ref}
use Rattle.os_kinds.specs.declared.call.Event.{Event}
use Rattle.os_kinds.specs.declared.call.Event.TheVariants as event
use Rattle.os_kinds.specs.declared.call.Call.{Call}
use Rattle.os_kinds.specs.declared.call.Call.TheVariants as call
use Rattle.os_value.specs.Answers.{and_then}
use Rattle.os_value.specs.Readings.{whole}
use Rattle.os_meaning.specs.Syntax.{Name}
use Rattle.os_meaning.specs.Values.{Checked, plain, text_of, text_value, number_of, number_value, bit, truth, joins, signs, applies, subscript_of, after_of}
use Rattle.os_meaning.specs.Frames.{Vars, value_in, with_var, without_var, read, current, object_in, object_here}
use Rattle.os_meaning.specs.Commands.{tries_of, is_within}
use Rattle.os_code.specs.declared.instruction.Instruction.{Instruction}
use Rattle.os_code.specs.declared.instruction.Instruction.TheVariants as i
use Rattle.os_code.specs.Machine.{last_of}
use Rattle.os_machine.specs.Stacks.{top_of, without_under, without_third}
use Rattle.os_machine.specs.Plains.{node_by}
use Rattle.os_machine.specs.Variables.{last_object}
use Rattle.os_machine.specs.declared.stepped.Sight.{Sight}
use Rattle.os_machine.specs.declared.stepped.Sight.TheVariants as sight
use Rattle.os_machine.specs.declared.stepped.Wanted.{Wanted}
use Rattle.os_machine.specs.declared.stepped.Wanted.TheVariants as want
use Rattle.os_machine.specs.declared.stepped.Awaits.{Awaits}
use Rattle.os_machine.specs.declared.stepped.Awaits.TheVariants as awaits
use Rattle.os_machine.specs.declared.stepped.Stepped.{Stepped}
use Rattle.os_machine.specs.declared.stepped.Stepped.TheVariants as step
use Rattle.os_machine.specs.declared.work.Work.{Work}

abbrev pub event_of : Sight → Event
event_of (sight.Print t) = event.Print t
event_of (sight.More o) = event.More o
event_of (sight.Less o) = event.Less o
event_of sight.Point = event.Point

-- what an instruction does, and what it leaves
abbrev pub Moved : Type 0
Moved = Stepped × Work

abbrev pub lost : Val → ℕ → Stepped
lost (Data v) over = step.Goes over
lost (Ref number class) over = step.Shows (sight.Less number) over

abbrev pub lost_some : Option Val → Stepped
lost_some None = step.Goes 0
lost_some (Some v) = lost v 0

abbrev pub held : Val → Stepped
held (Data v) = step.Goes 0
held (Ref number class) = step.Shows (sight.More number) 0

abbrev pub pushed : Val → Work → Work
pushed v w = record w { stack = v ∷ w.stack }

abbrev pub popped : Work → Work
popped w = record w { stack = drop 1 w.stack }

abbrev pub with_vars : Vars → Work → Work
with_vars vars w = record w { vars = vars }

abbrev pub with_numbers : List ℤ → Work → Work
with_numbers numbers w = record w { numbers = numbers }

-- where something is there, else the code isn't one of a script
abbrev pub on : {A : Type 0} → Option A → Work → (A → Moved) → Moved
on None w go = (step.Halts, w)
on (Some a) w go = go a

-- with a result, or with its error
abbrev pub tested : {A : Type 0} → Checked A → ℕ → Work → (A → Moved) → Moved
tested (Ok a) line w go = go a
tested (Err e) line w go = (step.Fails e line, w)

abbrev pub puts : Checked Value → ℕ → Work → Moved
puts r line w = tested r line w (λ v. (step.Goes 0, pushed (Data v) w))

-- a copy of a value
abbrev pub holds_copy : Val → Work → Moved
holds_copy v w = (held v, pushed v w)

-- the same of a value that may be there
abbrev pub copies : Option Val → Moved → Work → Moved
copies None absent w = absent
copies (Some v) absent w = holds_copy v w

-- the top value goes into a variable
abbrev pub stored_by : Option Val → Name → List Val → Vars → Stepped × (List Val × Vars)
stored_by None name stack vars = (step.Halts, (stack, vars))
stored_by (Some v) name stack vars = (lost_some (value_in name vars), (drop 1 stack, with_var name v vars))

abbrev pub stored : Name → List Val → Vars → Stepped × (List Val × Vars)
stored name stack vars = stored_by (top_of stack) name stack vars

-- ---- sums

-- what a variable's increment makes
abbrev pub raised : Option Val → ℤ → Checked ℤ
raised o b = and_then (current o) (λ a. whole (a +ℤ b))

abbrev pub raised_by : Option Val → Val → Checked ℤ
raised_by o k = and_then (number_of k) (λ b. raised o b)

-- what a loop's variable is next
abbrev pub advanced : Option Val → ℤ → Checked ℤ
advanced o step = and_then (read o) (λ v. and_then (number_of v) (λ a. whole (a +ℤ step)))

-- a variable gets a number
abbrev pub counts : Name → ℤ → Work → Moved
counts x z w = (lost_some (value_in x w.vars), with_vars (with_var x (number_value z) w.vars) w)

-- and the number goes on the stack
abbrev pub counts_on : Name → ℤ → Work → Moved
counts_on x z w = (lost_some (value_in x w.vars), pushed (number_value z) (with_vars (with_var x (number_value z) w.vars) w))

-- ---- jumps

-- the top value goes, and what follows is so many instructions behind
abbrev pub drops : Val → ℕ → Work → Moved
drops v over w = (lost v over, popped w)

-- ---- variables that are lost one by one

abbrev pub sheds : Option (ℕ × Vars) → (Work → Moved) → Work → Moved
sheds None go w = go (with_vars [] w)
sheds (Some p) go w = (step.Stays (sight.Less p.0), with_vars p.1 w)

-- ---- what is asked

abbrev pub asks_op : Op → Wanted → Stepped
asks_op op want = step.Asks (call.Store op) (awaits.Reply want)

-- the values on top, in the order in which they were put: so many, below some others
abbrev pub span : ℕ → ℕ → Work → List Val
span others k w = reverse (take k (drop others w.stack))

-- an operation on a node
abbrev pub asks_node : Checked Node → ℕ → (Node → Op) → Wanted → Stepped
asks_node (Ok n) line op want = asks_op (op n) want
asks_node (Err e) line op want = step.Fails e line

-- the next subscript behind one
abbrev pub asks_after : Checked (Option Sub) → Checked Node → ℕ → Stepped
asks_after (Ok after) n line = asks_node n line (λ n. ops.Order n after) want.Next
asks_after (Err e) n line = step.Fails e line

-- the last value says behind which subscript the next one is sought
abbrev pub asks_next : Name → List Val → ℕ → Stepped
asks_next g [] line = step.Halts
asks_next g (last ∷ vs) line = asks_after (after_of (length vs) last) (node_by g (reverse vs)) line

-- the number of the object whose method runs
abbrev pub own_number : Option Val → Checked ℕ
own_number this = and_then (object_here this) object_in

-- what is asked of an object
abbrev pub asks_object : Checked ℕ → ℕ → (ℕ → Call) → Awaits → Stepped
asks_object (Ok number) line c a = step.Asks (c number) a
asks_object (Err e) line c a = step.Fails e line

-- a method of a value, of a collection, and of the object whose method runs
abbrev pub calls_of : Val → Name → List Val → ℕ → Stepped
calls_of o member args line = asks_object (object_in o) line (λ number. call.OnObject number member args) (awaits.Value line)

abbrev pub calls_items : Checked ℕ → Name → Name → List Val → ℕ → Stepped
calls_items o property member args line = asks_object o line (λ number. call.OnItems number property member args) (awaits.Value line)

abbrev pub calls_here : Option Val → Name → List Val → ℕ → Stepped
calls_here None member args line = step.Asks (call.OnOwn member args) (awaits.Value line)
calls_here (Some o) member args line = calls_of o member args line

-- what a number says of a property that was read: that it is a value
abbrev pub is_value : ℤ → Bool
is_value (pos zero) = true
is_value (pos (suc n)) = false
is_value (negsuc n) = false

-- ---- locks: how often one is tried, and how many values stand above its subscripts

abbrev pub times_of : Option Val → Option (Checked (Option ℕ))
times_of None = None
times_of (Some v) = Some (and_then (number_of v) (λ z. Ok (Some (tries_of z))))

abbrev pub lock_times : Bool → Option Val → Option (Checked (Option ℕ))
lock_times false top = Some (Ok None)
lock_times true top = times_of top

abbrev pub above : Bool → ℕ
above true = 1
above false = 0

-- the times and the node of a lock
abbrev pub locks_by : Name → ℕ → Bool → ℕ → Work → (Option ℕ → Node → Moved) → Moved
locks_by g k timed line w go =
    on (lock_times timed (top_of w.stack)) w (λ times. tested times line w (λ t. tested (node_by g (span (above timed) k w)) line w (λ n. go t n)))

-- ---- prints

abbrev pub shows_text : List ℕ → Stepped
shows_text [] = step.Goes 0
shows_text (b ∷ t) = step.Shows (sight.Print (b ∷ t)) 0

module _ (this : Option Val) where
  abbrev pub move : Instruction → Work → Moved
  move (i.Push t) w = (step.Goes 0, pushed (text_value t) w)
  move (i.PushTruth t) w = (step.Goes 0, pushed (bit t) w)
  move (i.Load x line) w = copies (value_in x w.vars) (step.Fails error.Undefined line, w) w
  move (i.LoadOrEmpty x) w = copies (value_in x w.vars) (step.Goes 0, pushed (text_value []) w) w
  move (i.LoadOrJump x k) w = copies (value_in x w.vars) (step.Goes k, w) w
  move (i.IsSet x) w = (step.Goes 0, pushed (bit (is_some (value_in x w.vars))) w)
  move (i.This line) w = copies this (step.Fails error.InvalidOref line, w) w
  move (i.TestThis line) w = tested (object_here this) line w (λ _. (step.Goes 0, w))
  move (i.Sign sign line) w = on (top_of w.stack) w (λ x. puts (signs sign x) line w)
  move (i.Operate op line) w = on (top_of w.stack) w (λ y. on (top_of (drop 1 w.stack)) w (λ x. puts (joins op x y) line w))
  move (i.Apply f k line) w = puts (applies f (span 0 k w)) line w
  move (i.SkipUnless k line) w = on (top_of w.stack) w (λ v. tested (truth v) line w (λ t. (step.Goes (cond t 0 k), w)))
  move (i.SkipWhere k line) w = on (top_of w.stack) w (λ v. tested (truth v) line w (λ t. (step.Goes (cond t k 0), w)))
  move (i.Truth line) w = on (top_of w.stack) w (λ v. tested (truth v) line w (λ t. (step.Goes 0, pushed (bit t) w)))
  move i.DropUnder w = on (top_of (drop 1 w.stack)) w (λ v. (lost v 0, record w { stack = without_under w.stack }))
  move i.DropTop w = on (top_of w.stack) w (λ v. drops v 0 w)
  move (i.Increment x line) w = tested (raised (value_in x w.vars) (pos 1)) line w (λ z. counts_on x z w)
  move (i.IncrementBy x line) w = on (top_of w.stack) w (λ k. tested (raised_by (value_in x w.vars) k) line w (λ z. counts_on x z w))
  move (i.TestSubscript others line) w = on (top_of w.stack) w (λ v. tested (subscript_of others v) line w (λ _. (step.Goes 0, w)))
  move (i.TestAfter others line) w = on (top_of w.stack) w (λ v. tested (after_of others v) line w (λ _. (step.Goes 0, w)))
  move (i.Get g k line) w = (asks_node (node_by g (span 0 k w)) line ops.Get (want.Found line), w)
  move (i.GetOrEmpty g k line) w = (asks_node (node_by g (span 0 k w)) line ops.Get want.FoundOrEmpty, w)
  move (i.GetOrSkip g k line) w = on (top_of w.stack) w (λ _. (asks_node (node_by g (span 1 k w)) line ops.Get want.FoundOrSkip, w))
  move (i.Defined g k line) w = (asks_node (node_by g (span 0 k w)) line ops.Defined want.State, w)
  move (i.Order g k line) w = (asks_next g (take k w.stack) line, w)
  move (i.Incr g k line) w = (asks_node (node_by g (span 0 k w)) line (λ n. ops.Incr n (pos 1)) (want.Counted line), w)
  move (i.IncrBy g k line) w =
      on (top_of w.stack) w (λ v. tested (number_of v) line w (λ b. (asks_node (node_by g (span 1 k w)) line (λ n. ops.Incr n b) (want.Counted line), w)))
  move (i.Set g k line) w = on (top_of w.stack) w (λ v. (asks_node (node_by g (span 1 k w)) line (λ n. ops.Set n (plain v)) want.Done, w))
  move (i.Kill g k line) w = (asks_node (node_by g (span 0 k w)) line ops.Kill want.Done, w)
  move i.UnlockAll w = (asks_op (ops.UnlockAll Script) want.Done, w)
  move (i.Begin line) w = (asks_op ops.Begin (want.Begun line), w)
  move (i.Commit line) w = (asks_op ops.Commit (want.Committed line), w)
  move i.RollbackAll w = (asks_op ops.RollbackAll want.Done, w)
  move i.RollbackOne w = (asks_op ops.RollbackOne want.Undone, w)
  move (i.TestLock g k timed line) w = locks_by g k timed line w (λ times n. (step.Goes 0, w))
  move (i.TryLock g k mode timed line) w = locks_by g k timed line w (λ times n. (step.Asks (call.TryLock n mode times) awaits.Tried, w))
  move (i.Unlock g k mode timed line) w = locks_by g k timed line w (λ times n. (asks_op (ops.Unlock n mode Script) want.GivenBack, w))
  move (i.Special special line) w = (step.Asks (call.Special special) (awaits.Value line), w)
  move (i.CallClass class m k line) w = (step.Asks (call.OnClass class m (span 0 k w)) (awaits.Value line), w)
  move (i.CallMember m k line) w = on (top_of (drop k w.stack)) w (λ o. (calls_of o m (span 0 k w) line, w))
  move (i.CallOwn m k line) w = (calls_here this m (span 0 k w) line, w)
  move (i.Read p line) w = on (top_of w.stack) w (λ o. (asks_object (object_in o) line (λ number. call.Read number p) (awaits.Value line), w))
  move (i.ReadOwn p line) w = (asks_object (own_number this) line (λ number. call.Read number p) (awaits.Value line), w)
  move (i.ReadSubject p line) w = on (top_of w.stack) w (λ o. (asks_object (object_in o) line (λ number. call.Read number p) (awaits.Subject line), w))
  move (i.ReadOwnSubject p line) w = (asks_object (own_number this) line (λ number. call.Read number p) (awaits.OwnSubject line), w)
  move (i.CallSubject p m k line) w =
      on (top_of w.numbers) w (λ kind. on (top_of (drop k w.stack)) w (λ o.
      (cond (is_value kind) (calls_of o m (span 0 k w) line) (calls_items (object_in o) p m (span 0 k w) line), with_numbers (drop 1 w.numbers) w)))
  move (i.CallOwnSubject p m k line) w =
      on (top_of w.numbers) w (λ kind. on (top_of (drop k w.stack)) w (λ v.
      (cond (is_value kind) (calls_of v m (span 0 k w) line) (calls_items (own_number this) p m (span 0 k w) line), with_numbers (drop 1 w.numbers) w)))
  move (i.Write p line) w =
      on (top_of w.stack) w (λ v. on (top_of (drop 1 w.stack)) w (λ o. (asks_object (object_in o) line (λ number. call.Write number p v) (awaits.Written line), w)))
  move (i.WriteOwn p line) w = on (top_of w.stack) w (λ v. (asks_object (own_number this) line (λ number. call.Write number p v) (awaits.Written line), w))
  move (i.Store x) w = let s = stored x w.stack w.vars in (s.0, record w { stack = s.1.0; vars = s.1.1 })
  move i.Unit w = (step.Spends, w)
  move i.Point w = (step.Shows sight.Point 0, w)
  move (i.Print line) w = on (top_of w.stack) w (λ v. tested (text_of v) line w (λ t. (shows_text t, w)))
  move i.PrintLine w = (step.Shows (sight.Print (10 ∷ [])) 0, w)
  move (i.Go k) w = (step.Goes k, w)
  move (i.JumpUnless k line) w = on (top_of w.stack) w (λ v. tested (truth v) line w (λ t. drops v (cond t 0 k) w))
  move (i.Again b) w = (step.Returns b, w)
  move (i.TakeNumber line) w = on (top_of w.stack) w (λ v. tested (number_of v) line w (λ z. (lost v 0, with_numbers (z ∷ w.numbers) (popped w))))
  move i.NoLast w = (step.Goes 0, with_numbers (pos 0 ∷ w.numbers) w)
  move (i.BeginFor x) w = on (top_of (drop 2 w.numbers)) w (λ first. counts x first w)
  move (i.FirstTest bounded k) w =
      on (top_of w.numbers) w (λ last. on (top_of (drop 1 w.numbers)) w (λ by. on (top_of (drop 2 w.numbers)) w (λ first.
      (step.Goes (cond (is_within (last_of bounded last) by first) 1 k), with_numbers (without_third w.numbers) w))))
  move (i.Advance x bounded k line) w =
      on (top_of w.numbers) w (λ last. on (top_of (drop 1 w.numbers)) w (λ by.
      tested (advanced (value_in x w.vars) by) line w (λ z. cond (is_within (last_of bounded last) by z) (counts x z w) (step.Goes k, w))))
  move i.EndFor w = on (top_of (drop 1 w.numbers)) w (λ _. (step.Goes 0, with_numbers (drop 2 w.numbers) w))
  move (i.Clear x) w = (lost_some (value_in x w.vars), with_vars (without_var x w.vars) w)
  move i.ClearAll w = sheds (last_object w.vars) (λ w. (step.Goes 0, w)) w
  move i.Return w = on (top_of w.stack) w (λ v. sheds (last_object w.vars) (λ w. (step.Leaves v, popped w)) w)
  move i.Halt w = (step.Halts, w)

-- an instruction that doesn't speak of the object whose method runs
abbrev pub moves : Instruction → Work → Moved
moves = move None
