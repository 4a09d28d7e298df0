-- What flat code does. The rest of the code stands for the place of the next instruction.
use Rattle.std.specs.Prelude.{ℕ, zero, suc, ◌+◌, ◌-◌, ℤ, pos, ◌+ℤ◌, Bool, true, false, cond, List, [], ◌∷◌, take, drop, reverse, length, Option, Some, None, is_some}
use Rattle.obj_kinds.specs.declared.node.Node.{Node}
use Rattle.obj_kinds.specs.declared.op.Mode.{Mode}
use Rattle.obj_kinds.specs.declared.op.Owner.TheVariants.{Script}
use Rattle.obj_kinds.specs.declared.op.Op.TheVariants as ops
use Rattle.os_kinds.specs.declared.val.Val.{Val}
use Rattle.os_kinds.specs.declared.val.Val.TheVariants.{Data}
use Rattle.os_kinds.specs.declared.call.Call.TheVariants as call
use Rattle.os_kinds.specs.declared.call.ScriptEnd.TheVariants as end
use Rattle.os_value.specs.Readings.{whole}
use Rattle.os_meaning.specs.Syntax.{Name}
use Rattle.os_meaning.specs.Values.{text_of, text_value, number_of, number_value, bit, truth, joins, signs, applies, subscript_of, after_of}
use Rattle.os_meaning.specs.Frames.{Frame, Ends, Prints, Points, Spends, Asks, Vars, Whole, Collection, checked, holds, loses, loses_some, loses_vars, prints, misfit, value_in, with_var, without_var, read, current, object_in, object_here, on_got, on_read, on_reply, given_back, begun, committed, undone, at_node, gets, defines, sets, kills, increments, orders, calls, calls_own, writes}
use Rattle.os_meaning.specs.Expressions.{copied_or, next_value}
use Rattle.os_meaning.specs.Commands.{tries, tries_of, asks, asks_done, is_within, advances, leaves}
use Rattle.os_code.specs.declared.instruction.Instruction.{Instruction}
use Rattle.os_code.specs.declared.instruction.Instruction.TheVariants as i

-- what follows: the values in progress, the numbers that are kept, and the variables
abbrev pub Next : Type 0
Next = List Val → List ℤ → Vars → Frame

abbrev pub on_top : List Val → (Val → List Val → Frame) → Frame
on_top [] go = misfit
on_top (v ∷ stack) go = go v stack

abbrev pub on_numbers : List ℤ → (ℤ → ℤ → List ℤ → Frame) → Frame
on_numbers (last ∷ step ∷ numbers) go = go last step numbers
on_numbers _ go = misfit

abbrev pub on_number : List ℤ → (ℤ → List ℤ → Frame) → Frame
on_number [] go = misfit
on_number (n ∷ numbers) go = go n numbers

-- the last number of a loop, where it has one
abbrev pub last_of : Bool → ℤ → Option ℤ
last_of true z = Some z
last_of false z = None

-- whether what was read is a value or a collection, as a number
abbrev pub as_value : ℤ
as_value = pos 0

abbrev pub as_items : ℤ
as_items = pos 1

-- a lock is given back
abbrev pub gives_back : Node → Mode → Frame → Frame
gives_back n mode f = Asks (call.Store (ops.Unlock n mode Script)) (λ a. on_reply a (λ r. given_back r f))

-- a method of what was read: of the value, or of the collection of this object
abbrev pub called_by : ℤ → Val → Name → Name → List Val → ℕ → (Val → Frame) → Frame
called_by (pos zero) v property member vs line go = calls (Whole v) member vs line go
called_by _ object property member vs line go = checked (object_in object) line (λ number. calls (Collection number property) member vs line go)

-- the same, where the object is the one whose method runs
abbrev pub owned_by : ℤ → Option Val → Val → Name → Name → List Val → ℕ → (Val → Frame) → Frame
owned_by (pos zero) this v property member vs line go = calls (Whole v) member vs line go
owned_by _ this v property member vs line go =
    checked (object_here this) line (λ object. checked (object_in object) line (λ number. calls (Collection number property) member vs line go))

-- how often a lock is tried, by the timeout on top of the subscripts
abbrev pub timed_by : Bool → ℕ → List Val → (Option ℕ → List Val → Frame) → Frame
timed_by false line stack go = go None stack
timed_by true line stack go = on_top stack (λ v rest. checked (number_of v) line (λ z. go (Some (tries_of z)) rest))

module _ (this : Option Val) where
  -- One instruction: `go k` goes on behind the next k instructions, `spend` takes a unit and goes on, `again b` takes a
  -- unit and goes back.
  abbrev pub act : Instruction → (ℕ → Next) → Next → (ℕ → Next) → Next
  act (i.Push t) go spend again stack ns vars = go 0 (text_value t ∷ stack) ns vars
  act (i.PushTruth t) go spend again stack ns vars = go 0 (bit t ∷ stack) ns vars
  act (i.Load x line) go spend again stack ns vars = checked (read (value_in x vars)) line (λ v. holds v (go 0 (v ∷ stack) ns vars))
  act (i.LoadOrEmpty x) go spend again stack ns vars = copied_or (value_in x vars) (λ v. go 0 (v ∷ stack) ns vars) (go 0 (text_value [] ∷ stack) ns vars)
  act (i.LoadOrJump x k) go spend again stack ns vars = copied_or (value_in x vars) (λ v. go 0 (v ∷ stack) ns vars) (go k stack ns vars)
  act (i.IsSet x) go spend again stack ns vars = go 0 (bit (is_some (value_in x vars)) ∷ stack) ns vars
  act (i.This line) go spend again stack ns vars = checked (object_here this) line (λ v. holds v (go 0 (v ∷ stack) ns vars))
  act (i.TestThis line) go spend again stack ns vars = checked (object_here this) line (λ _. go 0 stack ns vars)
  act (i.Sign sign line) go spend again stack ns vars = on_top stack (λ x _. checked (signs sign x) line (λ r. go 0 (Data r ∷ stack) ns vars))
  act (i.Operate op line) go spend again stack ns vars =
      on_top stack (λ y rest. on_top rest (λ x _. checked (joins op x y) line (λ r. go 0 (Data r ∷ stack) ns vars)))
  act (i.Apply f k line) go spend again stack ns vars = checked (applies f (reverse (take k stack))) line (λ r. go 0 (Data r ∷ stack) ns vars)
  act (i.SkipUnless k line) go spend again stack ns vars =
      on_top stack (λ v _. checked (truth v) line (λ t. cond t (go 0 stack ns vars) (go k stack ns vars)))
  act (i.SkipWhere k line) go spend again stack ns vars =
      on_top stack (λ v _. checked (truth v) line (λ t. cond t (go k stack ns vars) (go 0 stack ns vars)))
  act (i.Truth line) go spend again stack ns vars = on_top stack (λ v _. checked (truth v) line (λ t. go 0 (bit t ∷ stack) ns vars))
  act i.DropUnder go spend again stack ns vars = on_top stack (λ r rest. on_top rest (λ v below. loses v (go 0 (r ∷ below) ns vars)))
  act i.DropTop go spend again stack ns vars = on_top stack (λ v rest. loses v (go 0 rest ns vars))
  act (i.Increment x line) go spend again stack ns vars =
      checked (current (value_in x vars)) line (λ a. checked (whole (a +ℤ pos 1)) line (λ z.
      loses_some (value_in x vars) (go 0 (number_value z ∷ stack) ns (with_var x (number_value z) vars))))
  act (i.IncrementBy x line) go spend again stack ns vars =
      on_top stack (λ k _. checked (number_of k) line (λ b. checked (current (value_in x vars)) line (λ a. checked (whole (a +ℤ b)) line (λ z.
      loses_some (value_in x vars) (go 0 (number_value z ∷ stack) ns (with_var x (number_value z) vars))))))
  act (i.TestSubscript others line) go spend again stack ns vars = on_top stack (λ v _. checked (subscript_of others v) line (λ _. go 0 stack ns vars))
  act (i.TestAfter others line) go spend again stack ns vars = on_top stack (λ v _. checked (after_of others v) line (λ _. go 0 stack ns vars))
  act (i.Get g k line) go spend again stack ns vars =
      gets g (take k stack) line (λ v. go 0 (v ∷ stack) ns vars) (checked (read None) line (λ v. go 0 stack ns vars))
  act (i.GetOrEmpty g k line) go spend again stack ns vars =
      gets g (take k stack) line (λ v. go 0 (v ∷ stack) ns vars) (go 0 (text_value [] ∷ stack) ns vars)
  act (i.GetOrSkip g k line) go spend again stack ns vars =
      on_top stack (λ _ rest. gets g (take k rest) line (λ v. go 0 (v ∷ stack) ns vars) (go 1 stack ns vars))
  act (i.Defined g k line) go spend again stack ns vars = defines g (take k stack) line (λ n. go 0 (number_value (pos n) ∷ stack) ns vars)
  act (i.Order g k line) go spend again stack ns vars = orders g (take k stack) line (λ next. go 0 (next_value next ∷ stack) ns vars)
  act (i.Incr g k line) go spend again stack ns vars = increments g (take k stack) (pos 1) line (λ z. go 0 (number_value z ∷ stack) ns vars)
  act (i.IncrBy g k line) go spend again stack ns vars =
      on_top stack (λ v rest. checked (number_of v) line (λ b. increments g (take k rest) b line (λ z. go 0 (number_value z ∷ stack) ns vars)))
  act (i.Set g k line) go spend again stack ns vars = on_top stack (λ v rest. sets g (take k rest) v line (go 0 stack ns vars))
  act (i.Kill g k line) go spend again stack ns vars = kills g (take k stack) line (go 0 stack ns vars)
  act i.UnlockAll go spend again stack ns vars = asks_done (ops.UnlockAll Script) (go 0 stack ns vars)
  act (i.Begin line) go spend again stack ns vars = asks ops.Begin (λ r. begun line r (go 0 stack ns vars))
  act (i.Commit line) go spend again stack ns vars = asks ops.Commit (λ r. committed line r (go 0 stack ns vars))
  act i.RollbackAll go spend again stack ns vars = asks_done ops.RollbackAll (go 0 stack ns vars)
  act i.RollbackOne go spend again stack ns vars = asks ops.RollbackOne (λ r. undone r (go 0 stack ns vars))
  act (i.TestLock g k timed line) go spend again stack ns vars =
      timed_by timed line stack (λ times rest. at_node g (take k rest) line (λ n. go 0 stack ns vars))
  act (i.TryLock g k mode timed line) go spend again stack ns vars =
      timed_by timed line stack (λ times rest. at_node g (take k rest) line (λ n. tries n mode times (go 0 stack ns vars)))
  act (i.Unlock g k mode timed line) go spend again stack ns vars =
      timed_by timed line stack (λ times rest. at_node g (take k rest) line (λ n. gives_back n mode (go 0 stack ns vars)))
  act (i.Special special line) go spend again stack ns vars = Asks (call.Special special) (λ a. on_got line a (λ v. go 0 (v ∷ stack) ns vars))
  act (i.CallClass class m k line) go spend again stack ns vars =
      Asks (call.OnClass class m (reverse (take k stack))) (λ a. on_got line a (λ v. go 0 (v ∷ stack) ns vars))
  act (i.CallMember m k line) go spend again stack ns vars =
      on_top (drop k stack) (λ o _. calls (Whole o) m (take k stack) line (λ v. go 0 (v ∷ stack) ns vars))
  act (i.CallOwn m k line) go spend again stack ns vars = calls_own this m (take k stack) line (λ v. go 0 (v ∷ stack) ns vars)
  act (i.Read p line) go spend again stack ns vars =
      on_top stack (λ o _. checked (object_in o) line (λ number. Asks (call.Read number p) (λ a. on_got line a (λ v. go 0 (v ∷ stack) ns vars))))
  act (i.ReadOwn p line) go spend again stack ns vars =
      checked (object_here this) line (λ o. checked (object_in o) line (λ number. Asks (call.Read number p) (λ a. on_got line a (λ v. go 0 (v ∷ stack) ns vars))))
  act (i.ReadSubject p line) go spend again stack ns vars =
      on_top stack (λ o _. checked (object_in o) line (λ number. Asks (call.Read number p) (λ a. on_read line a
      (λ v. go 0 (v ∷ stack) (as_value ∷ ns) vars) (go 1 stack (as_items ∷ ns) vars))))
  act (i.ReadOwnSubject p line) go spend again stack ns vars =
      checked (object_here this) line (λ o. checked (object_in o) line (λ number. Asks (call.Read number p) (λ a. on_read line a
      (λ v. go 0 (v ∷ stack) (as_value ∷ ns) vars) (go 0 (text_value [] ∷ stack) (as_items ∷ ns) vars))))
  act (i.CallSubject p m k line) go spend again stack ns vars =
      on_number ns (λ kind below. on_top (drop k stack) (λ o _. called_by kind o p m (take k stack) line (λ v. go 0 (v ∷ stack) below vars)))
  act (i.CallOwnSubject p m k line) go spend again stack ns vars =
      on_number ns (λ kind below. on_top (drop k stack) (λ v _. owned_by kind this v p m (take k stack) line (λ r. go 0 (r ∷ stack) below vars)))
  act (i.Write p line) go spend again stack ns vars = on_top stack (λ v rest. on_top rest (λ o _. writes o p v line (go 0 stack ns vars)))
  act (i.WriteOwn p line) go spend again stack ns vars =
      on_top stack (λ v _. checked (object_here this) line (λ o. writes o p v line (go 0 stack ns vars)))
  act (i.Store x) go spend again stack ns vars = on_top stack (λ v rest. loses_some (value_in x vars) (go 0 rest ns (with_var x v vars)))
  act i.Unit go spend again stack ns vars = spend stack ns vars
  act i.Point go spend again stack ns vars = Points (go 0 stack ns vars)
  act (i.Print line) go spend again stack ns vars = on_top stack (λ v _. checked (text_of v) line (λ t. prints t (go 0 stack ns vars)))
  act i.PrintLine go spend again stack ns vars = Prints (10 ∷ []) (go 0 stack ns vars)
  act (i.Go k) go spend again stack ns vars = go k stack ns vars
  act (i.JumpUnless k line) go spend again stack ns vars =
      on_top stack (λ v rest. checked (truth v) line (λ t. loses v (cond t (go 0 rest ns vars) (go k rest ns vars))))
  act (i.Again b) go spend again stack ns vars = again b stack ns vars
  act (i.TakeNumber line) go spend again stack ns vars = on_top stack (λ v rest. checked (number_of v) line (λ z. loses v (go 0 rest (z ∷ ns) vars)))
  act i.NoLast go spend again stack ns vars = go 0 stack (pos 0 ∷ ns) vars
  act (i.BeginFor x) go spend again stack ns vars =
      on_numbers ns (λ last step more. on_number more (λ first _. loses_some (value_in x vars) (go 0 stack ns (with_var x (number_value first) vars))))
  act (i.FirstTest bounded k) go spend again stack ns vars =
      on_numbers ns (λ last step more. on_number more (λ first below.
      cond (is_within (last_of bounded last) step first) (go 1 stack (last ∷ step ∷ below) vars) (go k stack (last ∷ step ∷ below) vars)))
  act (i.Advance x bounded k line) go spend again stack ns vars =
      on_numbers ns (λ last step _. advances line x (last_of bounded last) step vars (λ vars. go 0 stack ns vars) (λ vars. go k stack ns vars))
  act i.EndFor go spend again stack ns vars = on_numbers ns (λ _ _ below. go 0 stack below vars)
  act (i.Clear x) go spend again stack ns vars = loses_some (value_in x vars) (go 0 stack ns (without_var x vars))
  act i.ClearAll go spend again stack ns vars = loses_vars vars (go 0 stack ns [])
  act i.Return go spend again stack ns vars = on_top stack (λ v _. leaves this 0 v vars)
  act i.Halt go spend again stack ns vars = Ends end.Halt

  module _ (code : List Instruction) where
    -- the code from so many instructions before the rest
    abbrev pub back : ℕ → List Instruction → List Instruction
    back b rest = drop (length code - (length rest + b)) code

    abbrev pub walk : (List Instruction → Next) → ℕ → List Instruction → Next
    walk spend skip [] stack ns vars = misfit
    walk spend zero (x ∷ rest) stack ns vars =
        act x (λ k. walk spend k rest) (spend rest) (λ b. spend (back b rest)) stack ns vars
    walk spend (suc skip) (x ∷ rest) stack ns vars = walk spend skip rest stack ns vars

    -- where a unit is taken and so many are left
    abbrev pub spent : ℕ → List Instruction → Next
    spent zero rest stack ns vars = Ends end.Fuel
    spent (suc units) rest stack ns vars = Spends (walk (spent units) 0 rest stack ns vars)

    -- from an instruction on, with so many units
    abbrev pub from : ℕ → List Instruction → Next
    from units = walk (spent units) 0

  -- the whole code
  abbrev pub flat : ℕ → List Instruction → Vars → Frame
  flat units code vars = from code units code [] [] vars
