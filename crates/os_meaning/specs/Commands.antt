-- What a command without blocks means, and the arguments of commands with blocks.
use Rattle.std.specs.Prelude.{ℕ, zero, suc, ℤ, ◌+ℤ◌, pos, negsuc, int_le, int_lt, Bool, true, false, cond, ◌||◌, List, [], ◌∷◌, Option, Some, None}
use Rattle.obj_kinds.specs.declared.node.Node.{Node}
use Rattle.obj_kinds.specs.declared.op.Mode.{Mode}
use Rattle.obj_kinds.specs.declared.op.Owner.TheVariants.{Script}
use Rattle.obj_kinds.specs.declared.op.Op.{Op}
use Rattle.obj_kinds.specs.declared.op.Reply.{Reply}
use Rattle.obj_kinds.specs.declared.op.Op.TheVariants as ops
use Rattle.os_kinds.specs.declared.val.Val.{Val}
use Rattle.os_kinds.specs.declared.call.Call.TheVariants as call
use Rattle.os_kinds.specs.declared.call.ScriptEnd.TheVariants as end
use Rattle.os_kinds.specs.declared.command.LockAction.{LockAction}
use Rattle.os_kinds.specs.declared.command.LockAction.TheVariants.{Renew, Add, Remove}
use Rattle.os_value.specs.Readings.{whole}
use Rattle.os_meaning.specs.Syntax as s
use Rattle.os_meaning.specs.Syntax.{Name, Expr, Place, Target, Assignment, Claim, Action}
use Rattle.os_meaning.specs.Values.{text_of, number_of, number_value, truth}
use Rattle.os_meaning.specs.Frames.{Frame, Ends, Prints, Points, Spends, Asks, Vars, Rest, checked, loses, loses_each, loses_some, loses_vars, prints, value_in, with_var, without_var, read, object_here, on_reply, on_tried, done, given_back, begun, committed, undone, at_node, sets, kills, writes}
use Rattle.os_meaning.specs.Expressions.{value, subscripts}

-- ---- locks

-- how often a lock with a timeout is tried
abbrev pub tries_of : ℤ → ℕ
tries_of (pos zero) = 1
tries_of (pos (suc n)) = suc n
tries_of (negsuc n) = 1

abbrev pub tries : Node → Mode → Option ℕ → Frame → Frame
tries n mode times f = Asks (call.TryLock n mode times) (λ a. on_tried a f)

abbrev pub asks_done : Op → Frame → Frame
asks_done op f = Asks (call.Store op) (λ a. on_reply a (λ r. done r f))

-- The first name without a sign gives back all locks before it is asked for.
abbrev pub locks : LockAction → Bool → Node → Mode → Option ℕ → Frame → Frame
locks Renew false n mode times f = asks_done (ops.UnlockAll Script) (tries n mode times f)
locks Renew true n mode times f = tries n mode times f
locks Add renewed n mode times f = tries n mode times f
locks Remove renewed n mode times f = Asks (call.Store (ops.Unlock n mode Script)) (λ a. on_reply a (λ r. given_back r f))

abbrev pub renews : LockAction → Bool
renews Renew = true
renews _ = false

-- ---- loops

-- whether a number is within the last one, by the sign of the step; without a last one it is
abbrev pub is_within : Option ℤ → ℤ → ℤ → Bool
is_within None step a = true
is_within (Some last) step a = cond (int_lt step (pos 0)) (int_le last a) (int_le a last)

-- the test of a FOR after a turn: the variable's number and the step
abbrev pub advances : ℕ → Name → Option ℤ → ℤ → Vars → Rest → Rest → Frame
advances line x last step vars hit miss =
    checked (read (value_in x vars)) line (λ v. checked (number_of v) line (λ a. checked (whole (a +ℤ step)) line (λ b.
    cond (is_within last step b) (loses_some (value_in x vars) (hit (with_var x (number_value b) vars))) (miss vars))))

-- ---- transactions

abbrev pub asks : Op → (Reply → Frame) → Frame
asks op go = Asks (call.Store op) (λ a. on_reply a go)

module _ (this : Option Val) (line : ℕ) where
  -- conditions, up to the first that doesn't hold
  abbrev pub meets : List Expr → Vars → Rest → Rest → Frame
  meets [] vars hit miss = hit vars
  meets (c ∷ cs) vars hit miss =
      value this line c vars (λ v vars. checked (truth v) line (λ t. loses v (cond t (meets cs vars hit miss) (miss vars))))

  -- the object or the subscripts of the target come before the value
  abbrev pub assigns : Target → Expr → Vars → Rest → Frame
  assigns (s.OfPlace (s.Local x)) e vars go =
      value this line e vars (λ v vars. loses_some (value_in x vars) (Points (go (with_var x v vars))))
  assigns (s.OfPlace (s.Global g subs)) e vars go =
      subscripts this line subs [] vars (λ vs vars. value this line e vars (λ v vars. sets g vs v line (loses v (loses_each vs (Points (go vars))))))
  assigns (s.OfOwn name) e vars go =
      checked (object_here this) line (λ o. value this line e vars (λ v vars. writes o name v line (loses v (Points (go vars)))))
  assigns (s.OfProperty object name) e vars go =
      value this line object vars (λ o vars. value this line e vars (λ v vars. writes o name v line (loses v (loses o (Points (go vars))))))

  -- each argument of a command takes a unit and ends at a point
  abbrev pub assigns_all : List Assignment → Vars → Rest → Frame
  assigns_all [] vars go = go vars
  assigns_all (a ∷ rest) vars go = Spends (assigns a.target a.value vars (λ vars. assigns_all rest vars go))

  abbrev pub writes_all : List (Option Expr) → Vars → Rest → Frame
  writes_all [] vars go = go vars
  writes_all (None ∷ rest) vars go = Spends (Prints (10 ∷ []) (Points (writes_all rest vars go)))
  writes_all (Some e ∷ rest) vars go =
      Spends (value this line e vars (λ v vars. checked (text_of v) line (λ t. prints t (loses v (Points (writes_all rest vars go))))))

  abbrev pub calls_all : List Expr → Vars → Rest → Frame
  calls_all [] vars go = go vars
  calls_all (e ∷ rest) vars go = Spends (value this line e vars (λ v vars. loses v (Points (calls_all rest vars go))))

  abbrev pub kills_all : List Place → Vars → Rest → Frame
  kills_all [] vars go = go vars
  kills_all (s.Local x ∷ rest) vars go = Spends (loses_some (value_in x vars) (Points (kills_all rest (without_var x vars) go)))
  kills_all (s.Global g subs ∷ rest) vars go =
      Spends (subscripts this line subs [] vars (λ vs vars. kills g vs line (loses_each vs (Points (kills_all rest vars go)))))

  -- how often a lock is tried, and the value that says so
  abbrev pub timed : Option Expr → Vars → (Option ℕ → Option Val → Rest) → Frame
  timed None vars go = go None None vars
  timed (Some e) vars go = value this line e vars (λ v vars. checked (number_of v) line (λ z. go (Some (tries_of z)) (Some v) vars))

  abbrev pub locks_all : Bool → List Claim → Vars → Rest → Frame
  locks_all renewed [] vars go = go vars
  locks_all renewed (c ∷ rest) vars go =
      Spends (subscripts this line c.subs [] vars (λ vs vars. timed c.timeout vars (λ times held vars.
      at_node c.global vs line (λ n. locks c.action renewed n c.mode times
      (loses_some held (loses_each vs (Points (locks_all (renewed || renews c.action) rest vars go))))))))

  -- a frame ends with a value: its variables are lost, and its object
  abbrev pub leaves : Val → Rest
  leaves v vars = loses_vars vars (loses_some this (Ends (end.Done v)))

  -- a command without blocks, where `quit` is what follows a QUIT
  abbrev pub acts : Action → Vars → Rest → Rest → Frame
  acts (s.Set list) vars go quit = assigns_all list vars go
  acts (s.Write list) vars go quit = writes_all list vars go
  acts (s.Do list) vars go quit = calls_all list vars go
  acts (s.Kill list) vars go quit = kills_all list vars go
  acts s.KillAll vars go quit = Spends (loses_vars vars (Points (go [])))
  acts (s.Lock list) vars go quit = locks_all false list vars go
  acts s.UnlockAll vars go quit = Spends (asks_done (ops.UnlockAll Script) (Points (go vars)))
  acts s.TStart vars go quit = Spends (asks ops.Begin (λ r. begun line r (Points (go vars))))
  acts s.TCommit vars go quit = Spends (asks ops.Commit (λ r. committed line r (Points (go vars))))
  acts s.TRollback vars go quit = Spends (asks_done ops.RollbackAll (Points (go vars)))
  acts s.TRollbackOne vars go quit = Spends (asks ops.RollbackOne (λ r. undone r (Points (go vars))))
  acts s.Quit vars go quit = Spends (Points (quit vars))
  acts (s.QuitWith e) vars go quit = Spends (value this line e vars (λ v vars. Points (leaves v vars)))
  acts s.Halt vars go quit = Spends (Ends end.Halt)

  -- a postcondition takes no unit, and ends at a point whether it holds or not
  abbrev pub acts_where : Option Expr → Action → Vars → Rest → Rest → Frame
  acts_where None action vars go quit = acts action vars go quit
  acts_where (Some c) action vars go quit = meets (c ∷ []) vars (λ vars. Points (acts action vars go quit)) (λ vars. Points (go vars))

  -- the conditions of an IF: each that is tested is an argument
  abbrev pub chooses : List Expr → Vars → Rest → Rest → Frame
  chooses [] vars hit miss = hit vars
  chooses (c ∷ cs) vars hit miss =
      Spends (meets (c ∷ []) vars (λ vars. Points (chooses cs vars hit miss)) (λ vars. Points (miss vars)))

  -- a number in the header of a FOR
  abbrev pub number : Expr → Vars → (ℤ → Rest) → Frame
  number e vars go = value this line e vars (λ v vars. checked (number_of v) line (λ z. loses v (go z vars)))

  abbrev pub last_number : Option Expr → Vars → (Option ℤ → Rest) → Frame
  last_number None vars go = go None vars
  last_number (Some e) vars go = number e vars (λ z vars. go (Some z) vars)
