-- The flat code of a script, put before the code that follows. Sizes count instructions.
use Rattle.std.specs.Prelude.{ℕ, zero, suc, ◌+◌, Bool, true, false, ◌||◌, List, [], ◌∷◌, Option, Some, None}
use Rattle.obj_kinds.specs.declared.op.Mode.{Mode}
use Rattle.os_kinds.specs.declared.command.LockAction.{LockAction}
use Rattle.os_kinds.specs.declared.command.LockAction.TheVariants.{Renew, Add, Remove}
use Rattle.os_meaning.specs.Syntax as s
use Rattle.os_meaning.specs.Syntax.{Name, Expr, Exprs, Place, Target, Assignment, Claim, Action, Command, Block, Branches}
use Rattle.os_meaning.specs.Commands.{renews}
use Rattle.os_code.specs.declared.instruction.Instruction.{Instruction}
use Rattle.os_code.specs.declared.instruction.Instruction.TheVariants as i

abbrev pub Put : Type 0
Put = List Instruction → List Instruction

abbrev pub count : Exprs → ℕ
count s.NoMore = 0
count (s.More e es) = suc (count es)

-- ---- sizes

abbrev mutual
  pub expr_size : Expr → ℕ
  expr_size (s.Literal t) = 1
  expr_size (s.Read (s.Local x)) = 1
  expr_size (s.Read (s.Global g subs)) = subs_size subs + (1 + count subs)
  expr_size (s.Kept special) = 1
  expr_size s.This = 1
  expr_size (s.Apply f args) = args_size args + (1 + count args)
  expr_size (s.Get (s.Local x)) = 1
  expr_size (s.Get (s.Global g subs)) = subs_size subs + (1 + count subs)
  expr_size (s.GetOr (s.Local x) other) = expr_size other + 2
  expr_size (s.GetOr (s.Global g subs) other) = subs_size subs + (expr_size other + (2 + count subs))
  expr_size (s.Defined (s.Local x)) = 1
  expr_size (s.Defined (s.Global g subs)) = subs_size subs + (1 + count subs)
  expr_size (s.Order g subs) = steps_size subs + (1 + count subs)
  expr_size (s.Increment (s.Local x)) = 1
  expr_size (s.Increment (s.Global g subs)) = subs_size subs + (1 + count subs)
  expr_size (s.IncrementBy (s.Local x) by) = expr_size by + 2
  expr_size (s.IncrementBy (s.Global g subs) by) = subs_size subs + (expr_size by + (2 + count subs))
  expr_size (s.OnClass class m args) = args_size args + (1 + count args)
  expr_size (s.OwnProperty p) = 1
  expr_size (s.OwnMethod m args) = args_size args + (1 + count args)
  expr_size (s.OwnPropertyMethod p m args) = 1 + (args_size args + (1 + suc (count args)))
  expr_size (s.Property o p) = expr_size o + 2
  expr_size (s.Method o m args) = expr_size o + (args_size args + (1 + suc (count args)))
  expr_size (s.PropertyMethod o p m args) = expr_size o + (2 + (args_size args + (1 + suc (count args))))
  expr_size (s.Signed sign e) = expr_size e + 2
  expr_size (s.Binary op a b) = expr_size a + (expr_size b + 3)
  expr_size (s.AndThen a b) = expr_size a + (1 + (expr_size b + 5))
  expr_size (s.OrElse a b) = expr_size a + (1 + (expr_size b + 5))

  pub args_size : Exprs → ℕ
  args_size s.NoMore = 0
  args_size (s.More e es) = expr_size e + args_size es

  pub subs_size : Exprs → ℕ
  subs_size s.NoMore = 0
  subs_size (s.More e es) = expr_size e + (1 + subs_size es)

  pub steps_size : Exprs → ℕ
  steps_size s.NoMore = 0
  steps_size (s.More e es) = expr_size e + (1 + steps_size es)

abbrev pub meets_size : List Expr → ℕ
meets_size [] = 0
meets_size (c ∷ cs) = expr_size c + (1 + meets_size cs)

abbrev pub assigned_size : Target → Expr → ℕ
assigned_size (s.OfPlace (s.Local x)) e = 1 + (expr_size e + 2)
assigned_size (s.OfPlace (s.Global g subs)) e = 1 + (subs_size subs + (expr_size e + (1 + (1 + (count subs + 1)))))
assigned_size (s.OfOwn p) e = 2 + (expr_size e + 3)
assigned_size (s.OfProperty o p) e = 1 + (expr_size o + (expr_size e + 4))

abbrev pub assigns_size : List Assignment → ℕ
assigns_size [] = 0
assigns_size (a ∷ rest) = assigned_size a.target a.value + assigns_size rest

abbrev pub writes_size : List (Option Expr) → ℕ
writes_size [] = 0
writes_size (None ∷ rest) = 3 + writes_size rest
writes_size (Some e ∷ rest) = 1 + (expr_size e + (3 + writes_size rest))

abbrev pub calls_size : List Expr → ℕ
calls_size [] = 0
calls_size (e ∷ rest) = 1 + (expr_size e + (2 + calls_size rest))

abbrev pub kills_size : List Place → ℕ
kills_size [] = 0
kills_size (s.Local x ∷ rest) = 3 + kills_size rest
kills_size (s.Global g subs ∷ rest) = 1 + (subs_size subs + (1 + (count subs + (1 + kills_size rest))))

abbrev pub timeout_size : Option Expr → ℕ
timeout_size None = 0
timeout_size (Some e) = expr_size e

abbrev pub timed_size : Option Expr → ℕ
timed_size None = 0
timed_size (Some e) = 1

-- the instructions that ask for a lock or give it back
abbrev pub lock_size : LockAction → Bool → ℕ
lock_size Renew false = 3
lock_size _ renewed = 1

abbrev pub locks_size : Bool → List Claim → ℕ
locks_size renewed [] = 0
locks_size renewed (c ∷ rest) =
    1 + (subs_size c.subs + (timeout_size c.timeout + (lock_size c.action renewed + (timed_size c.timeout + (count c.subs + (1 + locks_size (renewed || renews c.action) rest))))))

abbrev pub action_size : Action → ℕ
action_size (s.Set list) = assigns_size list
action_size (s.Write list) = writes_size list
action_size (s.Do list) = calls_size list
action_size (s.Kill list) = kills_size list
action_size s.KillAll = 3
action_size (s.Lock list) = locks_size false list
action_size s.UnlockAll = 3
action_size s.TStart = 3
action_size s.TCommit = 3
action_size s.TRollback = 3
action_size s.TRollbackOne = 3
action_size s.Quit = 3
action_size (s.QuitWith e) = 1 + (expr_size e + 2)
action_size s.Halt = 2

abbrev pub plain_size : Option Expr → Action → ℕ
plain_size None action = action_size action
plain_size (Some c) action = meets_size (c ∷ []) + (1 + (action_size action + 2))

abbrev pub chooses_size : List Expr → ℕ
chooses_size [] = 0
chooses_size (c ∷ cs) = 1 + (meets_size (c ∷ []) + (1 + chooses_size cs))

abbrev pub while_size : List Expr → ℕ → ℕ
while_size cs block = 1 + (meets_size cs + (1 + (block + 2)))

abbrev pub last_size : Option Expr → ℕ
last_size None = 1
last_size (Some e) = expr_size e + 1

abbrev mutual
  pub command_size : Command → ℕ
  command_size (s.Plain line post action) = plain_size post action
  command_size (s.If branches) = branches_size branches
  command_size (s.While line cs block) = while_size cs (block_size block)
  command_size (s.Loop line block) = 2 + while_size [] (block_size block)
  command_size (s.For line x first step last block) =
      1 + (expr_size first + (1 + (expr_size step + (1 + (last_size last + (6 + (block_size block + 3)))))))

  pub block_size : Block → ℕ
  block_size s.Empty = 0
  block_size (s.Then c block) = command_size c + block_size block

  pub branches_size : Branches → ℕ
  branches_size (s.Else block) = block_size block
  branches_size (s.Branch line cs block more) = chooses_size cs + (block_size block + (2 + branches_size more))

-- ---- code

abbrev pub drops : ℕ → Put
drops zero rest = rest
drops (suc k) rest = i.DropUnder ∷ drops k rest

abbrev pub drops_top : ℕ → Put
drops_top zero rest = rest
drops_top (suc k) rest = i.DropTop ∷ drops_top k rest

module _ (line : ℕ) where
  -- the test of a subscript of `$ORDER`, behind so many others
  abbrev pub step_test : Exprs → ℕ → Instruction
  step_test s.NoMore others = i.TestAfter others line
  step_test (s.More e es) others = i.TestSubscript others line

  abbrev mutual
    pub expr_code : Expr → Put
    expr_code (s.Literal t) rest = i.Push t ∷ rest
    expr_code (s.Read (s.Local x)) rest = i.Load x line ∷ rest
    expr_code (s.Read (s.Global g subs)) rest = subs_code 0 subs (i.Get g (count subs) line ∷ drops (count subs) rest)
    expr_code (s.Kept special) rest = i.Special special line ∷ rest
    expr_code s.This rest = i.This line ∷ rest
    expr_code (s.Apply f args) rest = args_code args (i.Apply f (count args) line ∷ drops (count args) rest)
    expr_code (s.Get (s.Local x)) rest = i.LoadOrEmpty x ∷ rest
    expr_code (s.Get (s.Global g subs)) rest = subs_code 0 subs (i.GetOrEmpty g (count subs) line ∷ drops (count subs) rest)
    expr_code (s.GetOr (s.Local x) other) rest = expr_code other (i.LoadOrJump x 1 ∷ i.DropUnder ∷ rest)
    expr_code (s.GetOr (s.Global g subs) other) rest =
        subs_code 0 subs (expr_code other (i.GetOrSkip g (count subs) line ∷ i.DropUnder ∷ drops (count subs) rest))
    expr_code (s.Defined (s.Local x)) rest = i.IsSet x ∷ rest
    expr_code (s.Defined (s.Global g subs)) rest = subs_code 0 subs (i.Defined g (count subs) line ∷ drops (count subs) rest)
    expr_code (s.Order g subs) rest = steps_code 0 subs (i.Order g (count subs) line ∷ drops (count subs) rest)
    expr_code (s.Increment (s.Local x)) rest = i.Increment x line ∷ rest
    expr_code (s.Increment (s.Global g subs)) rest = subs_code 0 subs (i.Incr g (count subs) line ∷ drops (count subs) rest)
    expr_code (s.IncrementBy (s.Local x) by) rest = expr_code by (i.IncrementBy x line ∷ i.DropUnder ∷ rest)
    expr_code (s.IncrementBy (s.Global g subs) by) rest =
        subs_code 0 subs (expr_code by (i.IncrBy g (count subs) line ∷ i.DropUnder ∷ drops (count subs) rest))
    expr_code (s.OnClass class m args) rest = args_code args (i.CallClass class m (count args) line ∷ drops (count args) rest)
    expr_code (s.OwnProperty p) rest = i.ReadOwn p line ∷ rest
    expr_code (s.OwnMethod m args) rest = args_code args (i.CallOwn m (count args) line ∷ drops (count args) rest)
    expr_code (s.OwnPropertyMethod p m args) rest =
        i.ReadOwnSubject p line ∷ args_code args (i.CallOwnSubject p m (count args) line ∷ drops (count args) (i.DropUnder ∷ rest))
    expr_code (s.Property o p) rest = expr_code o (i.Read p line ∷ i.DropUnder ∷ rest)
    expr_code (s.Method o m args) rest =
        expr_code o (args_code args (i.CallMember m (count args) line ∷ drops (count args) (i.DropUnder ∷ rest)))
    expr_code (s.PropertyMethod o p m args) rest =
        expr_code o (i.ReadSubject p line ∷ i.DropUnder ∷ args_code args (i.CallSubject p m (count args) line ∷ drops (count args) (i.DropUnder ∷ rest)))
    expr_code (s.Signed sign e) rest = expr_code e (i.Sign sign line ∷ i.DropUnder ∷ rest)
    expr_code (s.Binary op a b) rest = expr_code a (expr_code b (i.Operate op line ∷ i.DropUnder ∷ i.DropUnder ∷ rest))
    expr_code (s.AndThen a b) rest =
        expr_code a (i.SkipUnless (expr_size b + 3) line ∷ expr_code b (i.Truth line ∷ i.DropUnder ∷ i.Go 1 ∷ i.PushTruth false ∷ i.DropUnder ∷ rest))
    expr_code (s.OrElse a b) rest =
        expr_code a (i.SkipWhere (expr_size b + 3) line ∷ expr_code b (i.Truth line ∷ i.DropUnder ∷ i.Go 1 ∷ i.PushTruth true ∷ i.DropUnder ∷ rest))

    pub args_code : Exprs → Put
    args_code s.NoMore rest = rest
    args_code (s.More e es) rest = expr_code e (args_code es rest)

    -- subscripts behind so many others
    pub subs_code : ℕ → Exprs → Put
    subs_code others s.NoMore rest = rest
    subs_code others (s.More e es) rest = expr_code e (i.TestSubscript others line ∷ subs_code (suc others) es rest)

    pub steps_code : ℕ → Exprs → Put
    steps_code others s.NoMore rest = rest
    steps_code others (s.More e es) rest = expr_code e (step_test es others ∷ steps_code (suc others) es rest)

  -- Conditions. Where one doesn't hold, the jump leads so many instructions behind them.
  abbrev pub meets_code : ℕ → List Expr → Put
  meets_code miss [] rest = rest
  meets_code miss (c ∷ cs) rest = expr_code c (i.JumpUnless (meets_size cs + miss) line ∷ meets_code miss cs rest)

  abbrev pub assigned_code : Target → Expr → Put
  assigned_code (s.OfPlace (s.Local x)) e rest = i.Unit ∷ expr_code e (i.Store x ∷ i.Point ∷ rest)
  assigned_code (s.OfPlace (s.Global g subs)) e rest =
      i.Unit ∷ subs_code 0 subs (expr_code e (i.Set g (count subs) line ∷ i.DropTop ∷ drops_top (count subs) (i.Point ∷ rest)))
  assigned_code (s.OfOwn p) e rest = i.Unit ∷ i.TestThis line ∷ expr_code e (i.WriteOwn p line ∷ i.DropTop ∷ i.Point ∷ rest)
  assigned_code (s.OfProperty o p) e rest =
      i.Unit ∷ expr_code o (expr_code e (i.Write p line ∷ i.DropTop ∷ i.DropTop ∷ i.Point ∷ rest))

  abbrev pub assigns_code : List Assignment → Put
  assigns_code [] rest = rest
  assigns_code (a ∷ list) rest = assigned_code a.target a.value (assigns_code list rest)

  abbrev pub writes_code : List (Option Expr) → Put
  writes_code [] rest = rest
  writes_code (None ∷ list) rest = i.Unit ∷ i.PrintLine ∷ i.Point ∷ writes_code list rest
  writes_code (Some e ∷ list) rest = i.Unit ∷ expr_code e (i.Print line ∷ i.DropTop ∷ i.Point ∷ writes_code list rest)

  abbrev pub calls_code : List Expr → Put
  calls_code [] rest = rest
  calls_code (e ∷ list) rest = i.Unit ∷ expr_code e (i.DropTop ∷ i.Point ∷ calls_code list rest)

  abbrev pub kills_code : List Place → Put
  kills_code [] rest = rest
  kills_code (s.Local x ∷ list) rest = i.Unit ∷ i.Clear x ∷ i.Point ∷ kills_code list rest
  kills_code (s.Global g subs ∷ list) rest =
      i.Unit ∷ subs_code 0 subs (i.Kill g (count subs) line ∷ drops_top (count subs) (i.Point ∷ kills_code list rest))

  abbrev pub timeout_code : Option Expr → Put
  timeout_code None rest = rest
  timeout_code (Some e) rest = expr_code e rest

  abbrev pub is_timed : Option Expr → Bool
  is_timed None = false
  is_timed (Some e) = true

  -- the timeout is taken away where there is one
  abbrev pub untimed : Option Expr → Put
  untimed None rest = rest
  untimed (Some e) rest = i.DropTop ∷ rest

  -- the instructions on the lock of a node with so many subscripts
  abbrev pub lock_code : Name → ℕ → Mode → Bool → LockAction → Bool → Put
  lock_code g k mode timed Renew false rest = i.TestLock g k timed line ∷ i.UnlockAll ∷ i.TryLock g k mode timed line ∷ rest
  lock_code g k mode timed Renew true rest = i.TryLock g k mode timed line ∷ rest
  lock_code g k mode timed Add renewed rest = i.TryLock g k mode timed line ∷ rest
  lock_code g k mode timed Remove renewed rest = i.Unlock g k mode timed line ∷ rest

  abbrev pub locks_code : Bool → List Claim → Put
  locks_code renewed [] rest = rest
  locks_code renewed (c ∷ list) rest =
      i.Unit ∷ subs_code 0 c.subs (timeout_code c.timeout (lock_code c.global (count c.subs) c.mode (is_timed c.timeout) c.action renewed
      (untimed c.timeout (drops_top (count c.subs) (i.Point ∷ locks_code (renewed || renews c.action) list rest)))))

  -- a command without blocks, where a QUIT leads so many instructions behind it
  abbrev pub action_code : ℕ → Action → Put
  action_code out (s.Set list) rest = assigns_code list rest
  action_code out (s.Write list) rest = writes_code list rest
  action_code out (s.Do list) rest = calls_code list rest
  action_code out (s.Kill list) rest = kills_code list rest
  action_code out s.KillAll rest = i.Unit ∷ i.ClearAll ∷ i.Point ∷ rest
  action_code out (s.Lock list) rest = locks_code false list rest
  action_code out s.UnlockAll rest = i.Unit ∷ i.UnlockAll ∷ i.Point ∷ rest
  action_code out s.TStart rest = i.Unit ∷ i.Begin line ∷ i.Point ∷ rest
  action_code out s.TCommit rest = i.Unit ∷ i.Commit line ∷ i.Point ∷ rest
  action_code out s.TRollback rest = i.Unit ∷ i.RollbackAll ∷ i.Point ∷ rest
  action_code out s.TRollbackOne rest = i.Unit ∷ i.RollbackOne ∷ i.Point ∷ rest
  action_code out s.Quit rest = i.Unit ∷ i.Point ∷ i.Go out ∷ rest
  action_code out (s.QuitWith e) rest = i.Unit ∷ expr_code e (i.Point ∷ i.Return ∷ rest)
  action_code out s.Halt rest = i.Unit ∷ i.Halt ∷ rest

  abbrev pub plain_code : ℕ → Option Expr → Action → Put
  plain_code out None action rest = action_code out action rest
  plain_code out (Some c) action rest =
      meets_code (1 + (action_size action + 1)) (c ∷ []) (i.Point ∷ action_code (2 + out) action (i.Go 1 ∷ i.Point ∷ rest))

  abbrev pub chooses_code : ℕ → List Expr → Put
  chooses_code miss [] rest = rest
  chooses_code miss (c ∷ cs) rest =
      i.Unit ∷ meets_code (1 + (chooses_size cs + miss)) (c ∷ []) (i.Point ∷ chooses_code miss cs rest)

  -- the conditions of a loop, its block and the jump back to the conditions
  abbrev pub while_code : List Expr → Put → ℕ → Put
  while_code cs block size rest =
      meets_code (1 + (size + 1)) cs (i.Point ∷ block (i.Again (meets_size cs + (1 + (size + 1))) ∷ i.Point ∷ rest))

  abbrev pub number_code : Expr → Put
  number_code e rest = expr_code e (i.TakeNumber line ∷ rest)

  abbrev pub last_code : Option Expr → Put
  last_code None rest = i.NoLast ∷ rest
  last_code (Some e) rest = number_code e rest

  abbrev pub is_bounded : Option Expr → Bool
  is_bounded None = false
  is_bounded (Some e) = true

  -- what stands behind the first test of a FOR
  abbrev pub for_code : Name → Bool → Put → ℕ → Put
  for_code x bounded block size rest =
      i.Advance x bounded (1 + (size + 1)) line ∷ i.Point ∷ block (i.Again (2 + (size + 1)) ∷ i.Point ∷ i.EndFor ∷ rest)

abbrev mutual
  pub command_code : ℕ → Command → Put
  command_code out (s.Plain line post action) rest = plain_code line out post action rest
  command_code out (s.If branches) rest = branches_code out branches rest
  command_code out (s.While line cs block) rest = i.Unit ∷ while_code line cs (block_code 2 block) (block_size block) rest
  command_code out (s.Loop line block) rest = i.Unit ∷ i.Point ∷ i.Unit ∷ while_code line [] (block_code 2 block) (block_size block) rest
  command_code out (s.For line x first step last block) rest =
      i.Unit ∷ number_code line first (number_code line step (last_code line last
      (i.BeginFor x ∷ i.Point ∷ i.Unit ∷ i.FirstTest (is_bounded line last) (2 + (block_size block + 1)) ∷ for_code line x (is_bounded line last) (block_code 2 block) (block_size block) rest)))

  pub block_code : ℕ → Block → Put
  block_code out s.Empty rest = rest
  block_code out (s.Then c block) rest = command_code (block_size block + out) c (block_code out block rest)

  pub branches_code : ℕ → Branches → Put
  branches_code out (s.Else block) rest = block_code out block rest
  branches_code out (s.Branch line cs block more) rest =
      chooses_code line (block_size block + 1) cs (block_code (2 + (branches_size more + out)) block
      (i.Go (1 + branches_size more) ∷ i.Point ∷ branches_code out more rest))

unfoldable pub script_code : Block → List Instruction
script_code script = block_code 0 script (i.Push [] ∷ i.Return ∷ [])
