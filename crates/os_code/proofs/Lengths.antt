-- The sizes of code are by how many instructions it makes what follows longer.
use Rattle.std.proofs.Common.{◌≡◌, ℕ, zero, suc, ◌+◌, Bool, true, false, ◌||◌, List, [], ◌∷◌, length, Option, Some, None, arith}
use Rattle.obj_kinds.specs.declared.op.Mode.{Mode}
use Rattle.os_kinds.specs.declared.command.LockAction.{LockAction}
use Rattle.os_kinds.specs.declared.command.LockAction.TheVariants.{Renew, Add, Remove}
use Rattle.os_meaning.specs.Syntax as s
use Rattle.os_meaning.specs.Syntax.{Name, Expr, Exprs, Place, Target, Assignment, Claim, Action, Command, Block, Branches}
use Rattle.os_meaning.specs.Commands.{renews}
use Rattle.os_code.specs.declared.instruction.Instruction.{Instruction}
use Rattle.os_code.specs.declared.instruction.Instruction.TheVariants as i
use Rattle.os_code.specs.Coding.{count, expr_size, args_size, subs_size, steps_size, meets_size, assigned_size, assigns_size, writes_size, calls_size, kills_size, timeout_size, timed_size, lock_size, locks_size, action_size, plain_size, chooses_size, last_size, command_size, block_size, branches_size, drops, drops_top, expr_code, args_code, subs_code, steps_code, meets_code, assigned_code, assigns_code, writes_code, calls_code, kills_code, timeout_code, untimed, lock_code, locks_code, action_code, plain_code, chooses_code, last_code, command_code, block_code, branches_code}

-- by so many instructions longer
pub record Longer (k : ℕ) (xs ys : List Instruction) : Type 0 where
  pub by : length xs ≡ k + length ys

longer_one : (x : Instruction) (k : ℕ) (xs ys : List Instruction) → Longer k xs ys → Longer (1 + k) (x ∷ xs) ys
longer_one x k xs ys h = record { by = omega (arith, h.by) }

longer_two : (a b : ℕ) (xs ys zs : List Instruction) → Longer a xs ys → Longer b ys zs → Longer (a + b) xs zs
longer_two a b xs ys zs h g = record { by = omega (arith, h.by, g.by) }

-- behind some more
two_more : (x y : Instruction) (k : ℕ) (xs ys : List Instruction) → Longer k xs ys → Longer (2 + k) (x ∷ y ∷ xs) ys
two_more x y k xs ys h = record { by = omega (arith, h.by) }

three_more : (x y z : Instruction) (k : ℕ) (xs ys : List Instruction) → Longer k xs ys → Longer (3 + k) (x ∷ y ∷ z ∷ xs) ys
three_more x y z k xs ys h = record { by = omega (arith, h.by) }

six_more : (u v w x y z : Instruction) (k : ℕ) (xs ys : List Instruction) → Longer k xs ys → Longer (6 + k) (u ∷ v ∷ w ∷ x ∷ y ∷ z ∷ xs) ys
six_more u v w x y z k xs ys h = record { by = omega (arith, h.by) }

drops_longer : (k : ℕ) (rest : List Instruction) → Longer k (drops k rest) rest
drops_longer zero rest = record { by = omega arith }
drops_longer (suc k) rest = record { by = omega (arith, (drops_longer k rest).by) }

drops_top_longer : (k : ℕ) (rest : List Instruction) → Longer k (drops_top k rest) rest
drops_top_longer zero rest = record { by = omega arith }
drops_top_longer (suc k) rest = record { by = omega (arith, (drops_top_longer k rest).by) }

-- and one more
drops_and_one : (k : ℕ) (rest : List Instruction) → Longer (suc k) (drops k (i.DropUnder ∷ rest)) rest
drops_and_one k rest = record { by = omega (arith, (drops_longer k (i.DropUnder ∷ rest)).by) }

module _ (line : ℕ) where
  mutual
    pub expr_longer : (e : Expr) (rest : List Instruction) → Longer (expr_size e) (expr_code line e rest) rest
    expr_longer (s.Literal t) rest = record { by = omega arith }
    expr_longer (s.Read (s.Local x)) rest = record { by = omega arith }
    expr_longer (s.Read (s.Global g subs)) rest = longer_two _ _ _ _ _ (subs_longer 0 subs _) (longer_one _ _ _ rest (drops_longer (count subs) rest))
    expr_longer (s.Kept special) rest = record { by = omega arith }
    expr_longer s.This rest = record { by = omega arith }
    expr_longer (s.Apply f args) rest = longer_two _ _ _ _ _ (args_longer args _) (longer_one _ _ _ rest (drops_longer (count args) rest))
    expr_longer (s.Get (s.Local x)) rest = record { by = omega arith }
    expr_longer (s.Get (s.Global g subs)) rest = longer_two _ _ _ _ _ (subs_longer 0 subs _) (longer_one _ _ _ rest (drops_longer (count subs) rest))
    expr_longer (s.GetOr (s.Local x) other) rest = longer_two _ 2 _ _ rest (expr_longer other _) (record { by = omega arith })
    expr_longer (s.GetOr (s.Global g subs) other) rest =
        longer_two _ _ _ _ _ (subs_longer 0 subs _) (longer_two _ _ _ _ rest (expr_longer other _) (two_more _ _ _ _ rest (drops_longer (count subs) rest)))
    expr_longer (s.Defined (s.Local x)) rest = record { by = omega arith }
    expr_longer (s.Defined (s.Global g subs)) rest = longer_two _ _ _ _ _ (subs_longer 0 subs _) (longer_one _ _ _ rest (drops_longer (count subs) rest))
    expr_longer (s.Order g subs) rest = longer_two _ _ _ _ _ (steps_longer 0 subs _) (longer_one _ _ _ rest (drops_longer (count subs) rest))
    expr_longer (s.Increment (s.Local x)) rest = record { by = omega arith }
    expr_longer (s.Increment (s.Global g subs)) rest = longer_two _ _ _ _ _ (subs_longer 0 subs _) (longer_one _ _ _ rest (drops_longer (count subs) rest))
    expr_longer (s.IncrementBy (s.Local x) by) rest = longer_two _ 2 _ _ rest (expr_longer by _) (record { by = omega arith })
    expr_longer (s.IncrementBy (s.Global g subs) by) rest =
        longer_two _ _ _ _ _ (subs_longer 0 subs _) (longer_two _ _ _ _ rest (expr_longer by _) (two_more _ _ _ _ rest (drops_longer (count subs) rest)))
    expr_longer (s.OnClass class m args) rest = longer_two _ _ _ _ _ (args_longer args _) (longer_one _ _ _ rest (drops_longer (count args) rest))
    expr_longer (s.OwnProperty p) rest = record { by = omega arith }
    expr_longer (s.OwnMethod m args) rest = longer_two _ _ _ _ _ (args_longer args _) (longer_one _ _ _ rest (drops_longer (count args) rest))
    expr_longer (s.OwnPropertyMethod p m args) rest =
        longer_one _ _ _ rest (longer_two _ _ _ _ rest (args_longer args _) (longer_one _ _ _ rest (drops_and_one (count args) rest)))
    expr_longer (s.Property o p) rest = longer_two _ 2 _ _ rest (expr_longer o _) (record { by = omega arith })
    expr_longer (s.Method o m args) rest =
        longer_two _ _ _ _ _ (expr_longer o _) (longer_two _ _ _ _ rest (args_longer args _) (longer_one _ _ _ rest (drops_and_one (count args) rest)))
    expr_longer (s.PropertyMethod o p m args) rest =
        longer_two _ _ _ _ _ (expr_longer o _) (two_more _ _ _ _ rest (longer_two _ _ _ _ rest (args_longer args _) (longer_one _ _ _ rest (drops_and_one (count args) rest))))
    expr_longer (s.Signed sign e) rest = longer_two _ 2 _ _ rest (expr_longer e _) (record { by = omega arith })
    expr_longer (s.Binary op a b) rest = longer_two _ _ _ _ _ (expr_longer a _) (longer_two _ 3 _ _ rest (expr_longer b _) (record { by = omega arith }))
    expr_longer (s.AndThen a b) rest =
        longer_two _ _ _ _ _ (expr_longer a _) (longer_one _ _ _ rest (longer_two _ 5 _ _ rest (expr_longer b _) (record { by = omega arith })))
    expr_longer (s.OrElse a b) rest =
        longer_two _ _ _ _ _ (expr_longer a _) (longer_one _ _ _ rest (longer_two _ 5 _ _ rest (expr_longer b _) (record { by = omega arith })))

    pub args_longer : (es : Exprs) (rest : List Instruction) → Longer (args_size es) (args_code line es rest) rest
    args_longer s.NoMore rest = record { by = omega arith }
    args_longer (s.More e es) rest = longer_two _ _ _ _ _ (expr_longer e _) (args_longer es rest)

    pub subs_longer : (others : ℕ) (es : Exprs) (rest : List Instruction) → Longer (subs_size es) (subs_code line others es rest) rest
    subs_longer others s.NoMore rest = record { by = omega arith }
    subs_longer others (s.More e es) rest = longer_two _ _ _ _ _ (expr_longer e _) (longer_one _ _ _ rest (subs_longer (suc others) es rest))

    pub steps_longer : (others : ℕ) (es : Exprs) (rest : List Instruction) → Longer (steps_size es) (steps_code line others es rest) rest
    steps_longer others s.NoMore rest = record { by = omega arith }
    steps_longer others (s.More e es) rest = longer_two _ _ _ _ _ (expr_longer e _) (longer_one _ _ _ rest (steps_longer (suc others) es rest))

  pub meets_longer : (miss : ℕ) (cs : List Expr) (rest : List Instruction) → Longer (meets_size cs) (meets_code line miss cs rest) rest
  meets_longer miss [] rest = record { by = omega arith }
  meets_longer miss (c ∷ cs) rest = longer_two _ _ _ _ _ (expr_longer c _) (longer_one _ _ _ rest (meets_longer miss cs rest))

  assigned_longer : (target : Target) (e : Expr) (rest : List Instruction) → Longer (assigned_size target e) (assigned_code line target e rest) rest
  assigned_longer (s.OfPlace (s.Local x)) e rest = longer_one _ _ _ rest (longer_two _ 2 _ _ rest (expr_longer e _) (record { by = omega arith }))
  assigned_longer (s.OfPlace (s.Global g subs)) e rest =
      longer_one _ _ _ rest (longer_two _ _ _ _ rest (subs_longer 0 subs _) (longer_two _ _ _ _ rest (expr_longer e _) (longer_one _ _ _ rest (longer_one _ _ _ rest (longer_two _ 1 _ _ rest (drops_top_longer (count subs) _) (record { by = omega arith }))))))
  assigned_longer (s.OfOwn p) e rest = two_more _ _ _ _ rest (longer_two _ 3 _ _ rest (expr_longer e _) (record { by = omega arith }))
  assigned_longer (s.OfProperty o p) e rest = longer_one _ _ _ rest (longer_two _ _ _ _ rest (expr_longer o _) (longer_two _ 4 _ _ rest (expr_longer e _) (record { by = omega arith })))

  assigns_longer : (list : List Assignment) (rest : List Instruction) → Longer (assigns_size list) (assigns_code line list rest) rest
  assigns_longer [] rest = record { by = omega arith }
  assigns_longer (a ∷ list) rest = longer_two _ _ _ _ rest (assigned_longer a.target a.value _) (assigns_longer list rest)

  writes_longer : (list : List (Option Expr)) (rest : List Instruction) → Longer (writes_size list) (writes_code line list rest) rest
  writes_longer [] rest = record { by = omega arith }
  writes_longer (None ∷ list) rest = three_more _ _ _ _ _ rest (writes_longer list rest)
  writes_longer (Some e ∷ list) rest = longer_one _ _ _ rest (longer_two _ _ _ _ rest (expr_longer e _) (three_more _ _ _ _ _ rest (writes_longer list rest)))

  calls_longer : (list : List Expr) (rest : List Instruction) → Longer (calls_size list) (calls_code line list rest) rest
  calls_longer [] rest = record { by = omega arith }
  calls_longer (e ∷ list) rest = longer_one _ _ _ rest (longer_two _ _ _ _ rest (expr_longer e _) (two_more _ _ _ _ rest (calls_longer list rest)))

  kills_longer : (list : List Place) (rest : List Instruction) → Longer (kills_size list) (kills_code line list rest) rest
  kills_longer [] rest = record { by = omega arith }
  kills_longer (s.Local x ∷ list) rest = three_more _ _ _ _ _ rest (kills_longer list rest)
  kills_longer (s.Global g subs ∷ list) rest =
      longer_one _ _ _ rest (longer_two _ _ _ _ rest (subs_longer 0 subs _) (longer_one _ _ _ rest (longer_two _ _ _ _ rest (drops_top_longer (count subs) _) (longer_one _ _ _ rest (kills_longer list rest)))))

  timeout_longer : (e : Option Expr) (rest : List Instruction) → Longer (timeout_size e) (timeout_code line e rest) rest
  timeout_longer None rest = record { by = omega arith }
  timeout_longer (Some e) rest = expr_longer e rest

  untimed_longer : (e : Option Expr) (rest : List Instruction) → Longer (timed_size e) (untimed line e rest) rest
  untimed_longer None rest = record { by = omega arith }
  untimed_longer (Some e) rest = record { by = omega arith }

  lock_longer : (g : Name) (k : ℕ) (mode : Mode) (timed : Bool) (action : LockAction) (renewed : Bool) (rest : List Instruction) → Longer (lock_size action renewed) (lock_code line g k mode timed action renewed rest) rest
  lock_longer g k mode timed Renew false rest = record { by = omega arith }
  lock_longer g k mode timed Renew true rest = record { by = omega arith }
  lock_longer g k mode timed Add renewed rest = record { by = omega arith }
  lock_longer g k mode timed Remove renewed rest = record { by = omega arith }

  locks_longer : (renewed : Bool) (list : List Claim) (rest : List Instruction) → Longer (locks_size renewed list) (locks_code line renewed list rest) rest
  locks_longer renewed [] rest = record { by = omega arith }
  locks_longer renewed (c ∷ list) rest =
      longer_one _ _ _ rest (longer_two _ _ _ _ rest (subs_longer 0 c.subs _) (longer_two _ _ _ _ rest (timeout_longer c.timeout _) (longer_two _ _ _ _ rest (lock_longer c.global (count c.subs) c.mode _ c.action renewed _)
      (longer_two _ _ _ _ rest (untimed_longer c.timeout _) (longer_two _ _ _ _ rest (drops_top_longer (count c.subs) _) (longer_one _ _ _ rest (locks_longer (renewed || renews c.action) list rest)))))))

  pub action_longer : (out : ℕ) (action : Action) (rest : List Instruction) → Longer (action_size action) (action_code line out action rest) rest
  action_longer out (s.Set list) rest = assigns_longer list rest
  action_longer out (s.Write list) rest = writes_longer list rest
  action_longer out (s.Do list) rest = calls_longer list rest
  action_longer out (s.Kill list) rest = kills_longer list rest
  action_longer out s.KillAll rest = record { by = omega arith }
  action_longer out (s.Lock list) rest = locks_longer false list rest
  action_longer out s.UnlockAll rest = record { by = omega arith }
  action_longer out s.TStart rest = record { by = omega arith }
  action_longer out s.TCommit rest = record { by = omega arith }
  action_longer out s.TRollback rest = record { by = omega arith }
  action_longer out s.TRollbackOne rest = record { by = omega arith }
  action_longer out s.Quit rest = record { by = omega arith }
  action_longer out (s.QuitWith e) rest = longer_one _ _ _ rest (longer_two _ 2 _ _ rest (expr_longer e _) (record { by = omega arith }))
  action_longer out s.Halt rest = record { by = omega arith }

  plain_longer : (out : ℕ) (post : Option Expr) (action : Action) (rest : List Instruction) → Longer (plain_size post action) (plain_code line out post action rest) rest
  plain_longer out None action rest = action_longer out action rest
  plain_longer out (Some c) action rest =
      longer_two _ _ _ _ rest (meets_longer _ (c ∷ []) _) (longer_one _ _ _ rest (longer_two _ 2 _ _ rest (action_longer _ action _) (record { by = omega arith })))

  pub chooses_longer : (miss : ℕ) (cs : List Expr) (rest : List Instruction) → Longer (chooses_size cs) (chooses_code line miss cs rest) rest
  chooses_longer miss [] rest = record { by = omega arith }
  chooses_longer miss (c ∷ cs) rest = longer_one _ _ _ rest (longer_two _ _ _ _ rest (meets_longer _ (c ∷ []) _) (longer_one _ _ _ rest (chooses_longer miss cs rest)))

  pub last_longer : (last : Option Expr) (rest : List Instruction) → Longer (last_size last) (last_code line last rest) rest
  last_longer None rest = record { by = omega arith }
  last_longer (Some e) rest = longer_two _ 1 _ _ rest (expr_longer e _) (record { by = omega arith })

mutual
  pub command_longer : (c : Command) (out : ℕ) (rest : List Instruction) → Longer (command_size c) (command_code out c rest) rest
  command_longer (s.Plain line post action) out rest = plain_longer line out post action rest
  command_longer (s.If branches) out rest = branches_longer branches out rest
  command_longer (s.While line cs block) out rest =
      longer_one _ _ _ rest (longer_two _ _ _ _ rest (meets_longer line _ cs _) (longer_one _ _ _ rest (longer_two _ 2 _ _ rest (block_longer block 2 _) (record { by = omega arith }))))
  command_longer (s.Loop line block) out rest =
      let again : List Instruction = i.Again (0 + (1 + (block_size block + 1))) ∷ i.Point ∷ rest in
      record { by = omega (arith, (block_longer block 2 again).by) }
  command_longer (s.For line x first step last block) out rest =
      longer_one _ _ _ rest (longer_two _ _ _ _ rest (expr_longer line first _) (longer_one _ _ _ rest (longer_two _ _ _ _ rest (expr_longer line step _) (longer_one _ _ _ rest (longer_two _ _ _ _ rest (last_longer line last _) (six_more _ _ _ _ _ _ _ _ rest (longer_two _ 3 _ _ rest (block_longer block 2 _) (record { by = omega arith }))))))))

  pub block_longer : (block : Block) (out : ℕ) (rest : List Instruction) → Longer (block_size block) (block_code out block rest) rest
  block_longer s.Empty out rest = record { by = omega arith }
  block_longer (s.Then c block) out rest = longer_two _ _ _ _ rest (command_longer c _ _) (block_longer block out rest)

  pub branches_longer : (branches : Branches) (out : ℕ) (rest : List Instruction) → Longer (branches_size branches) (branches_code out branches rest) rest
  branches_longer (s.Else block) out rest = block_longer block out rest
  branches_longer (s.Branch line cs block more) out rest =
      longer_two _ _ _ _ rest (chooses_longer line _ cs _) (longer_two _ _ _ _ rest (block_longer block _ _) (two_more _ _ _ _ rest (branches_longer more out rest)))
