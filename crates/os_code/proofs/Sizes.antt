-- The sizes of code are the numbers of instructions that a jump passes.
use Rattle.std.proofs.Common.{◌≡◌, ℕ, zero, suc, ◌+◌, Bool, true, false, ◌||◌, List, [], ◌∷◌, drop, Option, Some, None, refl, sym, ap, ◌∙◌, arith}
use Rattle.obj_kinds.specs.declared.op.Mode.{Mode}
use Rattle.os_kinds.specs.declared.command.LockAction.{LockAction}
use Rattle.os_kinds.specs.declared.command.LockAction.TheVariants.{Renew, Add, Remove}
use Rattle.os_meaning.specs.Syntax as s
use Rattle.os_meaning.specs.Syntax.{Name, Expr, Exprs, Place, Target, Assignment, Claim, Action, Command, Block, Branches}
use Rattle.os_meaning.specs.Commands.{renews}
use Rattle.os_code.specs.declared.instruction.Instruction.{Instruction}
use Rattle.os_code.specs.declared.instruction.Instruction.TheVariants as i
use Rattle.os_code.specs.Coding.{count, expr_size, args_size, subs_size, steps_size, meets_size, assigned_size, assigns_size, writes_size, calls_size, kills_size, timeout_size, timed_size, lock_size, locks_size, action_size, plain_size, chooses_size, last_size, command_size, block_size, branches_size, drops, drops_top, expr_code, args_code, subs_code, steps_code, meets_code, assigned_code, assigns_code, writes_code, calls_code, kills_code, timeout_code, untimed, lock_code, locks_code, action_code, plain_code, chooses_code, last_code, command_code, block_code, branches_code}

-- behind so many instructions
pub record Passes (k : ℕ) (xs ys : List Instruction) : Type 0 where
  pub by : drop k xs ≡ ys

pub passes_one : (x : Instruction) (k : ℕ) (xs ys : List Instruction) → Passes k xs ys → Passes (1 + k) (x ∷ xs) ys
passes_one x k xs ys h = let e : 1 + k ≡ suc k = omega arith in record { by = ap (λ j. drop j (x ∷ xs)) e ∙ h.by }

drop_nothing : (k : ℕ) → Passes k [] []
drop_nothing zero = record { by = refl }
drop_nothing (suc k) = record { by = refl }

pub passes_two : (a b : ℕ) (xs ys zs : List Instruction) → Passes a xs ys → Passes b ys zs → Passes (a + b) xs zs
passes_two zero b xs ys zs h g = let e : 0 + b ≡ b = omega arith in record { by = ap (λ j. drop j xs) e ∙ ap (drop b) h.by ∙ g.by }
passes_two (suc a) b [] ys zs h g = record { by = (drop_nothing (suc a + b)).by ∙ sym (drop_nothing b).by ∙ ap (drop b) h.by ∙ g.by }
passes_two (suc a) b (x ∷ xs) ys zs h g =
    let e : suc a + b ≡ suc (a + b) = omega arith in
    record { by = ap (λ j. drop j (x ∷ xs)) e ∙ (passes_two a b xs ys zs (record { by = h.by }) g).by }

drops_pass : (k : ℕ) (rest : List Instruction) → Passes k (drops k rest) rest
drops_pass zero rest = record { by = refl }
drops_pass (suc k) rest = record { by = (drops_pass k rest).by }

drops_top_pass : (k : ℕ) (rest : List Instruction) → Passes k (drops_top k rest) rest
drops_top_pass zero rest = record { by = refl }
drops_top_pass (suc k) rest = record { by = (drops_top_pass k rest).by }

-- and one more
drops_and_one : (k : ℕ) (rest : List Instruction) → Passes (suc k) (drops k (i.DropUnder ∷ rest)) rest
drops_and_one k rest =
    let e : suc k ≡ k + 1 = omega arith in
    record { by = ap (λ j. drop j (drops k (i.DropUnder ∷ rest))) e ∙ (passes_two k 1 _ _ rest (drops_pass k (i.DropUnder ∷ rest)) (record { by = refl })).by }

module _ (line : ℕ) where
  mutual
    pub expr_passes : (e : Expr) (rest : List Instruction) → Passes (expr_size e) (expr_code line e rest) rest
    expr_passes (s.Literal t) rest = record { by = refl }
    expr_passes (s.Read (s.Local x)) rest = record { by = refl }
    expr_passes (s.Read (s.Global g subs)) rest = passes_two _ _ _ _ _ (subs_pass 0 subs _) (passes_one _ _ _ rest (drops_pass (count subs) rest))
    expr_passes (s.Kept special) rest = record { by = refl }
    expr_passes s.This rest = record { by = refl }
    expr_passes (s.Apply f args) rest = passes_two _ _ _ _ _ (args_pass args _) (passes_one _ _ _ rest (drops_pass (count args) rest))
    expr_passes (s.Get (s.Local x)) rest = record { by = refl }
    expr_passes (s.Get (s.Global g subs)) rest = passes_two _ _ _ _ _ (subs_pass 0 subs _) (passes_one _ _ _ rest (drops_pass (count subs) rest))
    expr_passes (s.GetOr (s.Local x) other) rest = passes_two _ 2 _ _ rest (expr_passes other _) (record { by = refl })
    expr_passes (s.GetOr (s.Global g subs) other) rest =
        passes_two _ _ _ _ _ (subs_pass 0 subs _) (passes_two _ _ _ _ rest (expr_passes other _) (passes_two 2 _ _ _ rest (record { by = refl }) (drops_pass (count subs) rest)))
    expr_passes (s.Defined (s.Local x)) rest = record { by = refl }
    expr_passes (s.Defined (s.Global g subs)) rest = passes_two _ _ _ _ _ (subs_pass 0 subs _) (passes_one _ _ _ rest (drops_pass (count subs) rest))
    expr_passes (s.Order g subs) rest = passes_two _ _ _ _ _ (steps_pass 0 subs _) (passes_one _ _ _ rest (drops_pass (count subs) rest))
    expr_passes (s.Increment (s.Local x)) rest = record { by = refl }
    expr_passes (s.Increment (s.Global g subs)) rest = passes_two _ _ _ _ _ (subs_pass 0 subs _) (passes_one _ _ _ rest (drops_pass (count subs) rest))
    expr_passes (s.IncrementBy (s.Local x) by) rest = passes_two _ 2 _ _ rest (expr_passes by _) (record { by = refl })
    expr_passes (s.IncrementBy (s.Global g subs) by) rest =
        passes_two _ _ _ _ _ (subs_pass 0 subs _) (passes_two _ _ _ _ rest (expr_passes by _) (passes_two 2 _ _ _ rest (record { by = refl }) (drops_pass (count subs) rest)))
    expr_passes (s.OnClass class m args) rest = passes_two _ _ _ _ _ (args_pass args _) (passes_one _ _ _ rest (drops_pass (count args) rest))
    expr_passes (s.OwnProperty p) rest = record { by = refl }
    expr_passes (s.OwnMethod m args) rest = passes_two _ _ _ _ _ (args_pass args _) (passes_one _ _ _ rest (drops_pass (count args) rest))
    expr_passes (s.OwnPropertyMethod p m args) rest =
        passes_one _ _ _ rest (passes_two _ _ _ _ rest (args_pass args _) (passes_one _ _ _ rest (drops_and_one (count args) rest)))
    expr_passes (s.Property o p) rest = passes_two _ 2 _ _ rest (expr_passes o _) (record { by = refl })
    expr_passes (s.Method o m args) rest =
        passes_two _ _ _ _ _ (expr_passes o _) (passes_two _ _ _ _ rest (args_pass args _) (passes_one _ _ _ rest (drops_and_one (count args) rest)))
    expr_passes (s.PropertyMethod o p m args) rest =
        passes_two _ _ _ _ _ (expr_passes o _) (passes_two 2 _ _ _ rest (record { by = refl }) (passes_two _ _ _ _ rest (args_pass args _) (passes_one _ _ _ rest (drops_and_one (count args) rest))))
    expr_passes (s.Signed sign e) rest = passes_two _ 2 _ _ rest (expr_passes e _) (record { by = refl })
    expr_passes (s.Binary op a b) rest = passes_two _ _ _ _ _ (expr_passes a _) (passes_two _ 3 _ _ rest (expr_passes b _) (record { by = refl }))
    expr_passes (s.AndThen a b) rest =
        passes_two _ _ _ _ _ (expr_passes a _) (passes_one _ _ _ rest (passes_two _ 5 _ _ rest (expr_passes b _) (record { by = refl })))
    expr_passes (s.OrElse a b) rest =
        passes_two _ _ _ _ _ (expr_passes a _) (passes_one _ _ _ rest (passes_two _ 5 _ _ rest (expr_passes b _) (record { by = refl })))

    pub args_pass : (es : Exprs) (rest : List Instruction) → Passes (args_size es) (args_code line es rest) rest
    args_pass s.NoMore rest = record { by = refl }
    args_pass (s.More e es) rest = passes_two _ _ _ _ _ (expr_passes e _) (args_pass es rest)

    pub subs_pass : (others : ℕ) (es : Exprs) (rest : List Instruction) → Passes (subs_size es) (subs_code line others es rest) rest
    subs_pass others s.NoMore rest = record { by = refl }
    subs_pass others (s.More e es) rest = passes_two _ _ _ _ _ (expr_passes e _) (passes_one _ _ _ rest (subs_pass (suc others) es rest))

    pub steps_pass : (others : ℕ) (es : Exprs) (rest : List Instruction) → Passes (steps_size es) (steps_code line others es rest) rest
    steps_pass others s.NoMore rest = record { by = refl }
    steps_pass others (s.More e es) rest = passes_two _ _ _ _ _ (expr_passes e _) (passes_one _ _ _ rest (steps_pass (suc others) es rest))

  pub meets_pass : (miss : ℕ) (cs : List Expr) (rest : List Instruction) → Passes (meets_size cs) (meets_code line miss cs rest) rest
  meets_pass miss [] rest = record { by = refl }
  meets_pass miss (c ∷ cs) rest = passes_two _ _ _ _ _ (expr_passes c _) (passes_one _ _ _ rest (meets_pass miss cs rest))

  assigned_passes : (target : Target) (e : Expr) (rest : List Instruction) → Passes (assigned_size target e) (assigned_code line target e rest) rest
  assigned_passes (s.OfPlace (s.Local x)) e rest = passes_one _ _ _ rest (passes_two _ 2 _ _ rest (expr_passes e _) (record { by = refl }))
  assigned_passes (s.OfPlace (s.Global g subs)) e rest =
      passes_one _ _ _ rest (passes_two _ _ _ _ rest (subs_pass 0 subs _) (passes_two _ _ _ _ rest (expr_passes e _) (passes_one _ _ _ rest (passes_one _ _ _ rest (passes_two _ 1 _ _ rest (drops_top_pass (count subs) _) (record { by = refl }))))))
  assigned_passes (s.OfOwn p) e rest = passes_two 2 _ _ _ rest (record { by = refl }) (passes_two _ 3 _ _ rest (expr_passes e _) (record { by = refl }))
  assigned_passes (s.OfProperty o p) e rest = passes_one _ _ _ rest (passes_two _ _ _ _ rest (expr_passes o _) (passes_two _ 4 _ _ rest (expr_passes e _) (record { by = refl })))

  assigns_pass : (list : List Assignment) (rest : List Instruction) → Passes (assigns_size list) (assigns_code line list rest) rest
  assigns_pass [] rest = record { by = refl }
  assigns_pass (a ∷ list) rest = passes_two _ _ _ _ rest (assigned_passes a.target a.value _) (assigns_pass list rest)

  writes_pass : (list : List (Option Expr)) (rest : List Instruction) → Passes (writes_size list) (writes_code line list rest) rest
  writes_pass [] rest = record { by = refl }
  writes_pass (None ∷ list) rest = passes_two 3 _ _ _ rest (record { by = refl }) (writes_pass list rest)
  writes_pass (Some e ∷ list) rest = passes_one _ _ _ rest (passes_two _ _ _ _ rest (expr_passes e _) (passes_two 3 _ _ _ rest (record { by = refl }) (writes_pass list rest)))

  calls_pass : (list : List Expr) (rest : List Instruction) → Passes (calls_size list) (calls_code line list rest) rest
  calls_pass [] rest = record { by = refl }
  calls_pass (e ∷ list) rest = passes_one _ _ _ rest (passes_two _ _ _ _ rest (expr_passes e _) (passes_two 2 _ _ _ rest (record { by = refl }) (calls_pass list rest)))

  kills_pass : (list : List Place) (rest : List Instruction) → Passes (kills_size list) (kills_code line list rest) rest
  kills_pass [] rest = record { by = refl }
  kills_pass (s.Local x ∷ list) rest = passes_two 3 _ _ _ rest (record { by = refl }) (kills_pass list rest)
  kills_pass (s.Global g subs ∷ list) rest =
      passes_one _ _ _ rest (passes_two _ _ _ _ rest (subs_pass 0 subs _) (passes_one _ _ _ rest (passes_two _ _ _ _ rest (drops_top_pass (count subs) _) (passes_one _ _ _ rest (kills_pass list rest)))))

  timeout_passes : (e : Option Expr) (rest : List Instruction) → Passes (timeout_size e) (timeout_code line e rest) rest
  timeout_passes None rest = record { by = refl }
  timeout_passes (Some e) rest = expr_passes e rest

  untimed_passes : (e : Option Expr) (rest : List Instruction) → Passes (timed_size e) (untimed line e rest) rest
  untimed_passes None rest = record { by = refl }
  untimed_passes (Some e) rest = record { by = refl }

  lock_passes : (g : Name) (k : ℕ) (mode : Mode) (timed : Bool) (action : LockAction) (renewed : Bool) (rest : List Instruction) → Passes (lock_size action renewed) (lock_code line g k mode timed action renewed rest) rest
  lock_passes g k mode timed Renew false rest = record { by = refl }
  lock_passes g k mode timed Renew true rest = record { by = refl }
  lock_passes g k mode timed Add renewed rest = record { by = refl }
  lock_passes g k mode timed Remove renewed rest = record { by = refl }

  locks_pass : (renewed : Bool) (list : List Claim) (rest : List Instruction) → Passes (locks_size renewed list) (locks_code line renewed list rest) rest
  locks_pass renewed [] rest = record { by = refl }
  locks_pass renewed (c ∷ list) rest =
      passes_one _ _ _ rest (passes_two _ _ _ _ rest (subs_pass 0 c.subs _) (passes_two _ _ _ _ rest (timeout_passes c.timeout _) (passes_two _ _ _ _ rest (lock_passes c.global (count c.subs) c.mode _ c.action renewed _)
      (passes_two _ _ _ _ rest (untimed_passes c.timeout _) (passes_two _ _ _ _ rest (drops_top_pass (count c.subs) _) (passes_one _ _ _ rest (locks_pass (renewed || renews c.action) list rest)))))))

  pub action_passes : (out : ℕ) (action : Action) (rest : List Instruction) → Passes (action_size action) (action_code line out action rest) rest
  action_passes out (s.Set list) rest = assigns_pass list rest
  action_passes out (s.Write list) rest = writes_pass list rest
  action_passes out (s.Do list) rest = calls_pass list rest
  action_passes out (s.Kill list) rest = kills_pass list rest
  action_passes out s.KillAll rest = record { by = refl }
  action_passes out (s.Lock list) rest = locks_pass false list rest
  action_passes out s.UnlockAll rest = record { by = refl }
  action_passes out s.TStart rest = record { by = refl }
  action_passes out s.TCommit rest = record { by = refl }
  action_passes out s.TRollback rest = record { by = refl }
  action_passes out s.TRollbackOne rest = record { by = refl }
  action_passes out s.Quit rest = record { by = refl }
  action_passes out (s.QuitWith e) rest = passes_one _ _ _ rest (passes_two _ 2 _ _ rest (expr_passes e _) (record { by = refl }))
  action_passes out s.Halt rest = record { by = refl }

  plain_passes : (out : ℕ) (post : Option Expr) (action : Action) (rest : List Instruction) → Passes (plain_size post action) (plain_code line out post action rest) rest
  plain_passes out None action rest = action_passes out action rest
  plain_passes out (Some c) action rest =
      passes_two _ _ _ _ rest (meets_pass _ (c ∷ []) _) (passes_one _ _ _ rest (passes_two _ 2 _ _ rest (action_passes _ action _) (record { by = refl })))

  pub chooses_pass : (miss : ℕ) (cs : List Expr) (rest : List Instruction) → Passes (chooses_size cs) (chooses_code line miss cs rest) rest
  chooses_pass miss [] rest = record { by = refl }
  chooses_pass miss (c ∷ cs) rest = passes_one _ _ _ rest (passes_two _ _ _ _ rest (meets_pass _ (c ∷ []) _) (passes_one _ _ _ rest (chooses_pass miss cs rest)))

  pub last_passes : (last : Option Expr) (rest : List Instruction) → Passes (last_size last) (last_code line last rest) rest
  last_passes None rest = record { by = refl }
  last_passes (Some e) rest = passes_two _ 1 _ _ rest (expr_passes e _) (record { by = refl })

mutual
  pub command_passes : (c : Command) (out : ℕ) (rest : List Instruction) → Passes (command_size c) (command_code out c rest) rest
  command_passes (s.Plain line post action) out rest = plain_passes line out post action rest
  command_passes (s.If branches) out rest = branches_pass branches out rest
  command_passes (s.While line cs block) out rest =
      passes_one _ _ _ rest (passes_two _ _ _ _ rest (meets_pass line _ cs _) (passes_one _ _ _ rest (passes_two _ 2 _ _ rest (block_passes block 2 _) (record { by = refl }))))
  command_passes (s.Loop line block) out rest =
      passes_two 2 _ _ _ rest (record { by = refl }) (passes_one _ _ _ rest (passes_two 0 _ _ _ rest (record { by = refl }) (passes_one _ _ _ rest (passes_two _ 2 _ _ rest (block_passes block 2 _) (record { by = refl })))))
  command_passes (s.For line x first step last block) out rest =
      passes_one _ _ _ rest (passes_two _ _ _ _ rest (expr_passes line first _) (passes_one _ _ _ rest (passes_two _ _ _ _ rest (expr_passes line step _) (passes_one _ _ _ rest (passes_two _ _ _ _ rest (last_passes line last _) (passes_two 6 _ _ _ rest (record { by = refl }) (passes_two _ 3 _ _ rest (block_passes block 2 _) (record { by = refl }))))))))

  pub block_passes : (block : Block) (out : ℕ) (rest : List Instruction) → Passes (block_size block) (block_code out block rest) rest
  block_passes s.Empty out rest = record { by = refl }
  block_passes (s.Then c block) out rest = passes_two _ _ _ _ rest (command_passes c _ _) (block_passes block out rest)

  pub branches_pass : (branches : Branches) (out : ℕ) (rest : List Instruction) → Passes (branches_size branches) (branches_code out branches rest) rest
  branches_pass (s.Else block) out rest = block_passes block out rest
  branches_pass (s.Branch line cs block more) out rest =
      passes_two _ _ _ _ rest (chooses_pass line _ cs _) (passes_two _ _ _ _ rest (block_passes block _ _) (passes_two 2 _ _ _ rest (record { by = refl }) (branches_pass more out rest)))
