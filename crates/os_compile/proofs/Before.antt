-- Code is put before what follows, and doesn't depend on it.
use Rattle.std.proofs.Common.{◌≡◌, ℕ, zero, suc, ◌+◌, Bool, true, false, ◌||◌, List, [], ◌∷◌, ◌++◌, length, Option, Some, None, refl, ap, arith}
use Rattle.obj_kinds.specs.declared.op.Mode.{Mode}
use Rattle.os_kinds.specs.declared.command.LockAction.{LockAction}
use Rattle.os_kinds.specs.declared.command.LockAction.TheVariants.{Renew, Add, Remove}
use Rattle.os_meaning.specs.Syntax as s
use Rattle.os_meaning.specs.Syntax.{Name, Expr, Exprs, Place, Target, Assignment, Claim, Action, Command, Block, Branches}
use Rattle.os_meaning.specs.Commands.{renews}
use Rattle.os_code.specs.declared.instruction.Instruction.{Instruction}
use Rattle.os_code.specs.declared.instruction.Instruction.TheVariants as i
use Rattle.os_code.specs.Coding.{count, drops, drops_top, expr_code, args_code, subs_code, steps_code, step_test, meets_code, assigned_code, assigns_code, writes_code, calls_code, kills_code, timeout_code, untimed, lock_code, locks_code, action_code, plain_code, chooses_code, number_code, last_code, command_code, block_code, branches_code}

-- one code is another with the same instructions behind it
pub record Behind (b xs ys : List Instruction) : Type 0 where
  pub is : xs ≡ ys ++ b

module _ {b : List Instruction} where
  put : {xs ys : List Instruction} (x : Instruction) → Behind b xs ys → Behind b (x ∷ xs) (x ∷ ys)
  put x h = record { is = ap (λ l. x ∷ l) h.is }

  put_drops : {xs ys : List Instruction} (k : ℕ) → Behind b xs ys → Behind b (drops k xs) (drops k ys)
  put_drops zero h = h
  put_drops (suc k) h = put i.DropUnder (put_drops k h)

  put_drops_top : {xs ys : List Instruction} (k : ℕ) → Behind b xs ys → Behind b (drops_top k xs) (drops_top k ys)
  put_drops_top zero h = h
  put_drops_top (suc k) h = put i.DropTop (put_drops_top k h)

  module _ (line : ℕ) where
    mutual
      pub put_expr : {xs ys : List Instruction} (e : Expr) → Behind b xs ys → Behind b (expr_code line e xs) (expr_code line e ys)
      put_expr (s.Literal t) h = put _ h
      put_expr (s.Read (s.Local x)) h = put _ h
      put_expr (s.Read (s.Global g subs)) h = put_subs 0 subs (put _ (put_drops (count subs) h))
      put_expr (s.Kept special) h = put _ h
      put_expr s.This h = put _ h
      put_expr (s.Apply f args) h = put_args args (put _ (put_drops (count args) h))
      put_expr (s.Get (s.Local x)) h = put _ h
      put_expr (s.Get (s.Global g subs)) h = put_subs 0 subs (put _ (put_drops (count subs) h))
      put_expr (s.GetOr (s.Local x) other) h = put_expr other (put _ (put _ h))
      put_expr (s.GetOr (s.Global g subs) other) h = put_subs 0 subs (put_expr other (put _ (put _ (put_drops (count subs) h))))
      put_expr (s.Defined (s.Local x)) h = put _ h
      put_expr (s.Defined (s.Global g subs)) h = put_subs 0 subs (put _ (put_drops (count subs) h))
      put_expr (s.Order g subs) h = put_steps 0 subs (put _ (put_drops (count subs) h))
      put_expr (s.Increment (s.Local x)) h = put _ h
      put_expr (s.Increment (s.Global g subs)) h = put_subs 0 subs (put _ (put_drops (count subs) h))
      put_expr (s.IncrementBy (s.Local x) by) h = put_expr by (put _ (put _ h))
      put_expr (s.IncrementBy (s.Global g subs) by) h = put_subs 0 subs (put_expr by (put _ (put _ (put_drops (count subs) h))))
      put_expr (s.OnClass class m args) h = put_args args (put _ (put_drops (count args) h))
      put_expr (s.OwnProperty p) h = put _ h
      put_expr (s.OwnMethod m args) h = put_args args (put _ (put_drops (count args) h))
      put_expr (s.OwnPropertyMethod p m args) h = put _ (put_args args (put _ (put_drops (count args) (put _ h))))
      put_expr (s.Property o p) h = put_expr o (put _ (put _ h))
      put_expr (s.Method o m args) h = put_expr o (put_args args (put _ (put_drops (count args) (put _ h))))
      put_expr (s.PropertyMethod o p m args) h = put_expr o (put _ (put _ (put_args args (put _ (put_drops (count args) (put _ h))))))
      put_expr (s.Signed sign e) h = put_expr e (put _ (put _ h))
      put_expr (s.Binary op l r) h = put_expr l (put_expr r (put _ (put _ (put _ h))))
      put_expr (s.AndThen l r) h = put_expr l (put _ (put_expr r (put _ (put _ (put _ (put _ (put _ h)))))))
      put_expr (s.OrElse l r) h = put_expr l (put _ (put_expr r (put _ (put _ (put _ (put _ (put _ h)))))))

      put_args : {xs ys : List Instruction} (es : Exprs) → Behind b xs ys → Behind b (args_code line es xs) (args_code line es ys)
      put_args s.NoMore h = h
      put_args (s.More e es) h = put_expr e (put_args es h)

      pub put_subs : {xs ys : List Instruction} (others : ℕ) (es : Exprs) → Behind b xs ys → Behind b (subs_code line others es xs) (subs_code line others es ys)
      put_subs others s.NoMore h = h
      put_subs others (s.More e es) h = put_expr e (put _ (put_subs (suc others) es h))

      put_steps : {xs ys : List Instruction} (others : ℕ) (es : Exprs) → Behind b xs ys → Behind b (steps_code line others es xs) (steps_code line others es ys)
      put_steps others s.NoMore h = h
      put_steps others (s.More e es) h = put_expr e (put (step_test line es others) (put_steps (suc others) es h))

    pub put_meets : {xs ys : List Instruction} (miss : ℕ) (cs : List Expr) → Behind b xs ys → Behind b (meets_code line miss cs xs) (meets_code line miss cs ys)
    put_meets miss [] h = h
    put_meets miss (c ∷ cs) h = put_expr c (put _ (put_meets miss cs h))

    put_assigned : {xs ys : List Instruction} (target : Target) (e : Expr) → Behind b xs ys → Behind b (assigned_code line target e xs) (assigned_code line target e ys)
    put_assigned (s.OfPlace (s.Local x)) e h = put _ (put_expr e (put _ (put _ h)))
    put_assigned (s.OfPlace (s.Global g subs)) e h = put _ (put_subs 0 subs (put_expr e (put _ (put _ (put_drops_top (count subs) (put _ h))))))
    put_assigned (s.OfOwn p) e h = put _ (put _ (put_expr e (put _ (put _ (put _ h)))))
    put_assigned (s.OfProperty o p) e h = put _ (put_expr o (put_expr e (put _ (put _ (put _ (put _ h))))))

    put_assigns : {xs ys : List Instruction} (list : List Assignment) → Behind b xs ys → Behind b (assigns_code line list xs) (assigns_code line list ys)
    put_assigns [] h = h
    put_assigns (a ∷ list) h = put_assigned a.target a.value (put_assigns list h)

    put_writes : {xs ys : List Instruction} (list : List (Option Expr)) → Behind b xs ys → Behind b (writes_code line list xs) (writes_code line list ys)
    put_writes [] h = h
    put_writes (None ∷ list) h = put _ (put _ (put _ (put_writes list h)))
    put_writes (Some e ∷ list) h = put _ (put_expr e (put _ (put _ (put _ (put_writes list h)))))

    put_calls : {xs ys : List Instruction} (list : List Expr) → Behind b xs ys → Behind b (calls_code line list xs) (calls_code line list ys)
    put_calls [] h = h
    put_calls (e ∷ list) h = put _ (put_expr e (put _ (put _ (put_calls list h))))

    put_kills : {xs ys : List Instruction} (list : List Place) → Behind b xs ys → Behind b (kills_code line list xs) (kills_code line list ys)
    put_kills [] h = h
    put_kills (s.Local x ∷ list) h = put _ (put _ (put _ (put_kills list h)))
    put_kills (s.Global g subs ∷ list) h = put _ (put_subs 0 subs (put _ (put_drops_top (count subs) (put _ (put_kills list h)))))

    put_timeout : {xs ys : List Instruction} (e : Option Expr) → Behind b xs ys → Behind b (timeout_code line e xs) (timeout_code line e ys)
    put_timeout None h = h
    put_timeout (Some e) h = put_expr e h

    put_untimed : {xs ys : List Instruction} (e : Option Expr) → Behind b xs ys → Behind b (untimed line e xs) (untimed line e ys)
    put_untimed None h = h
    put_untimed (Some e) h = put _ h

    put_lock : {xs ys : List Instruction} (g : Name) (k : ℕ) (mode : Mode) (timed : Bool) (action : LockAction) (renewed : Bool) → Behind b xs ys → Behind b (lock_code line g k mode timed action renewed xs) (lock_code line g k mode timed action renewed ys)
    put_lock g k mode timed Renew false h = put _ (put _ (put _ h))
    put_lock g k mode timed Renew true h = put _ h
    put_lock g k mode timed Add renewed h = put _ h
    put_lock g k mode timed Remove renewed h = put _ h

    put_locks : {xs ys : List Instruction} (renewed : Bool) (list : List Claim) → Behind b xs ys → Behind b (locks_code line renewed list xs) (locks_code line renewed list ys)
    put_locks renewed [] h = h
    put_locks renewed (c ∷ list) h =
        put _ (put_subs 0 c.subs (put_timeout c.timeout (put_lock c.global (count c.subs) c.mode _ c.action renewed (put_untimed c.timeout (put_drops_top (count c.subs) (put _ (put_locks (renewed || renews c.action) list h)))))))

    put_action : {xs ys : List Instruction} (out : ℕ) (action : Action) → Behind b xs ys → Behind b (action_code line out action xs) (action_code line out action ys)
    put_action out (s.Set list) h = put_assigns list h
    put_action out (s.Write list) h = put_writes list h
    put_action out (s.Do list) h = put_calls list h
    put_action out (s.Kill list) h = put_kills list h
    put_action out s.KillAll h = put _ (put _ (put _ h))
    put_action out (s.Lock list) h = put_locks false list h
    put_action out s.UnlockAll h = put _ (put _ (put _ h))
    put_action out s.TStart h = put _ (put _ (put _ h))
    put_action out s.TCommit h = put _ (put _ (put _ h))
    put_action out s.TRollback h = put _ (put _ (put _ h))
    put_action out s.TRollbackOne h = put _ (put _ (put _ h))
    put_action out s.Quit h = put _ (put _ (put _ h))
    put_action out (s.QuitWith e) h = put _ (put_expr e (put _ (put _ h)))
    put_action out s.Halt h = put _ (put _ h)

    put_plain : {xs ys : List Instruction} (out : ℕ) (post : Option Expr) (action : Action) → Behind b xs ys → Behind b (plain_code line out post action xs) (plain_code line out post action ys)
    put_plain out None action h = put_action out action h
    put_plain out (Some c) action h = put_meets _ (c ∷ []) (put _ (put_action (2 + out) action (put _ (put _ h))))

    put_chooses : {xs ys : List Instruction} (miss : ℕ) (cs : List Expr) → Behind b xs ys → Behind b (chooses_code line miss cs xs) (chooses_code line miss cs ys)
    put_chooses miss [] h = h
    put_chooses miss (c ∷ cs) h = put _ (put_meets _ (c ∷ []) (put _ (put_chooses miss cs h)))

    put_number : {xs ys : List Instruction} (e : Expr) → Behind b xs ys → Behind b (number_code line e xs) (number_code line e ys)
    put_number e h = put_expr e (put _ h)

    put_last : {xs ys : List Instruction} (last : Option Expr) → Behind b xs ys → Behind b (last_code line last xs) (last_code line last ys)
    put_last None h = put _ h
    put_last (Some e) h = put_number e h

  mutual
    put_command : {xs ys : List Instruction} (c : Command) (out : ℕ) → Behind b xs ys → Behind b (command_code out c xs) (command_code out c ys)
    put_command (s.Plain line post action) out h = put_plain line out post action h
    put_command (s.If branches) out h = put_branches branches out h
    put_command (s.While line cs block) out h = put _ (put_meets line _ cs (put _ (put_block block 2 (put _ (put _ h)))))
    put_command (s.Loop line block) out h = put _ (put _ (put _ (put _ (put_block block 2 (put _ (put _ h))))))
    put_command (s.For line x first step last block) out h =
        put _ (put_number line first (put_number line step (put_last line last (put _ (put _ (put _ (put _ (put _ (put _ (put_block block 2 (put _ (put _ (put _ h)))))))))))))

    pub put_block : {xs ys : List Instruction} (block : Block) (out : ℕ) → Behind b xs ys → Behind b (block_code out block xs) (block_code out block ys)
    put_block s.Empty out h = h
    put_block (s.Then c block) out h = put_command c _ (put_block block out h)

    put_branches : {xs ys : List Instruction} (branches : Branches) (out : ℕ) → Behind b xs ys → Behind b (branches_code out branches xs) (branches_code out branches ys)
    put_branches (s.Else block) out h = put_block block out h
    put_branches (s.Branch line cs block more) out h = put_chooses line _ cs (put_block block _ (put _ (put _ (put_branches more out h))))

-- the code of a block, and what follows it
pub block_before : (out : ℕ) (block : Block) (rest : List Instruction) → block_code out block rest ≡ block_code out block [] ++ rest
block_before out block rest = (put_block {b = rest} block out (record { is = refl })).is

pub meets_before : (line miss : ℕ) (cs : List Expr) (xs rest : List Instruction) → meets_code line miss cs (xs ++ rest) ≡ meets_code line miss cs xs ++ rest
meets_before line miss cs xs rest = (put_meets {b = rest} line miss cs (record { is = refl })).is
