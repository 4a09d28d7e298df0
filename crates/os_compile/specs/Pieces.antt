-- Pieces of code: where jumps out of them lead, the names of a LOCK, and branches by the lengths of what stands behind them.
use Rattle.std.specs.Prelude.{ℕ, suc, ◌+◌, ◌-◌, Bool, true, false, cond, List, [], ◌∷◌, ◌++◌, map, length, Option, Some, None}
use Rattle.std.specs.Option.{option_map}
use Rattle.os_kinds.specs.declared.command.LockAction.{LockAction}
use Rattle.os_kinds.specs.declared.command.LockAction.TheVariants.{Renew, Add, Remove}
use Rattle.os_kinds.specs.declared.command.Branch.{Branch}
use Rattle.os_kinds.specs.declared.command.Counting.{Counting}
use Rattle.os_kinds.specs.declared.command.Command.TheFolds.{fold-Branch}
use Rattle.os_meaning.specs.Syntax as s
use Rattle.os_meaning.specs.Syntax.{Name, Expr, Claim, Block, Branches}
use Rattle.os_meaning.specs.Commands.{renews}
use Rattle.os_meaning.specs.Tree.{Cased, expr_of, script_of, command_step, branch_step}
use Rattle.os_code.specs.declared.instruction.Instruction.{Instruction}
use Rattle.os_code.specs.declared.instruction.Instruction.TheVariants as i
use Rattle.os_code.specs.Coding.{Put, count, block_size, expr_code, subs_code, timeout_code, is_timed, untimed, drops_top, chooses_code, while_code, number_code, last_code, is_bounded, command_code, block_code}
use Rattle.os_compile.specs.declared.exit.Exit.{Exit}
use Rattle.os_compile.specs.declared.exit.Exit.TheVariants.{Next, Missed, Left}

-- how many instructions a jump passes beyond the end of its piece
abbrev pub beyond : Exit → ℕ
beyond Next = 0
beyond Missed = 1
beyond Left = 2

-- the header of a FOR
pub record CountingParts : Type 0 where
  pub variable : Name
  pub first : Expr
  pub step : Expr
  pub last : Option Expr

abbrev pub counting_of : Counting → CountingParts
counting_of c = record { variable = c.variable; first = expr_of c.first; step = expr_of c.step; last = option_map expr_of c.last }

module _ (line : ℕ) where
  -- ---- loops

  -- a turn of a FOR with the step to the next number before it, and the jump back
  abbrev pub advancing_code : CountingParts → List Instruction → Put
  advancing_code c turn rest = i.Advance c.variable (is_bounded line c.last) (length turn + 1) line ∷ (turn ++ i.Again (length turn + 2) ∷ i.Point ∷ rest)

  -- the numbers of a FOR, and what sets its variable to the first
  abbrev pub header_code : CountingParts → Put
  header_code c rest = i.Unit ∷ number_code line c.first (number_code line c.step (last_code line c.last (i.BeginFor c.variable ∷ rest)))

  abbrev pub counting_code : CountingParts → List Instruction → Put
  counting_code c turn rest =
      header_code c (i.Point ∷ i.Unit ∷ i.FirstTest (is_bounded line c.last) (length turn + 2) ∷ advancing_code c turn (i.EndFor ∷ rest))

  -- ---- assignments

  -- a property of the object that has been evaluated is set
  abbrev pub written_code : Name → Expr → Put
  written_code property e rest = expr_code line e (i.Write property line ∷ i.DropTop ∷ i.DropTop ∷ i.Point ∷ rest)

  -- ---- locks

  abbrev pub test_by : Claim → Instruction
  test_by c = i.TestLock c.global (count c.subs) (is_timed line c.timeout) line

  abbrev pub try_by : Claim → Instruction
  try_by c = i.TryLock c.global (count c.subs) c.mode (is_timed line c.timeout) line

  abbrev pub unlock_by : Claim → Instruction
  unlock_by c = i.Unlock c.global (count c.subs) c.mode (is_timed line c.timeout) line

  -- a lock without a sign
  abbrev pub renewal_by : Bool → Claim → Put
  renewal_by true c rest = try_by c ∷ rest
  renewal_by false c rest = test_by c ∷ i.UnlockAll ∷ try_by c ∷ rest

  abbrev pub by_action : LockAction → Bool → Claim → Put
  by_action Renew renewed c rest = renewal_by renewed c rest
  by_action Add renewed c rest = try_by c ∷ rest
  by_action Remove renewed c rest = unlock_by c ∷ rest

  abbrev pub lock_by : Bool → Claim → Put
  lock_by renewed c rest = by_action c.action renewed c rest

  -- one name, where it is said whether all locks have been given back before
  abbrev pub claim_code : Bool → Claim → Put
  claim_code renewed c rest =
      i.Unit ∷ subs_code line 0 c.subs (timeout_code line c.timeout (lock_by renewed c (untimed line c.timeout (drops_top (count c.subs) (i.Point ∷ rest)))))

  abbrev pub claims_code : Bool → List Claim → Put
  claims_code renewed [] rest = rest
  claims_code renewed (c ∷ cs) rest = claim_code renewed c (claims_code renewed cs rest)

-- how many names there are up to the first without a sign, or in all where there is none
abbrev pub until_renewal : List Claim → ℕ
until_renewal [] = 0
until_renewal (c ∷ cs) = suc (cond (renews c.action) 0 (until_renewal cs))

-- a FOR of a variable
abbrev pub counted_code : ℕ → CountingParts → Block → Put
counted_code line c block rest = command_code 0 (s.For line c.variable c.first c.step c.last block) rest

-- ---- branches

abbrev pub branch_of : Branch → Cased
branch_of = fold-Branch s.Command Cased command_step branch_step

pub record BranchParts : Type 0 where
  pub line : ℕ
  pub conditions : List Expr
  pub block : Block

abbrev pub parts_of : Branch → BranchParts
parts_of b = record { line = b.line; conditions = map expr_of b.conditions; block = script_of b.block }

-- A branch before what is left of its IF, which ends where so many instructions are left. A jump that leaves the piece passes `far` beyond its end.
abbrev pub branch_code : ℕ → ℕ → BranchParts → Put
branch_code end far b rest =
    chooses_code b.line (block_size b.block + 1) b.conditions (block_code (2 + (length rest + far)) b.block (i.Go (suc (length rest) - end) ∷ i.Point ∷ rest))

-- branches before the ELSE of their IF
abbrev pub cases_code : ℕ → ℕ → List BranchParts → Put
cases_code end far [] rest = rest
cases_code end far (b ∷ bs) rest = branch_code end far b (cases_code end far bs rest)

-- a FOR of a variable, or without one
abbrev pub for_code_of : ℕ → Option Counting → Block → Put
for_code_of line None block rest = i.Unit ∷ i.Point ∷ i.Unit ∷ while_code line [] (block_code 2 block) (block_size block) rest
for_code_of line (Some c) block rest = counted_code line (counting_of c) block rest
