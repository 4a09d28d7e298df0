-- Laws of the pieces of commands: conditions, locks, branches and loops.
use Rattle.std.proofs.Common.{◌≡◌, ℕ, zero, suc, ◌+◌, ◌-◌, ◌≤◌, Bool, true, false, cond, ◌||◌, List, [], ◌∷◌, ◌++◌, map, length, take, drop, Option, Some, None, is_some, refl, sym, ap, ◌∙◌, arith}
use Rattle.std.specs.Option.{option_map}
use Rattle.os_kinds.specs.declared.command.LockAction.{LockAction}
use Rattle.os_kinds.specs.declared.command.LockAction.TheVariants.{Renew, Add, Remove}
use Rattle.os_kinds.specs.declared.command.Claim as claim
use Rattle.os_kinds.specs.declared.command.Branch.{Branch}
use Rattle.os_kinds.specs.declared.command.Counting.{Counting}
use Rattle.os_kinds.specs.declared.command.Command.{Command}
use Rattle.os_kinds.specs.declared.command.Command.TheVariants as tree
use Rattle.os_kinds.specs.declared.expression.Expression.{Expression}
use Rattle.os_meaning.specs.Syntax as s
use Rattle.os_meaning.specs.Syntax.{Expr, Claim, Block, Branches}
use Rattle.os_meaning.specs.Commands.{renews}
use Rattle.os_meaning.specs.Tree.{expr_of, claim_of, branches, script_of, command_of}
use Rattle.os_code.specs.declared.instruction.Instruction.{Instruction}
use Rattle.os_code.specs.declared.instruction.Instruction.TheVariants as i
use Rattle.os_code.specs.Coding.{count, expr_code, subs_code, timeout_code, is_timed, meets_size, chooses_size, meets_code, chooses_code, writes_code, kills_code, while_code, locks_code, lock_code, is_bounded, block_size, branches_size, action_size, action_code, plain_code, command_code, block_code, branches_code, script_code}
use Rattle.os_code.proofs.Lengths.{expr_longer, meets_longer, action_longer, chooses_longer, block_longer, branches_longer}
use Rattle.os_compile.specs.Pieces.{branch_of, BranchParts, parts_of, branch_code, cases_code, by_action, claim_code, claims_code, until_renewal, CountingParts, header_code, advancing_code, counting_code, counted_code, for_code_of}
use Rattle.os_compile.proofs.CommandTrees.{loop_is, for_is, branch_is}
use Rattle.os_compile.proofs.Before.{block_before, meets_before}

-- ---- conditions

-- one more test before those of a loop
pub test_put : (line jump : ℕ) (c : Expr) (cs : List Expr) (rest out : List Instruction) → out ≡ meets_code line (length rest + 1) cs rest → jump ≡ length out + 1 →
    expr_code line c (i.JumpUnless jump line ∷ out) ≡ meets_code line (length rest + 1) (c ∷ cs) rest
test_put line jump c cs rest out made far =
    let long = (meets_longer line (length rest + 1) cs rest).by in
    let same : jump ≡ meets_size cs + (length rest + 1) = omega (arith, long, ap length made) in
    ap (λ k. expr_code line c (i.JumpUnless k line ∷ out)) same
    ∙ ap (λ l. expr_code line c (i.JumpUnless (meets_size cs + (length rest + 1)) line ∷ l)) made

-- one more condition before those of a branch
pub choice_put : (line miss : ℕ) (c : Expr) (cs : List Expr) (rest out : List Instruction) → miss ≤ length rest → out ≡ chooses_code line (length rest - miss) cs rest →
    i.Unit ∷ expr_code line c (i.JumpUnless (suc (length out) - miss) line ∷ i.Point ∷ out) ≡ chooses_code line (length rest - miss) (c ∷ cs) rest
choice_put line miss c cs rest out within made =
    let long = (chooses_longer line (length rest - miss) cs rest).by in
    let same : suc (length out) - miss ≡ 0 + (1 + (chooses_size cs + (length rest - miss))) = omega (arith, long, ap length made) in
    ap (λ k. i.Unit ∷ expr_code line c (i.JumpUnless k line ∷ i.Point ∷ out)) same
    ∙ ap (λ l. i.Unit ∷ expr_code line c (i.JumpUnless (0 + (1 + (chooses_size cs + (length rest - miss)))) line ∷ i.Point ∷ l)) made

pub choice_longer : (line jump miss : ℕ) (c : Expr) (out new : List Instruction) → new ≡ i.Unit ∷ expr_code line c (i.JumpUnless jump line ∷ i.Point ∷ out) → miss ≤ length out → miss ≤ length new
choice_longer line jump miss c out new made within = omega (arith, ap length made, (expr_longer line c (i.JumpUnless jump line ∷ i.Point ∷ out)).by)

-- one more argument before the others

pub output_put : (line : ℕ) (o : Option Expr) (list : List (Option Expr)) (rest : List Instruction) → writes_code line (o ∷ []) (writes_code line list rest) ≡ writes_code line (o ∷ list) rest
output_put line None list rest = refl
output_put line (Some e) list rest = refl

pub kill_put : (line : ℕ) (p : s.Place) (list : List s.Place) (rest : List Instruction) → kills_code line (p ∷ []) (kills_code line list rest) ≡ kills_code line (p ∷ list) rest
kill_put line (s.Local x) list rest = refl
kill_put line (s.Global g subs) list rest = refl

-- one more command before a block
pub command_put : (far : ℕ) (c : s.Command) (block : Block) (rest out : List Instruction) → out ≡ block_code (length rest + far) block rest →
    command_code (length out + far) c out ≡ block_code (length rest + far) (s.Then c block) rest
command_put far c block rest out made =
    let long = (block_longer block (length rest + far) rest).by in
    let same : length out + far ≡ block_size block + (length rest + far) = omega (arith, long, ap length made) in
    ap (λ k. command_code k c out) same ∙ ap (λ l. command_code (block_size block + (length rest + far)) c l) made

-- a command with a postcondition
pub plain_put : (line far out jump : ℕ) (c : Expr) (a : s.Action) (rest : List Instruction) → out ≡ 2 + (length rest + far) →
    jump ≡ suc (length (action_code line out a (i.Go 1 ∷ i.Point ∷ rest))) - suc (length rest) →
    expr_code line c (i.JumpUnless jump line ∷ i.Point ∷ action_code line out a (i.Go 1 ∷ i.Point ∷ rest)) ≡ plain_code line (length rest + far) (Some c) a rest
plain_put line far out jump c a rest there far_enough =
    let long = (action_longer line out a (i.Go 1 ∷ i.Point ∷ rest)).by in
    let same : jump ≡ 0 + (1 + (action_size a + 1)) = omega (arith, long) in
    ap (λ k. expr_code line c (i.JumpUnless k line ∷ i.Point ∷ action_code line out a (i.Go 1 ∷ i.Point ∷ rest))) same
    ∙ ap (λ k. expr_code line c (i.JumpUnless (0 + (1 + (action_size a + 1))) line ∷ i.Point ∷ action_code line k a (i.Go 1 ∷ i.Point ∷ rest))) there

pub action_no_less : (line far : ℕ) (a : s.Action) (rest out : List Instruction) → out ≡ action_code line far a rest → length rest ≤ length out
action_no_less line far a rest out made = omega (arith, ap length made, (action_longer line far a rest).by)

-- ---- what there may be

pub bounded_is : (line : ℕ) (o : Option Expression) → is_some o ≡ is_bounded line (option_map expr_of o)
bounded_is line None = refl
bounded_is line (Some e) = refl

pub timed_is : (line : ℕ) (o : Option Expression) → is_some o ≡ is_timed line (option_map expr_of o)
timed_is line None = refl
timed_is line (Some e) = refl

-- ---- locks

by_action_is : (line : ℕ) (c : Claim) (action : LockAction) (renewed : Bool) (rest : List Instruction) →
    by_action line action renewed c rest ≡ lock_code line c.global (count c.subs) c.mode (is_timed line c.timeout) action renewed rest
by_action_is line c Renew false rest = refl
by_action_is line c Renew true rest = refl
by_action_is line c Add renewed rest = refl
by_action_is line c Remove renewed rest = refl

-- one name before the others
one_claim : (line : ℕ) (renewed : Bool) (c : Claim) (cs : List Claim) (rest : List Instruction) → locks_code line renewed (c ∷ cs) rest ≡ claim_code line renewed c (locks_code line (renewed || renews c.action) cs rest)
one_claim line renewed c cs rest = ap (λ l. i.Unit ∷ subs_code line 0 c.subs (timeout_code line c.timeout l)) (sym (by_action_is line c c.action renewed _))

all_renewed : (line : ℕ) (cs : List Claim) (rest : List Instruction) → locks_code line true cs rest ≡ claims_code line true cs rest
all_renewed line [] rest = refl
all_renewed line (c ∷ cs) rest = one_claim line true c cs rest ∙ ap (claim_code line true c) (all_renewed line cs rest)

split_renewed : (line : ℕ) (renewed : Bool) (cs : List Claim) (rest : List Instruction) → let k = cond renewed 0 (until_renewal cs) in
    locks_code line renewed cs rest ≡ claims_code line false (take k cs) (claims_code line true (drop k cs) rest)
split_renewed line true cs rest = all_renewed line cs rest
split_renewed line false [] rest = refl
split_renewed line false (c ∷ cs) rest = one_claim line false c cs rest ∙ ap (claim_code line false c) (split_renewed line (renews c.action) cs rest)

map_take : {X Y : Type 0} (f : X → Y) (k : ℕ) (xs : List X) → map f (take k xs) ≡ take k (map f xs)
map_take f zero xs = refl
map_take f (suc k) [] = refl
map_take f (suc k) (x ∷ xs) = ap (λ l. f x ∷ l) (map_take f k xs)

map_drop : {X Y : Type 0} (f : X → Y) (k : ℕ) (xs : List X) → map f (drop k xs) ≡ drop k (map f xs)
map_drop f zero xs = refl
map_drop f (suc k) [] = refl
map_drop f (suc k) (x ∷ xs) = map_drop f k xs

-- the names up to the first without a sign, and the others
pub locks_split : (line k : ℕ) (cs : List claim.Claim) (rest : List Instruction) → k ≡ until_renewal (map claim_of cs) →
    locks_code line false (map claim_of cs) rest ≡ claims_code line false (map claim_of (take k cs)) (claims_code line true (map claim_of (drop k cs)) rest)
locks_split line k cs rest e =
    split_renewed line false (map claim_of cs) rest
    ∙ ap (λ j. claims_code line false (take j (map claim_of cs)) (claims_code line true (drop j (map claim_of cs)) rest)) (sym e)
    ∙ ap (λ l. claims_code line false l (claims_code line true (drop k (map claim_of cs)) rest)) (sym (map_take claim_of k cs))
    ∙ ap (λ l. claims_code line false (map claim_of (take k cs)) (claims_code line true l rest)) (sym (map_drop claim_of k cs))

-- ---- branches

pub branches_are : (bs : List Branch) (otherwise : Block) (far : ℕ) (rest : List Instruction) →
    cases_code (length rest) far (map parts_of bs) (block_code (length rest + far) otherwise rest) ≡ branches_code (length rest + far) (branches (map branch_of bs) otherwise) rest
branches_are [] otherwise far rest = refl
branches_are (b ∷ bs) otherwise far rest =
    let out : ℕ = length rest + far in
    let others : Branches = branches (map branch_of bs) otherwise in
    let behind : List Instruction = branches_code out others rest in
    let long = (branches_longer others out rest).by in
    let go : suc (length behind) - length rest ≡ 1 + branches_size others = omega (arith, long) in
    let beyond : 2 + (length behind + far) ≡ 2 + (branches_size others + out) = omega (arith, long) in
    let p : BranchParts = parts_of b in
    ap (λ m. branch_code (length rest) far p m) (branches_are bs otherwise far rest)
    ∙ ap (λ k. chooses_code p.line (block_size p.block + 1) p.conditions (block_code k p.block (i.Go (suc (length behind) - length rest) ∷ i.Point ∷ behind))) beyond
    ∙ ap (λ k. chooses_code p.line (block_size p.block + 1) p.conditions (block_code (2 + (branches_size others + out)) p.block (i.Go k ∷ i.Point ∷ behind))) go
    ∙ sym (ap (λ (f : Branches → Branches). branches_code out (f others) rest) (branch_is b))

-- without ELSE
pub branches_alone : (bs : List Branch) (far : ℕ) (rest : List Instruction) → cases_code (length rest) far (map parts_of bs) rest ≡ branches_code (length rest + far) (branches (map branch_of bs) s.Empty) rest
branches_alone bs far rest = branches_are bs s.Empty far rest

-- a block before what is there makes it no shorter
pub block_no_less : (far : ℕ) (block : Block) (rest out : List Instruction) → out ≡ block_code far block rest → length rest ≤ length out
block_no_less far block rest out made = omega (arith, ap length made, (block_longer block far rest).by)

-- a branch is put
pub branch_put : (end far out : ℕ) (b : BranchParts) (rest : List Instruction) → out ≡ 2 + (length rest + far) → let behind = i.Go (suc (length rest) - end) ∷ i.Point ∷ rest in
    chooses_code b.line (length (block_code out b.block behind) - suc (length rest)) b.conditions (block_code out b.block behind) ≡ branch_code end far b rest
branch_put end far out b rest there =
    let behind : List Instruction = i.Go (suc (length rest) - end) ∷ i.Point ∷ rest in
    let long = (block_longer b.block out behind).by in
    let missed : length (block_code out b.block behind) - suc (length rest) ≡ block_size b.block + 1 = omega (arith, long) in
    ap (λ k. chooses_code b.line k b.conditions (block_code out b.block behind)) missed
    ∙ ap (λ k. chooses_code b.line (block_size b.block + 1) b.conditions (block_code k b.block behind)) there

-- ---- loops

-- what a loop repeats behind its tests
abbrev pub piece : Block → List Instruction
piece block = i.Point ∷ block_code 2 block []

piece_size : (block : Block) → length (piece block) ≡ 1 + block_size block
piece_size block = omega (arith, (block_longer block 2 []).by)

pub turn_is : (line : ℕ) (cs : List Expr) (block : Block) (rest : List Instruction) → let turn = meets_code line (length (piece block) + 1) cs (piece block) in
    while_code line cs (block_code 2 block) (block_size block) rest ≡ turn ++ i.Again (length turn + 1) ∷ i.Point ∷ rest
turn_is line cs block rest =
    let miss : ℕ = length (piece block) + 1 in
    let turn : List Instruction = meets_code line miss cs (piece block) in
    let size = piece_size block in
    let same : miss ≡ 1 + (block_size block + 1) = omega (arith, size) in
    let back : length turn + 1 ≡ meets_size cs + (1 + (block_size block + 1)) = omega (arith, size, (meets_longer line miss cs (piece block)).by) in
    sym (sym (meets_before line miss cs (piece block) (i.Again (length turn + 1) ∷ i.Point ∷ rest))
    ∙ ap (λ l. meets_code line miss cs (i.Point ∷ l)) (sym (block_before 2 block (i.Again (length turn + 1) ∷ i.Point ∷ rest)))
    ∙ ap (λ k. meets_code line k cs (i.Point ∷ block_code 2 block (i.Again (length turn + 1) ∷ i.Point ∷ rest))) same
    ∙ ap (λ k. meets_code line (1 + (block_size block + 1)) cs (i.Point ∷ block_code 2 block (i.Again k ∷ i.Point ∷ rest))) back)

-- a turn of a FOR with what stands before it and behind it
pub advancing_put : (line : ℕ) (n : CountingParts) (bounded : Bool) (jump : ℕ) (turn all rest : List Instruction) → bounded ≡ is_bounded line n.last → jump ≡ length turn + 1 → all ≡ i.Advance n.variable bounded jump line ∷ turn →
    all ++ i.Again (length all + 1) ∷ i.Point ∷ rest ≡ advancing_code line n turn rest
advancing_put line n bounded jump turn all rest eb ej ea =
    let back : suc (length turn) + 1 ≡ length turn + 2 = omega arith in
    ap (λ m. m ++ i.Again (length m + 1) ∷ i.Point ∷ rest) ea
    ∙ ap (λ k. i.Advance n.variable bounded jump line ∷ (turn ++ i.Again k ∷ i.Point ∷ rest)) back
    ∙ ap (λ k. i.Advance n.variable bounded k line ∷ (turn ++ i.Again (length turn + 2) ∷ i.Point ∷ rest)) ej
    ∙ ap (λ b. i.Advance n.variable b (length turn + 1) line ∷ (turn ++ i.Again (length turn + 2) ∷ i.Point ∷ rest)) eb

pub for_put : (line : ℕ) (n : CountingParts) (block : Block) (rest : List Instruction) → counting_code line n (piece block) rest ≡ counted_code line n block rest
for_put line n block rest =
    let bounded : Bool = is_bounded line n.last in
    let size = piece_size block in
    let passed : length (piece block) + 2 ≡ 2 + (block_size block + 1) = omega (arith, size) in
    let missed : length (piece block) + 1 ≡ 1 + (block_size block + 1) = omega (arith, size) in
    ap (λ l. header_code line n (i.Point ∷ i.Unit ∷ i.FirstTest bounded (length (piece block) + 2) ∷ i.Advance n.variable bounded (length (piece block) + 1) line ∷ i.Point ∷ l)) (sym (block_before 2 block (i.Again (length (piece block) + 2) ∷ i.Point ∷ i.EndFor ∷ rest)))
    ∙ ap (λ k. header_code line n (i.Point ∷ i.Unit ∷ i.FirstTest bounded k ∷ i.Advance n.variable bounded (length (piece block) + 1) line ∷ i.Point ∷ block_code 2 block (i.Again k ∷ i.Point ∷ i.EndFor ∷ rest))) passed
    ∙ ap (λ k. header_code line n (i.Point ∷ i.Unit ∷ i.FirstTest bounded (2 + (block_size block + 1)) ∷ i.Advance n.variable bounded k line ∷ i.Point ∷ block_code 2 block (i.Again (2 + (block_size block + 1)) ∷ i.Point ∷ i.EndFor ∷ rest))) missed

-- a FOR, of a variable or not
pub for_any : (far line : ℕ) (o : Option Counting) (body : List Command) (rest : List Instruction) → command_code far (command_of (tree.For line o body)) rest ≡ for_code_of line o (script_of body) rest
for_any far line None body rest = ap (λ k. command_code far k rest) (loop_is line body)
for_any far line (Some n) body rest = ap (λ k. command_code far k rest) (for_is line n body)

-- ---- scripts

pub script_is : (cs : List Command) → script_code (script_of cs) ≡ block_code 0 (script_of cs) [] ++ i.Push [] ∷ i.Return ∷ []
unfolding script_code
script_is cs = block_before 0 (script_of cs) (i.Push [] ∷ i.Return ∷ [])
