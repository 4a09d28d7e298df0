use Rattle.std.proofs.Common.{◌≡◌, ℕ, suc, ◌+◌, ◌-◌, List, ◌∷◌, ◌++◌, map, reverse, length, Some, sym, ap, ◌∙◌, arith}
use Rattle.os_kinds.specs.declared.command.Branch.{Branch}
use Rattle.os_kinds.specs.declared.command.Command.{Command}
use Rattle.os_kinds.specs.declared.command.Command.TheVariants as tree
use Rattle.os_meaning.specs.Tree.{expr_of, block, script_of, command_of}
use Rattle.os_code.specs.declared.instruction.Instruction.{Instruction}
use Rattle.os_code.specs.declared.instruction.Instruction.TheVariants as i
use Rattle.os_code.specs.Coding.{meets_code, chooses_code, command_code, block_code}
use Rattle.os_compile.specs.Pieces.{beyond, counting_of, counting_code, for_code_of, BranchParts, parts_of, branch_code, cases_code}
use Rattle.os_compile.proofs.Loops.{all_yielded, one_more, made}
use Rattle.os_compile.proofs.CommandTrees.{if_is}
use Rattle.os_compile.proofs.Blocks.{command_put, block_no_less, branch_put, branches_are, branches_alone, turn_is, for_put, for_any}
use Rattle.os_compile.proofs.commands.+commands.Goals as goal

pub put_block-returns : goal.put_block-returns
put_block-returns t c =
    let all : map (λ b. b.now) (reverse c.loop-command.yielded) ≡ c.args.commands.now = all_yielded c.args.commands.now c.loop-command.yielded _ _ _ (cc) c.loop-command.yielded_by c.in-None.ensures.steps in
    c.loop-command.invariant ∙ ap (λ xs. block_code (length c.args.out.now + beyond c.args.exit) (script_of xs) c.args.out.now) all

pub put_block-loop-command-preserved : goal.put_block-loop-command-preserved
put_block-loop-command-preserved t c =
    c.in_ok-put_command.ensures
    ∙ command_put (beyond c.args.exit) (command_of c.in-Some.command.now) (block (map command_of (map (λ b. b.now) (reverse c.loop-command.yielded)))) c.args.out.now c.loop-command.out c.loop-command.invariant
    ∙ sym (ap (λ xs. block_code (length c.args.out.now + beyond c.args.exit) (block xs) c.args.out.now) (one_more command_of c.loop-command.yielded c.in-Some.command))

pub put_while-returns : goal.put_while-returns
put_while-returns t c =
    let tests = c.in_ok-put_tests.ensures ∙ ap (λ o. meets_code c.args.line (length o + 1) (map expr_of c.args.conditions.now) o) c.in_ok-turn.ensures in
    made c.put.result c.put.new.self _ _ c.put.ensures
    (ap (λ l. i.Unit ∷ l) (c.in_ok-put_loop.ensures
    ∙ ap (λ t. t ++ i.Again (length t + 1) ∷ i.Point ∷ c.args.out.now) tests
    ∙ sym (turn_is c.args.line (map expr_of c.args.conditions.now) (script_of c.args.block.now) c.args.out.now)))

pub put_counted-returns : goal.put_counted-returns
put_counted-returns t c =
    made c.put_counting.result c.put_counting.new.out _ _ c.put_counting.ensures
    (ap (λ t. counting_code c.args.line (counting_of c.args.counting.now) t c.args.out.now) c.in_ok-turn.ensures
    ∙ for_put c.args.line (counting_of c.args.counting.now) (script_of c.args.block.now) c.args.out.now)

pub put_command-returns-in-For : goal.put_command-returns-in-For
put_command-returns-in-For t c =
    let far : ℕ = length c.args.out.now + beyond c.args.exit in
    made c.put_for.result c.put_for.new.out _ _ c.put_for.ensures
    (ap (λ b. for_code_of c.in-For.line c.in-For.counting (script_of b) c.args.out.now) c.as_slice-body.ensures
    ∙ sym (ap (λ k. command_code far (command_of k) c.args.out.now) c.in-For.is ∙ for_any far c.in-For.line c.in-For.counting c.in-For.block c.args.out.now))

pub put_command-returns-in_ok-put_block-in-Some : goal.put_command-returns-in_ok-put_block-in-Some
put_command-returns-in_ok-put_block-in-Some t c =
    let old : List Instruction = c.args.out.now in
    let far : ℕ = beyond c.args.exit in
    let first : List Branch = c.as_slice-first.result.now in
    let last : List Command = c.as_slice-last.result.now in
    let other = c.in-Some.is ∙ ap (λ x. Some x) (sym c.as_slice-last.ensures) in
    let is : c.args.command.now ≡ tree.If first (Some last) =
    c.in-If.is
    ∙ ap (λ o. tree.If c.in-If.branches o) other
    ∙ ap (λ b. tree.If b (Some last)) (sym c.as_slice-first.ensures) in
    made c.put_branches.result c.put_branches.new.out _ _ c.put_branches.ensures
    (ap (λ k. cases_code k far (map parts_of first) c.put_block.new.out) c.len-end.ensures
    ∙ ap (λ m. cases_code (length old) far (map parts_of first) m) c.in_ok-put_block-in-Some.ensures
    ∙ branches_are first (script_of last) far old
    ∙ sym (ap (λ k. command_code (length old + far) (command_of k) old) is ∙ ap (λ k. command_code (length old + far) k old) (if_is first (Some last))))

pub put_if-returns : goal.put_if-returns
put_if-returns t c =
    made c.put_branches.result c.put_branches.new.out _ _ c.put_branches.ensures
    (ap (λ k. cases_code k (beyond c.args.exit) (map parts_of c.args.branches.now) c.args.out.now) c.len-end.ensures
    ∙ branches_alone c.args.branches.now (beyond c.args.exit) c.args.out.now)

pub put_branches-returns : goal.put_branches-returns
put_branches-returns t c =
    let all : map (λ b. b.now) (reverse c.loop-branch.yielded) ≡ c.args.branches.now = all_yielded c.args.branches.now c.loop-branch.yielded _ _ _ (cc) c.loop-branch.yielded_by c.in-None.ensures.steps in
    c.loop-branch.invariant ∙ ap (λ xs. cases_code c.args.end (beyond c.args.exit) (map parts_of xs) c.args.out.now) all

pub put_branches-loop-branch-preserved : goal.put_branches-loop-branch-preserved
put_branches-loop-branch-preserved t c =
    c.in_ok-put_branch.ensures
    ∙ ap (λ m. branch_code c.args.end (beyond c.args.exit) (parts_of c.in-Some.branch.now) m) c.loop-branch.invariant
    ∙ sym (ap (λ xs. cases_code c.args.end (beyond c.args.exit) xs c.args.out.now) (one_more parts_of c.loop-branch.yielded c.in-Some.branch))

pub put_branch-put_choices-requires : goal.put_branch-put_choices-requires
put_branch-put_choices-requires t c =
    omega (arith, block_no_less (length c.put-2.new.self + beyond c.args.exit) (script_of c.as_slice.result.now) c.put-2.new.self c.put_block.new.out c.in_ok-put_block.ensures, ap length c.in_ok-put-2.ensures, c.len-miss.ensures)

pub put_branch-returns : goal.put_branch-returns
put_branch-returns t c =
    let old : List Instruction = c.args.out.now in
    let b : BranchParts = parts_of c.args.branch.now in
    let miss : c.len-miss.result ≡ suc (length old) = c.len-miss.ensures ∙ ap length c.in_ok-put.ensures in
    let go : c.saturating_sub-go.result ≡ suc (length old) - c.args.end = c.saturating_sub-go.ensures ∙ ap (λ m. m - c.args.end) miss in
    let jump : List Instruction = i.Go (suc (length old) - c.args.end) ∷ i.Point ∷ old in
    let far : ℕ = length jump + beyond c.args.exit in
    let behind : List Instruction = block_code far b.block jump in
    let put : c.put-2.new.self ≡ jump =
    c.in_ok-put-2.ensures ∙ ap (λ l. i.Go c.saturating_sub-go.result ∷ l) c.in_ok-put.ensures ∙ ap (λ k. i.Go k ∷ i.Point ∷ old) go in
    let made_block : c.put_block.new.out ≡ behind =
    c.in_ok-put_block.ensures
    ∙ ap (λ x. block_code (length c.put-2.new.self + beyond c.args.exit) (script_of x) c.put-2.new.self) c.as_slice.ensures
    ∙ ap (λ o. block_code (length o + beyond c.args.exit) b.block o) put in
    made c.put_choices.result c.put_choices.new.out _ _ c.put_choices.ensures
    (ap (λ x. chooses_code b.line (length c.put_block.new.out - c.len-miss.result) (map expr_of x) c.put_block.new.out) c.as_slice-2.ensures
    ∙ ap (λ o. chooses_code b.line (length o - c.len-miss.result) b.conditions o) made_block
    ∙ ap (λ m. chooses_code b.line (length behind - m) b.conditions behind) miss
    ∙ branch_put c.args.end (beyond c.args.exit) far b old (omega arith))
