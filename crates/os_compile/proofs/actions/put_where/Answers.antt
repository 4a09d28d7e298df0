use Rattle.std.proofs.Common.{◌≡◌, ℕ, suc, ◌+◌, ◌-◌, List, ◌∷◌, length, ap, ◌∙◌, arith}
use Rattle.os_meaning.specs.Tree.{expr_of, action_of}
use Rattle.os_code.specs.declared.instruction.Instruction.{Instruction}
use Rattle.os_code.specs.declared.instruction.Instruction.TheVariants as i
use Rattle.os_code.specs.Coding.{expr_code, action_code}
use Rattle.os_compile.specs.Pieces.{beyond}
use Rattle.os_compile.proofs.Loops.{made}
use Rattle.os_compile.proofs.Blocks.{plain_put, action_no_less}
use Rattle.os_compile.proofs.actions.put_where.Goals as goal

pub overflow_sub-jump : goal.overflow_sub-jump
overflow_sub-jump c =
    omega (arith, action_no_less c.args.line (length c.put-2.new.self + beyond c.args.exit) (action_of c.args.action.now) c.put-2.new.self c.put_action.new.out c.in_ok-put_action.ensures, ap length c.in_ok-put-2.ensures, ap length c.in_ok-put-3.ensures, c.len-miss.ensures, c.len.ensures)

pub returns : goal.returns
returns c =
    let old : List Instruction = c.args.out.now in
    let a = action_of c.args.action.now in
    let far : ℕ = length (i.Go 1 ∷ i.Point ∷ old) + beyond c.args.exit in
    let jump : ℕ = c.len.result - c.len-miss.result in
    let all : c.put-3.new.self ≡ i.Point ∷ action_code c.args.line far a (i.Go 1 ∷ i.Point ∷ old) =
    c.in_ok-put-3.ensures ∙ ap (λ l. i.Point ∷ l) (c.in_ok-put_action.ensures
    ∙ ap (λ o. action_code c.args.line (length o + beyond c.args.exit) a o) (c.in_ok-put-2.ensures ∙ ap (λ l. i.Go 1 ∷ l) c.in_ok-put.ensures)) in
    let passed : jump ≡ suc (length (action_code c.args.line far a (i.Go 1 ∷ i.Point ∷ old))) - suc (length old) =
    omega (arith, c.len.ensures, c.len-miss.ensures, ap length all, ap length c.in_ok-put.ensures) in
    made c.put_condition.result c.put_condition.new.out _ _ c.put_condition.ensures
    (ap (λ l. expr_code c.args.line (expr_of c.args.condition.now) (i.JumpUnless jump c.args.line ∷ l)) all
    ∙ plain_put c.args.line (beyond c.args.exit) far jump (expr_of c.args.condition.now) a old (omega arith) passed)
