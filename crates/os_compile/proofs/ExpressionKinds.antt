-- The code of each kind of expression, where it is said whether a method of it follows.
use Rattle.std.proofs.Common.{◌≡◌, ℕ, Bool, List, ◌∷◌, map, length, sym, ap, ◌∙◌}
use Rattle.obj_kinds.specs.declared.name.ClassName.{ClassName}
use Rattle.os_kinds.specs.declared.call.Special.{Special}
use Rattle.os_kinds.specs.declared.expression.Function.{Function}
use Rattle.os_kinds.specs.declared.expression.Member.{Member}
use Rattle.os_kinds.specs.declared.expression.GlobalReference.{GlobalReference}
use Rattle.os_kinds.specs.declared.expression.Expression.{Expression}
use Rattle.os_kinds.specs.declared.expression.Expression.TheVariants as e
use Rattle.os_meaning.specs.Syntax as s
use Rattle.os_meaning.specs.Tree.{exprs, expr_of, node_of, own_by}
use Rattle.os_code.specs.declared.instruction.Instruction.{Instruction}
use Rattle.os_code.specs.declared.instruction.Instruction.TheVariants as i
use Rattle.os_code.specs.Coding.{drops, expr_code, args_code}
use Rattle.os_compile.specs.Chains.{member_of, code_before}
use Rattle.os_compile.proofs.Trees.{count_is, literal_is, special_is, this_is, function_is, order_is, class_call_is, own_is}

module _ (line : ℕ) (method : Bool) where
  pub literal_before : (t : List ℕ) (rest : List Instruction) → code_before line method (expr_of (e.Literal t)) rest ≡ i.Push t ∷ rest
  literal_before t rest = ap (λ k. code_before line method k rest) (literal_is t)

  pub special_before : (special : Special) (rest : List Instruction) → code_before line method (expr_of (e.Special special)) rest ≡ i.Special special line ∷ rest
  special_before special rest = ap (λ k. code_before line method k rest) (special_is special)

  pub this_before : (rest : List Instruction) → code_before line method (expr_of e.This) rest ≡ i.This line ∷ rest
  this_before rest = ap (λ k. code_before line method k rest) this_is

  pub function_before : (f : Function) (args : List Expression) (rest : List Instruction) →
      code_before line method (expr_of (e.Function f args)) rest ≡ args_code line (exprs (map expr_of args)) (i.Apply f (length args) line ∷ drops (length args) rest)
  function_before f args rest =
      ap (λ k. code_before line method k rest) (function_is f args)
      ∙ ap (λ n. args_code line (exprs (map expr_of args)) (i.Apply f n line ∷ drops n rest)) (count_is args)

  pub class_call_before : (class : ClassName) (member : List ℕ) (args : List Expression) (rest : List Instruction) →
      code_before line method (expr_of (e.ClassCall class member args)) rest ≡ args_code line (exprs (map expr_of args)) (i.CallClass class member (length args) line ∷ drops (length args) rest)
  class_call_before class member args rest =
      ap (λ k. code_before line method k rest) (class_call_is class member args)
      ∙ ap (λ n. args_code line (exprs (map expr_of args)) (i.CallClass class member n line ∷ drops n rest)) (count_is args)

  pub order_before : (g : GlobalReference) (rest : List Instruction) →
      code_before line method (expr_of (e.Order g)) rest ≡ expr_code line (s.Order (node_of g).global (node_of g).subs) rest
  order_before g rest = ap (λ k. code_before line method k rest) (order_is g)

  pub own_before : (m : Member) (rest : List Instruction) →
      code_before line method (expr_of (e.Own m)) rest ≡ code_before line method (own_by (member_of m).name (member_of m).args) rest
  own_before m rest = ap (λ k. code_before line method k rest) (own_is m)
