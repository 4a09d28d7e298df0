-- Laws of methods, of the subscripts of $ORDER, and of right operands that may be left out.
use Rattle.std.proofs.Common.{◌≡◌, ℕ, suc, ◌+◌, ◌<◌, drop, get_or, length-drop, arith, List, [], ◌∷◌, map, length, Option, Some, None, is_some, refl, sym, ap, ◌∙◌}
use Rattle.std.specs.Option.{option_map}
use Rattle.std.proofs.lemmas.List.{drop_all}
use Rattle.std.proofs.lemmas.Bool.Decides.{nat_tests}
use Rattle.std.proofs.Math.Seq.{drop-cons}
use Rattle.os_kinds.specs.declared.expression.Expression.{Expression}
use Rattle.os_kinds.specs.declared.expression.Member.{Member}
use Rattle.os_meaning.specs.Syntax as s
use Rattle.os_meaning.specs.Syntax.{Name}
use Rattle.os_meaning.specs.Tree.{MemberOf, exprs, expr_of}
use Rattle.os_code.specs.declared.instruction.Instruction.{Instruction}
use Rattle.os_code.specs.declared.instruction.Instruction.TheVariants as i
use Rattle.os_code.specs.Coding.{expr_size, expr_code, steps_code, step_test}
use Rattle.os_code.proofs.Lengths.{expr_longer}
use Rattle.os_compile.specs.Chains.{member_of, is_method}
use Rattle.os_compile.specs.Steps.{step_at}
use Rattle.os_compile.proofs.Trees.{member_is}

given_is : (name : Name) (o : Option (List Expression)) → let m : MemberOf = record { name = name; args = option_map exprs (option_map (map expr_of) o) } in is_some o ≡ is_method m
given_is name None = refl
given_is name (Some args) = refl

-- a member with arguments is a method
pub method_is : (m : Member) → is_some m.args ≡ is_method (member_of m)
method_is m = given_is m.name m.args ∙ sym (ap is_method (member_is m))

module _ (line : ℕ) where
  last_at : (at count : ℕ) (es : List Expression) → suc at + length es ≡ count → step_test line (exprs (map expr_of es)) at ≡ step_at line at count
  last_at at count [] e = let same : suc at ≡ count = omega (arith, e) in grind (arith, nat_tests)
  last_at at count (x ∷ es) e = let less : suc at < count = omega (arith, e) in grind (arith, nat_tests)

  -- the subscript there, before those behind it
  pub step_there : (at : ℕ) (subs : List Expression) (x : Expression) (rest : List Instruction) → at < length subs → x ≡ get_or subs at x →
      expr_code line (expr_of x) (step_at line at (length subs) ∷ steps_code line (at + 1) (exprs (map expr_of (drop (at + 1) subs))) rest) ≡ steps_code line at (exprs (map expr_of (drop at subs))) rest
  step_there at subs x rest within there =
      let next : at + 1 ≡ suc at = omega arith in
      let long : suc at + length (drop (suc at) subs) ≡ length subs = omega (arith, length-drop (suc at) subs) in
      ap (λ k. expr_code line (expr_of x) (step_at line at (length subs) ∷ steps_code line k (exprs (map expr_of (drop k subs))) rest)) next
      ∙ ap (λ t. expr_code line (expr_of x) (t ∷ steps_code line (suc at) (exprs (map expr_of (drop (suc at) subs))) rest)) (sym (last_at at (length subs) (drop (suc at) subs) long))
      ∙ ap (λ l. steps_code line at (exprs (map expr_of l)) rest) (ap (λ y. y ∷ drop (suc at) subs) there ∙ sym (drop-cons subs at x within))

  pub steps_none : (subs : List Expression) (rest : List Instruction) → steps_code line (length subs) (exprs (map expr_of (drop (length subs) subs))) rest ≡ rest
  steps_none subs rest = ap (λ l. steps_code line (length subs) (exprs (map expr_of l)) rest) (drop_all (length subs) subs (omega arith))

  -- ---- right operands that may be left out

  pub right_longer : (e : s.Expr) (rest out : List Instruction) → out ≡ expr_code line e (i.Truth line ∷ i.DropUnder ∷ i.Go 1 ∷ rest) → length out ≡ (expr_size e + 3) + length rest
  right_longer e rest out made = omega (arith, ap length made, (expr_longer line e (i.Truth line ∷ i.DropUnder ∷ i.Go 1 ∷ rest)).by)
