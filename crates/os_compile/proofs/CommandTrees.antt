-- What the trees of commands say, constructor by constructor.
use Rattle.std.proofs.Common.{◌≡◌, ℕ, List, [], ◌∷◌, map, Option, Some, None, refl, sym, ap, ◌∙◌}
use Rattle.std.specs.Option.{option_map}
use Rattle.os_kinds.specs.declared.expression.Expression.{Expression}
use Rattle.os_kinds.specs.declared.command.Counting.{Counting}
use Rattle.os_kinds.specs.declared.command.Branch.{Branch}
use Rattle.os_kinds.specs.declared.command.Command.{Command}
use Rattle.os_kinds.specs.declared.command.Command.TheVariants as tree
use Rattle.os_kinds.specs.declared.command.Command.TheVariants.{rolls-If, rolls-For}
use Rattle.os_kinds.specs.declared.command.Command.TheViews.{rolls-struct-Branch}
use Rattle.os_kinds.specs.declared.command.Command.TheOpen.{Command-F, Branch-F}
use Rattle.os_kinds.specs.declared.command.Command.TheFolds.{fold-roll-Command, fold-roll-Branch}
use Rattle.os_meaning.specs.Syntax as s
use Rattle.os_meaning.specs.Tree.{Cased, expr_of, block_or_none, branches, script_of, command_of, command_step, branch_step}
use Rattle.os_compile.specs.Pieces.{branch_of}

pub if_is : (list : List Branch) (otherwise : Option (List Command)) → command_of (tree.If list otherwise) ≡ s.If (branches (map branch_of list) (block_or_none (option_map (map command_of) otherwise)))
if_is list None = ap command_of (sym (rolls-If list None)) ∙ fold-roll-Command s.Command Cased command_step branch_step (Command-F.If list None)
if_is list (Some cs) = ap command_of (sym (rolls-If list (Some cs))) ∙ fold-roll-Command s.Command Cased command_step branch_step (Command-F.If list (Some cs))

pub loop_is : (line : ℕ) (body : List Command) → command_of (tree.For line None body) ≡ s.Loop line (script_of body)
loop_is line body = ap command_of (sym (rolls-For line None body)) ∙ fold-roll-Command s.Command Cased command_step branch_step (Command-F.For line None body)

pub for_is : (line : ℕ) (n : Counting) (body : List Command) → command_of (tree.For line (Some n) body) ≡ s.For line n.variable (expr_of n.first) (expr_of n.step) (option_map expr_of n.last) (script_of body)
for_is line n body = ap command_of (sym (rolls-For line (Some n) body)) ∙ fold-roll-Command s.Command Cased command_step branch_step (Command-F.For line (Some n) body)

pub branch_is : (b : Branch) → branch_of b ≡ s.Branch b.line (map expr_of b.conditions) (script_of b.block)
branch_is b =
    let layer : Branch-F Command Branch = record { line = b.line; conditions = b.conditions; block = b.block } in
    ap branch_of (sym (rolls-struct-Branch layer)) ∙ fold-roll-Branch s.Command Cased command_step branch_step layer
