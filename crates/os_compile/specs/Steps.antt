-- The tests of the subscripts of $ORDER.
use Rattle.std.specs.Prelude.{ℕ, suc, cond, eqb}
use Rattle.os_code.specs.declared.instruction.Instruction.{Instruction}
use Rattle.os_code.specs.declared.instruction.Instruction.TheVariants as i

-- the test of a subscript behind so many others, of so many
abbrev pub step_at : ℕ → ℕ → ℕ → Instruction
step_at line others count = cond (eqb (suc others) count) (i.TestAfter others line) (i.TestSubscript others line)
