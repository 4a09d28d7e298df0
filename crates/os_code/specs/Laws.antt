-- Flat code does what its script means.
use Rattle.std.specs.Prelude.{◌≡◌, ℕ, ◌≤◌, Option}
use Rattle.os_kinds.specs.declared.val.Val.{Val}
use Rattle.os_meaning.specs.Syntax.{Block}
use Rattle.os_meaning.specs.Frames.{within, Vars}
use Rattle.os_meaning.specs.Meaning.{frame}
use Rattle.os_code.specs.Machine.{flat}
use Rattle.os_code.specs.Coding.{script_code}

-- With so many units the code is the frame of the script, whose loops are bounded by at least as many.
abbrev pub Agrees : Type 0
Agrees = (script : Block) (this : Option Val) (vars : Vars) (units most : ℕ) → units ≤ most → flat this units (script_code script) vars ≡ within (frame this most script vars) units

-- The bound on turns doesn't matter where it is at least the number of units.
abbrev pub BoundsAgree : Type 0
BoundsAgree = (script : Block) (this : Option Val) (vars : Vars) (units most more : ℕ) → units ≤ most → units ≤ more → within (frame this most script vars) units ≡ within (frame this more script vars) units
