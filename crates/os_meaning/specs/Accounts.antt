-- How many places an object has in a frame: among the variables, as the object whose method runs, and among the values of the
-- expression in progress.
use Rattle.std.specs.Prelude.{◌≡◌, ℕ, ◌+◌, ◌==◌, cond, List, [], ◌∷◌, Option, Some, None}
use Rattle.os_kinds.specs.declared.val.Val.{Val}
use Rattle.os_kinds.specs.declared.val.Val.TheVariants.{Data, Ref}
use Rattle.os_kinds.specs.declared.call.Answer.{Answer}
use Rattle.os_kinds.specs.declared.call.Answer.TheVariants.{Got}
use Rattle.os_kinds.specs.declared.call.ScriptEnd.{ScriptEnd}
use Rattle.os_kinds.specs.declared.call.ScriptEnd.TheVariants.{Done}
use Rattle.os_meaning.specs.Frames.{Frame, Ends, Prints, Holds, Loses, Points, Spends, Asks, Vars}

abbrev pub one_of : ℕ → ℕ → ℕ
one_of o number = cond (o == number) 1 0

abbrev pub count : ℕ → Val → ℕ
count o (Data v) = 0
count o (Ref number class) = one_of o number

abbrev pub count_some : ℕ → Option Val → ℕ
count_some o None = 0
count_some o (Some v) = count o v

abbrev pub count_each : ℕ → List Val → ℕ
count_each o [] = 0
count_each o (v ∷ vs) = count o v + count_each o vs

abbrev pub count_vars : ℕ → Vars → ℕ
count_vars o [] = 0
count_vars o (x ∷ vars) = count o x.value + count_vars o vars

-- the places that an answer brings
abbrev pub given : ℕ → Answer → ℕ
given o (Got v) = count o v
given o _ = 0

-- a frame that ends with a value leaves the places of that value alone
abbrev pub IsLeft : ℕ → ScriptEnd → ℕ → Type 0
IsLeft o (Done v) places = places ≡ count o v
IsLeft o _ places = Unit {0}

-- From so many places of the object on, each one that is told to be lost was there, and at the end none is left over.
abbrev pub Balances : ℕ → Frame → ℕ → Type 0
Balances o (Ends e) places = IsLeft o e places
Balances o (Prints t f) places = Balances o f places
Balances o (Holds number f) places = Balances o f (places + one_of o number)
Balances o (Loses number f) places = (left : ℕ) × (places ≡ left + one_of o number) × Balances o f left
Balances o (Points f) places = Balances o f places
Balances o (Spends f) places = Balances o f places
Balances o (Asks c f) places = (a : Answer) → Balances o (f a) (places + given o a)
