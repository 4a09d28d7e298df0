-- What is answered: a value, the error of a script, or nothing for want of memory.
use Rattle.std.specs.Prelude.{◌≡◌, ℤ, Result, Ok, Err, ⊤}
use Rattle.obj_kinds.specs.declared.value.Value.{Value}
use Rattle.obj_kinds.specs.declared.error_name.ErrorName.{ErrorName}
use Rattle.obj_kinds.specs.Values.{as_value}
use Rattle.os_value.specs.declared.error.ValueError.{ValueError}
use Rattle.os_value.specs.declared.error.ValueError.TheVariants.{Script, NoMemory}

-- first one thing, and then what is made of it; the first error met ends it
abbrev pub and_then : {A B : Type 0} → Result A ErrorName → (A → Result B ErrorName) → Result B ErrorName
and_then (Ok a) f = f a
and_then (Err e) f = Err e

-- a call answers what is meant, or memory ran out
abbrev pub Answers : {A : Type 0} → Result A ValueError → Result A ErrorName → Type 0
Answers (Ok a) meant = meant ≡ Ok a
Answers (Err (Script e)) meant = meant ≡ Err e
Answers (Err NoMemory) meant = ⊤

-- numbers, texts and lists as values
abbrev pub stored : Result ℤ ErrorName → Result Value ErrorName
stored (Ok z) = Ok (as_value z)
stored (Err e) = Err e
