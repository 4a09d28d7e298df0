-- The places of objects: as the object whose method runs, among the values in progress, and among the variables.
use Rattle.std.specs.Prelude.{◌≡◌, ℕ, ◌+◌, Option, Some, None}
use Rattle.os_meaning.specs.Accounts.{one_of, count, count_some, count_each, count_vars}
use Rattle.os_machine.specs.declared.stepped.Sight.{Sight}
use Rattle.os_machine.specs.declared.stepped.Sight.TheVariants as sight
use Rattle.os_machine.specs.declared.stepped.Stepped.{Stepped}
use Rattle.os_machine.specs.declared.stepped.Stepped.TheVariants as step
use Rattle.os_machine.specs.declared.work.Work.{Work}
use Rattle.os_machine.specs.declared.local.Told.{Told}
use Rattle.os_machine.specs.declared.local.Told.TheVariants as told
use Rattle.os_machine.specs.declared.local.Local.{Local}

abbrev pub places_in : ℕ → Work → ℕ
places_in o w = count_each o w.stack + count_vars o w.vars

abbrev pub places_at : ℕ → Local → ℕ
places_at o l = count_some o l.this + places_in o l.work

-- what is shown adds a place or takes one
abbrev pub Counts : Sight → ℕ → ℕ → ℕ → Type 0
Counts (sight.More number) o old new = new ≡ old + one_of o number
Counts (sight.Less number) o old new = old ≡ new + one_of o number
Counts (sight.Print t) o old new = new ≡ old
Counts sight.Point o old new = new ≡ old

-- a frame that is left hands its value on
abbrev pub CountsStep : Stepped → ℕ → ℕ → ℕ → Type 0
CountsStep (step.Shows s over) o old new = Counts s o old new
CountsStep (step.Stays s) o old new = Counts s o old new
CountsStep (step.Leaves v) o old new = old ≡ new + count o v
CountsStep _ o old new = new ≡ old

abbrev pub CountsTelling : Told → ℕ → ℕ → ℕ → Type 0
CountsTelling (told.Shows s) o old new = Counts s o old new
CountsTelling (told.Leaves v) o old new = old ≡ new + count o v
CountsTelling _ o old new = new ≡ old

abbrev pub CountsTold : Told → Local → Local → Type 0
CountsTold t old new = (o : ℕ) → CountsTelling t o (places_at o old) (places_at o new)

abbrev pub CountsTo : Option Told → Local → Local → Type 0
CountsTo None old new = (o : ℕ) → places_at o new ≡ places_at o old
CountsTo (Some t) old new = CountsTold t old new
