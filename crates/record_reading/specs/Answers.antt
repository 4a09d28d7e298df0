-- What calls that read answer.
use Rattle.std.specs.Prelude.{◌≡◌, ⊤, Option, Some, Result, Ok, Err}
use Rattle.obj_kinds.specs.declared.node.Node.{Node}
use Rattle.record_layout.specs.Reading.{Reading, Read, Damaged}
use Rattle.record_reading.specs.declared.error.ReadError.{ReadError}
use Rattle.record_reading.specs.declared.error.ReadError.TheVariants as read
use Rattle.record_reading.specs.declared.error.FormError.{FormError}
use Rattle.record_reading.specs.declared.error.FormError.TheVariants as form

-- what is read is answered, or the subscripts below the row of the node that is damaged, or memory ran out
abbrev pub Answers : {A : Type 0} → Result A ReadError → Reading A → Type 0
Answers (Ok a) meant = meant ≡ Read a
Answers (Err (read.Damaged way)) meant = meant ≡ Damaged way
Answers (Err read.NoMemory) meant = ⊤

-- the node of a refusal is the one that is damaged
abbrev pub Names : Option Node → FormError → Type 0
Names damage (form.Damaged n) = damage ≡ Some n
Names damage form.NoMemory = ⊤
