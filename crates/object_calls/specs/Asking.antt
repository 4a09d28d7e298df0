-- Small parts of the calls of objects: locks, an operation whose reply tells nothing, and what is done only in some case.
use Rattle.std.specs.Prelude.{ℕ, suc, Bool, true, false}
use Rattle.obj_kinds.specs.declared.node.Node.{Node}
use Rattle.obj_kinds.specs.declared.op.Op.{Op}
use Rattle.obj_kinds.specs.declared.op.Op.TheVariants.{Lock, Unlock, Kill}
use Rattle.obj_kinds.specs.declared.op.Mode.{Mode}
use Rattle.obj_kinds.specs.declared.op.Owner.TheVariants.{Object}
use Rattle.obj_kinds.specs.declared.op.Keep.TheVariants.{Counted, ToEnd}
use Rattle.obj_kinds.specs.declared.cause.Cause.{Cause}
use Rattle.store_calls.specs.Calls.{Call, Give, Ask, Tell, Cut, Tag, Inside, About, Failed, Refused, Tried, Got, Lost}

-- something is done, and nothing is answered but a failure
abbrev pub Does : Type 0
Does = Call (Tried (Unit {0}))

abbrev pub done : Does
done = Give (Got tt)

abbrev pub does : Tag → Op → Does
does tag op = Ask op tag (λ r. done)

abbrev pub when : Bool → Does → Does
when true c = c
when false c = done

-- a lock to the end of the outermost transaction, a counted one, and its giving back
abbrev pub lock_to_end : Mode → Node → Op
lock_to_end mode n = Lock n mode Object ToEnd

abbrev pub lock_counted : Mode → Node → Op
lock_counted mode n = Lock n mode Object Counted

abbrev pub unlock : Mode → Node → Op
unlock mode n = Unlock n mode Object

-- within a save or delete
abbrev pub kill : Node → Does
kill n = does Inside (Kill n)

-- a call with the number of the operations that it asked, from so many on
abbrev pub timed_from : {A : Type 0} → ℕ → Call A → Call (A × ℕ)
timed_from n (Give a) = Give (a, n)
timed_from n (Tell x c) = Tell x (timed_from n c)
timed_from n Cut = Cut
timed_from n (Ask op tag k) = Ask op tag (λ r. timed_from (suc n) (k r))

abbrev pub timed : {A : Type 0} → Call A → Call (A × ℕ)
timed c = timed_from 0 c

-- a call fails; so many of its operations came after the one whose reply decided
abbrev pub failing : {A : Type 0} → About → ℕ → Cause → Call (Tried A)
failing about back x = Tell (Failed about back x) (Give (Lost x))

-- it fails by the memory alone, and asks nothing
abbrev pub refused : {A : Type 0} → Cause → Call (Tried A)
refused x = Tell (Refused x) (Give (Lost x))
