-- Calls: what is asked of the store one operation after another, by the replies, and what is answered in the end. A call is a
-- tree that branches where the store replies.
use Rattle.std.specs.Prelude.{ℕ, zero, suc, List, [], ◌∷◌}
use Rattle.obj_kinds.specs.declared.name.ClassName.{ClassName}
use Rattle.obj_kinds.specs.declared.op.Op.{Op}
use Rattle.obj_kinds.specs.declared.op.Reply.{Reply}
use Rattle.obj_kinds.specs.declared.op.Reply.TheVariants.{Granted, Held}
use Rattle.obj_kinds.specs.declared.cause.Cause.{Cause}
use Rattle.obj_kinds.specs.declared.cause.Cause.TheVariants.{Busy, NotFound}
use Rattle.schema_kinds.specs.declared.key.Key.{Key}
use Rattle.schema_kinds.specs.declared.record.Record.{Record}
use Rattle.schema_kinds.specs.Worlds.{Change}

-- what an operation is to the objects
pub data Tag : Type 0 where
  -- within no save or delete
  Plain : Tag
  -- the Begin of one, what stands between, its Commit with its change, and its RollbackOne
  Opens : Tag
  Inside : Tag
  Closes : Change → Tag
  Fails : Tag

-- what a call of an object was about
pub data About : Type 0 where
  -- the opening of a key for a class
  Opening : Key → ClassName → About
  -- a save of these parts; none while its ids are drawn
  Saving : Change → About
  -- the delete of a key that was asked of a class
  Deleting : Key → ClassName → About
  -- the next member of a many side
  Walking : About

-- what a process notes between its operations; a place is told by how many of its entries came after it
pub data Told : Type 0 where
  Prints : List ℕ → Told
  -- a load made an object; the place is that of its first Get
  Loaded : ℕ → Key → Record → Told
  -- a call of an object failed; the place is that of the entry whose reply decided
  Failed : About → ℕ → Cause → Told
  -- it failed by the memory alone, and asked nothing
  Refused : Cause → Told
  -- an object is opened or deleted with level 0 or 1
  Low : Told

pub data Call (A : Type 0) : Type 0 where
  Give : A → Call A
  Ask : Op → Tag → (Reply → Call A) → Call A
  Tell : Told → Call A → Call A
  -- nothing is said of what comes here: a walk has passed its bound, or a process its units
  Cut : Call A

abbrev pub bind : {A B : Type 0} → Call A → (A → Call B) → Call B
bind (Give a) f = f a
bind (Ask op tag k) f = Ask op tag (λ r. bind (k r) f)
bind (Tell x c) f = Tell x (bind c f)
bind Cut f = Cut

-- what is left of a call after one reply; what it tells first is told
abbrev pub answered : {A : Type 0} → Call A → Reply → Call A
answered (Give a) r = Give a
answered (Ask op tag k) r = k r
answered (Tell x c) r = answered c r
answered Cut r = Cut

abbrev pub left : {A : Type 0} → Call A → List Reply → Call A
left c [] = c
left c (r ∷ rs) = left (answered c r) rs

-- what the call asks next, or answers
pub data Step (A : Type 0) : Type 0 where
  Asks : Op → Tag → Step A
  Answers : A → Step A
  Stops : Step A

abbrev pub step : {A : Type 0} → Call A → Step A
step (Give a) = Answers a
step (Ask op tag k) = Asks op tag
step (Tell x c) = step c
step Cut = Stops

-- what is told before the next operation
abbrev pub told : {A : Type 0} → Call A → List Told
told (Give a) = []
told (Ask op tag k) = []
told (Tell x c) = x ∷ told c
told Cut = []

abbrev pub asked_by : {A : Type 0} → Step A → List Op → List Op
asked_by (Asks op tag) rest = op ∷ rest
asked_by (Answers a) rest = []
asked_by Stops rest = []

-- what the call asks, where these are the replies, and then next
abbrev pub asked : {A : Type 0} → Call A → List Reply → List Op
asked c [] = asked_by (step c) []
asked c (r ∷ rs) = asked_by (step c) (asked (answered c r) rs)

-- ---- calls that may fail

pub data Tried (A : Type 0) : Type 0 where
  Got : A → Tried A
  Lost : Cause → Tried A

abbrev pub then_on : {A B : Type 0} → (A → Call (Tried B)) → Tried A → Call (Tried B)
then_on f (Got a) = f a
then_on f (Lost x) = Give (Lost x)

-- goes on where the first part didn't fail
abbrev pub then : {A B : Type 0} → Call (Tried A) → (A → Call (Tried B)) → Call (Tried B)
then c f = bind c (then_on f)

-- one after the other for each item, each with its answer
abbrev pub each : {A B : Type 0} → (A → Call (Tried B)) → List A → Call (Tried (List B))
each f [] = Give (Got [])
each f (x ∷ xs) = then (f x) (λ y. then (each f xs) (λ ys. Give (Got (y ∷ ys))))

-- the same, where nothing is answered
abbrev pub all : {A : Type 0} → (A → Call (Tried (Unit {0}))) → List A → Call (Tried (Unit {0}))
all f [] = Give (Got tt)
all f (x ∷ xs) = then (f x) (λ _. all f xs)

abbrev pub on_lock : Reply → (Cause → Call (Tried (Unit {0}))) → Call (Tried (Unit {0}))
on_lock Granted again = Give (Got tt)
on_lock (Held p n m) again = again (Busy p n)
on_lock _ again = again NotFound

-- one lock, asked at most so many times; the last refusal is the cause
abbrev pub try_from : Cause → Tag → ℕ → Op → Call (Tried (Unit {0}))
try_from last tag zero op = Give (Lost last)
try_from last tag (suc n) op = Ask op tag (λ r. on_lock r (λ x. try_from x tag n op))

abbrev pub try : Tag → ℕ → Op → Call (Tried (Unit {0}))
try = try_from NotFound

-- ---- walks: turn after turn, as the replies say

-- a turn ends in a further turn or in the walk's end
pub data Round (S A : Type 0) : Type 0 where
  Again : S → Round S A
  Ends : A → Round S A

abbrev pub round : {S A : Type 0} → (S → Call (Tried A)) → Round S A → Call (Tried A)
round more (Again s) = more s
round more (Ends a) = Give (Got a)

-- at most so many turns; each asks an operation and so costs a unit, and no process has more units than this
abbrev pub turns : {S A : Type 0} → ℕ → (S → Call (Tried (Round S A))) → S → Call (Tried A)
turns zero body s = Cut
turns (suc n) body s = then (body s) (round (turns n body))

-- ---- what a call does once it has these replies

pub data Turn (A : Type 0) : Type 0 where
  -- it asks an operation, to which there is no reply yet
  Awaits : Op → Tag → Turn A
  -- it answers, and leaves the replies that it didn't need
  Gives : A → List Reply → Turn A
  -- it was cut
  Breaks : Turn A

abbrev pub run : {A : Type 0} → Call A → List Reply → Turn A
run (Give a) rs = Gives a rs
run (Tell x c) rs = run c rs
run Cut rs = Breaks
run (Ask op tag k) [] = Awaits op tag
run (Ask op tag k) (r ∷ rs) = run (k r) rs

abbrev pub go_on : {A B : Type 0} → (A → Call B) → Turn A → Turn B
go_on next (Gives a rs) = run (next a) rs
go_on next (Awaits op tag) = Awaits op tag
go_on next Breaks = Breaks

-- ---- units

-- each operation that is asked takes a unit
abbrev pub within : {A : Type 0} → ℕ → Call A → Call A
within u (Give a) = Give a
within u (Tell x c) = Tell x (within u c)
within u Cut = Cut
within zero (Ask op tag k) = Cut
within (suc u) (Ask op tag k) = Ask op tag (λ r. within u (k r))
