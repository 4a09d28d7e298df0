-- What a plan promises: what is left of its call, for every bound of the walks.
use Rattle.std.specs.Prelude.{◌≡◌, ℕ, suc, ◌<◌, ◌≤◌, List, [], ◌∷◌, ◌++◌, length}
use Rattle.obj_kinds.specs.declared.op.Op.{Op}
use Rattle.obj_kinds.specs.declared.op.Reply.{Reply}
use Rattle.store_calls.specs.Calls.{Call, Tag, Tried, Got, Round, Again, Turn, Awaits, Gives, run, asked}

-- a call, for each number of turns that its walks may have
abbrev pub Bounded : Type 0 → Type 0
Bounded A = ℕ → Call A

-- the one call is the other with one more reply, as long as the walks' bound isn't below the number of the replies
abbrev pub IsAfter : {A : Type 0} → Reply → Bounded A → Bounded A → Type 0
IsAfter r before now = (most : ℕ) (rs : List Reply) → length (r ∷ rs) ≤ most → run (now most) rs ≡ run (before most) (r ∷ rs)

-- and with all of these
abbrev pub IsAfterAll : {A : Type 0} → List Reply → Bounded A → Bounded A → Type 0
IsAfterAll qs before now = (most : ℕ) (rs : List Reply) → length (qs ++ rs) ≤ most → run (now most) rs ≡ run (before most) (qs ++ rs)

-- what a plan says next: it asks, or answers
pub data Says (A : Type 0) : Type 0 where
  AsksFor : Op → Says A
  Tells : A → Says A

abbrev pub IsSaid : {A : Type 0} → Says A → Turn A → Type 0
IsSaid {A} (AsksFor op) x = (tag : Tag) × (x ≡ Awaits op tag)
IsSaid (Tells a) x = x ≡ Gives a []

-- with whatever bound of at least one turn
abbrev pub SaysNext : {A : Type 0} → Says A → Bounded A → Type 0
SaysNext s c = (most : ℕ) → IsSaid s (run (c (suc most)) [])

abbrev pub Same : {A : Type 0} → Bounded A → Bounded A → Type 0
Same c d = (most : ℕ) (rs : List Reply) → length rs ≤ most → run (c most) rs ≡ run (d most) rs

-- each turn of a walk that isn't the last takes a reply
abbrev pub TakesReplies : {S A : Type 0} → (S → Call (Tried (Round S A))) → Type 0
TakesReplies {S} {A} body = (s s' : S) (rs rest : List Reply) → run (body s) rs ≡ Gives (Got (Again s')) rest → length rest < length rs

-- what is asked after some replies comes first in what is asked after more
abbrev pub AsksGoOn : {A : Type 0} → Call A → Type 0
AsksGoOn c = (rs qs : List Reply) → (more : List Op) × (asked c (rs ++ qs) ≡ asked c rs ++ more)
