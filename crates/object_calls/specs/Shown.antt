-- What is seen of a call where the store's replies are taken from a list.
use Rattle.std.specs.Prelude.{List, [], ◌∷◌}
use Rattle.obj_kinds.specs.declared.op.Op.{Op}
use Rattle.obj_kinds.specs.declared.op.Reply.{Reply}
use Rattle.schema_kinds.specs.Worlds.{Change}
use Rattle.store_calls.specs.Calls.{Call, Give, Ask, Tell, Cut, Tag, Closes, Told}

pub data Shown (A : Type 0) : Type 0 where
  Noted : Told → Shown A
  Asked : Op → Shown A
  -- a Commit that closes a save or delete
  Commits : Change → Op → Shown A
  Answers : A → Shown A

abbrev pub asked_as : {A : Type 0} → Tag → Op → Shown A
asked_as (Closes change) op = Commits change op
asked_as _ op = Asked op

abbrev pub shown : {A : Type 0} → Call A → List Reply → List (Shown A)
shown (Give a) rs = Answers a ∷ []
shown (Tell x c) rs = Noted x ∷ shown c rs
shown Cut rs = []
shown (Ask op tag k) [] = asked_as tag op ∷ []
shown (Ask op tag k) (r ∷ rs) = asked_as tag op ∷ shown (k r) rs
