-- What is seen of a frame whose calls are answered from a list, as long as there are answers.
use Rattle.std.specs.Prelude.{ℕ, List, [], ◌∷◌}
use Rattle.os_kinds.specs.declared.call.Call.{Call}
use Rattle.os_kinds.specs.declared.call.Answer.{Answer}
use Rattle.os_kinds.specs.declared.call.ScriptEnd.{ScriptEnd}
use Rattle.os_meaning.specs.Frames.{Frame, Ends, Prints, Holds, Loses, Points, Spends, Asks}

pub data Shown : Type 0 where
  Printed : List ℕ → Shown
  Held : ℕ → Shown
  Lost : ℕ → Shown
  Pointed : Shown
  Spent : Shown
  Asked : Call → Shown
  Ended : ScriptEnd → Shown

abbrev pub shown : Frame → List Answer → List Shown
shown (Ends e) answers = Ended e ∷ []
shown (Prints t f) answers = Printed t ∷ shown f answers
shown (Holds o f) answers = Held o ∷ shown f answers
shown (Loses o f) answers = Lost o ∷ shown f answers
shown (Points f) answers = Pointed ∷ shown f answers
shown (Spends f) answers = Spent ∷ shown f answers
shown (Asks c f) [] = Asked c ∷ []
shown (Asks c f) (a ∷ answers) = Asked c ∷ shown (f a) answers
