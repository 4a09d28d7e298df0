-- Reading byte by byte: each byte changes a state, or is refused for a reason.
use Rattle.std.specs.Prelude.{◌≡◌, ⊤, ℕ, List, [], ◌∷◌, Result, Ok, Err}
use Rattle.text_lines.specs.declared.stop.LineStop.{LineStop}
use Rattle.text_lines.specs.declared.stop.LineStop.TheVariants.{Memory, Bad}

-- all bytes in turn
unfoldable pub taken : {S W : Type 0} → (S → ℕ → Result S W) → S → List ℕ → Result S W
taken step s [] = Ok s
taken step s (b ∷ z) = elim (step s b) [ Ok t ↦ taken step t z | Err why ↦ Err why ]

-- a call that changes a state does what the step says, unless memory ran out
abbrev pub Takes : {S W : Type 0} → Result S W → S → Result (Unit {0}) (LineStop W) → Type 0
Takes outcome new (Ok _) = outcome ≡ Ok new
Takes outcome new (Err Memory) = ⊤
Takes outcome new (Err (Bad why)) = outcome ≡ Err why
