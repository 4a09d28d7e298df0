use Rattle.std.proofs.Common.{◌≡◌, ℕ, zero, suc, ◌<◌, List, [], ◌∷◌, length, refl, arith}
use Rattle.schema_kinds.specs.Links.{row}
use Rattle.schema_kinds.proofs.links.row_at.Goals as goal

past-end : (links : List (List ℕ)) (place : ℕ) → ¬ (place < length links) → [] ≡ row links place
past-end [] place h = refl
past-end (r ∷ rows) zero h = absurd (h (omega arith))
past-end (r ∷ rows) (suc place) h = past-end rows place (λ l. h (omega (arith, l)))

pub returns-in-None : goal.returns-in-None
returns-in-None c = past-end c.args.links.now c.args.place (λ l. let both = c.in-None.ensures.lookup in cc (both.2 l))
