-- What a search answers is the first of the places at which the text occurs.
use Rattle.std.proofs.Common.{◌≡◌, ℕ, ◌+◌, ◌≤◌, List, length, Option, Some, None, IfSome}
use Rattle.memchr.specs.Find.{FindsNeedle}
use Rattle.memchr.proofs.lemmas.ValueLemmas.{FindsNeedle-value}
use Rattle.os_value.specs.Comparisons.{place_of}

pub finds : (text sought : List ℕ) (r : Option ℕ) → FindsNeedle text sought 0 r → r ≡ place_of text sought
finds text sought r h = FindsNeedle-value text sought r h

pub stands : (text sought : List ℕ) (r : Option ℕ) → FindsNeedle text sought 0 r → IfSome r (λ at. at + length sought ≤ length text)
stands text sought None h = tt
stands text sought (Some at) h = h.1.fits
