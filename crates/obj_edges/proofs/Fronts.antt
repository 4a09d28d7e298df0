-- A front that is given by its length.
use Rattle.std.proofs.Common.{◌≡◌, ℕ, List, ◌++◌, take, drop, Some, sym, ap}
use Rattle.std.proofs.lemmas.List.{take-append-drop}
use Rattle.obj_edges.specs.Told.{AddsFront}

pub adds_front : (old new piece : List ℕ) (n : ℕ) → new ≡ old ++ take n piece → AddsFront (Some old) (Some new) piece
adds_front old new piece n is = (take n piece, drop n piece, sym (take-append-drop n piece), ap Some is)
