-- Files in memory.
use Rattle.std.specs.Prelude.{ℕ, cond, List, [], ◌∷◌, Option, Some, None}
use Rattle.std.specs.Str.{bytes_eq}

-- the bytes of the first file of this name
abbrev pub contents_in : List (List ℕ × List ℕ) → List ℕ → Option (List ℕ)
contents_in [] name = None
contents_in (file ∷ files) name = cond (bytes_eq file.0 name) (Some file.1) (contents_in files name)
