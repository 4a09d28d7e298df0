-- What is told of the outside.
use Rattle.std.specs.Prelude.{◌≡◌, ℕ, ◌+◌, ◌-◌, ◌^◌, ◌<◌, ◌≤◌, length, min, Bool, true, false, take, List, [], ◌∷◌, ◌++◌, Option, Some}
use Rattle.std.specs.Option.{IfSome, IsSomeAnd}

-- a count has risen; at its last value it stands still and counts as risen
abbrev pub Rises : ℕ → ℕ → Type 0
Rises old new = min (old + 1) (2 ^ 64 - 1) ≤ new

-- where the bytes so far are told, they have these at their end afterwards
abbrev pub Adds : Option (List ℕ) → Option (List ℕ) → List ℕ → Type 0
Adds old new bytes = IfSome old (λ before. new ≡ Some (before ++ bytes))

-- where the bytes so far are told, they have a front of these at their end afterwards
abbrev pub AddsFront : Option (List ℕ) → Option (List ℕ) → List ℕ → Type 0
AddsFront old new bytes = IfSome old (λ before. (front : List ℕ) × (rest : List ℕ) × (bytes ≡ front ++ rest) × (new ≡ Some (before ++ front)))

-- what is told of a name: nothing (`None`), that there is no file of the name (`Some None`), or its bytes
abbrev pub Contents : Type 0
Contents = Option (Option (List ℕ))

-- where something is told, there is a file with these bytes
abbrev pub HasBytes : Contents → List ℕ → Type 0
HasBytes told bytes = IfSome told (λ file. file ≡ Some bytes)

-- where something is told, there is a file with more bytes than these
abbrev pub IsLonger : Contents → ℕ → Type 0
IsLonger told most = IfSome told (λ file. IsSomeAnd file (λ bytes. most < length bytes))

-- where the names asked so far are told, this one stands at their end afterwards
abbrev pub Asks : Option (List (List ℕ)) → Option (List (List ℕ)) → List ℕ → Type 0
Asks old new name = IfSome old (λ before. new ≡ Some (before ++ name ∷ []))

-- all of the piece was put behind the bytes, or a front of it
abbrev pub Taken : List ℕ → List ℕ → List ℕ → Bool → Type 0
Taken old new piece true = new ≡ old ++ piece
Taken old new piece false = (n : ℕ) × (new ≡ old ++ take n piece)
