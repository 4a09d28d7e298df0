-- Tests of all kinds of token, which compute.
use Rattle.std.proofs.Common.{◌≡◌, Bool, true, false, not, ◌&&◌, ◌||◌, List, [], ◌∷◌, refl}

abbrev pub each : {K : Type 0} → (K → Bool) → List K → Bool
each test [] = true
each test (h ∷ hs) = test h && each test hs

-- All kinds stand in a list.
pub record Kinds (K : Type 0) : Type 0 where
  pub list : List K
  pub all : (test : K → Bool) → each test list ≡ true → (h : K) → test h ≡ true

abbrev pub implies : Bool → Bool → Bool
implies a b = not a || b

pub by_test : (a b : Bool) → implies a b ≡ true → a ≡ true → b ≡ true
by_test true b e h = e
by_test false b e h = absurd (cc)

pub both_test : (a b : Bool) → a ≡ true → b ≡ true → (a && b) ≡ true
both_test a b e f = rw (e, f) refl

pub or_left : (a b : Bool) → a ≡ true → (a || b) ≡ true
or_left a b e = rw e refl

pub or_right : (a b : Bool) → b ≡ true → (a || b) ≡ true
or_right true b e = refl
or_right false b e = e
