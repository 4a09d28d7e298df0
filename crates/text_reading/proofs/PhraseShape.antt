-- What of a phrase is fixed: whether it may have no tokens, the kinds with which it begins and before which it stops.
-- Whether its parts fit together is a test of all kinds, which computes.
use Rattle.std.proofs.Common.{◌≡◌, Bool, true, false, not, ◌&&◌, ◌||◌, List, [], ◌∷◌, refl}
use Rattle.text_reading.specs.Tokens.{Tongue}
use Rattle.text_reading.specs.Phrases.{Rules, Phrase, Pure, Pick, Then, Or, Many, Nest, With}
use Rattle.text_reading.proofs.KindTests.{each, implies}

pub both_left : (a b : Bool) → (a && b) ≡ true → a ≡ true
both_left true b e = refl
both_left false b e = absurd (cc)

pub both_right : (a b : Bool) → (a && b) ≡ true → b ≡ true
both_right true b e = e
both_right false b e = absurd (cc)

pub not_true : (b : Bool) → not b ≡ true → b ≡ false
not_true true e = absurd (cc)
not_true false e = refl

unfoldable pub some_kind : {K : Type 0} → (K → Bool) → List K → Bool
some_kind test [] = false
some_kind test (h ∷ hs) = test h || some_kind test hs

-- it may have no tokens
unfoldable pub may_be_empty : {K W : Type 0} {R : Rules K} {I A : Type 0} → Phrase K W R I A → Bool
may_be_empty (Pure f) = true
may_be_empty (Pick can limit f) = false
may_be_empty (Then p q) = may_be_empty p && may_be_empty q
may_be_empty (Or goes p q) = may_be_empty q
may_be_empty (Many goes start step) = true
may_be_empty (Nest can limit r to f) = false
may_be_empty (With f p) = may_be_empty p

-- the kinds with which it begins
unfoldable pub begins : {K W : Type 0} {R : Rules K} {I A : Type 0} → Phrase K W R I A → K → Bool
begins (Pure f) h = false
begins (Pick can limit f) h = can h
begins (Then p q) h = begins p h || (may_be_empty p && begins q h)
begins (Or goes p q) h = (goes h && begins p h) || (not (goes h) && begins q h)
begins (Many goes start step) h = goes h && begins step h
begins (Nest can limit r to f) h = can h
begins (With f p) h = begins p h

-- the kinds before which its parser stops
unfoldable pub stops : {K W : Type 0} {R : Rules K} {I A : Type 0} → Phrase K W R I A → K → Bool
stops (Pure f) h = true
stops (Pick can limit f) h = true
stops (Then p q) h = stops q h && implies (may_be_empty q) (stops p h)
stops (Or goes p q) h = stops p h && (stops q h && implies (may_be_empty q) (not (goes h)))
stops (Many goes start step) h = not (goes h) && stops step h
stops {R = R} (Nest can limit r to f) h = R.ends r h
stops (With f p) h = stops p h

module _ {K W : Type 0} {R : Rules K} (list : List K) (known : R.Rule → Bool) where
  -- it has a phrase, where such rules have one
  unfoldable pub is_some : {I A : Type 0} → Phrase K W R I A → Bool
  is_some (Pure f) = true
  is_some (Pick can limit f) = some_kind can list
  is_some (Then p q) = is_some p && is_some q
  is_some (Or goes p q) = (is_some p && (not (may_be_empty p) && each (λ h. implies (begins p h) (goes h)) list))
      || (is_some q && each (λ h. implies (begins q h) (not (goes h))) list)
  is_some (Many goes start step) = true
  is_some (Nest can limit r to f) = some_kind can list && known r
  is_some (With f p) = is_some p

module _ {K W : Type 0} {R : Rules K} (T : Tongue K W) (list : List K) where
  -- its parts fit together
  unfoldable pub fits : {I A : Type 0} → Phrase K W R I A → Bool
  fits (Pure f) = true
  fits (Pick can limit f) = not (can T.end) && some_kind can list
  fits (Then p q) = fits p && (fits q && (is_some list (λ _. true) q && each (λ h. implies (begins q h) (stops p h)) list))
  fits (Or goes p q) = fits p && (fits q && (not (goes T.end) && (not (may_be_empty p) && is_some list (λ _. true) (Or goes p q))))
  fits (Many goes start step) = fits step && (not (goes T.end) && (not (may_be_empty step) && each (λ h. implies (goes h) (stops step h)) list))
  fits (Nest can limit r to f) = not (can T.end) && some_kind can list
  fits (With f p) = fits p
