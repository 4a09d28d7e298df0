-- The words in which grammars are written.
use Rattle.std.specs.Prelude.{Option, Some, None, Bool, List, [], ◌∷◌, ◌++◌}
use Rattle.text_reading.specs.Tokens.{Bytes, Tok, Tongue}
use Rattle.text_reading.specs.Phrases.{Rules, Phrase, Pure, Pick, Then, Or, Many, With}

abbrev pub no_limit : {K W I : Type 0} → I → Tok K → Option W
no_limit i t = None

module _ {K W : Type 0} {R : Rules K} where
  -- f of what was given and what the phrase says
  infixr 11 ◌<$>◌
  abbrev pub ◌<$>◌ : {I A B : Type 0} → (I → A → B) → Phrase K W R I A → Phrase K W R I B
  f <$> p = Then p (Pure (λ j. f j.0 j.1))

  -- one after the other, which says both, the second or the first
  infixr 12 ◌&◌
  abbrev pub ◌&◌ : {I A B : Type 0} → Phrase K W R I A → Phrase K W R I B → Phrase K W R I (A × B)
  p & q = Then p (Then (With (λ j. j.0) q) (Pure (λ j. (j.0.1, j.1))))

  infixr 12 ◌&>◌
  abbrev pub ◌&>◌ : {I A B : Type 0} → Phrase K W R I A → Phrase K W R I B → Phrase K W R I B
  p &> q = Then p (With (λ j. j.0) q)

  infixl 13 ◌<&◌
  abbrev pub ◌<&◌ : {I A B : Type 0} → Phrase K W R I A → Phrase K W R I B → Phrase K W R I A
  p <& q = Then p (Then (With (λ j. j.0) q) (Pure (λ j. j.0.1)))

  -- a phrase that is given nothing
  abbrev pub just : {I A : Type 0} → Phrase K W R (Unit {0}) A → Phrase K W R I A
  just p = With (λ i. tt) p

  -- a token of such a kind, which says its bytes
  abbrev pub spelled : {I : Type 0} → (K → Bool) → (I → Tok K → Option W) → Phrase K W R I Bytes
  spelled can limit = Pick can limit (λ i t. t.text)

  -- what a token of such a kind begins, or nothing
  abbrev pub optional : {I A : Type 0} → (K → Bool) → Phrase K W R I A → Phrase K W R I (Option A)
  optional goes p = Or goes ((λ i x. Some x) <$> p) (Pure (λ i. None))

  -- one or more, with a token of such a kind between them
  abbrev pub listed : {I A : Type 0} → (K → Bool) → Phrase K W R I A → Phrase K W R I (List A)
  listed between p = Then ((λ i x. x ∷ []) <$> p)
      (Many between (λ j. j.1) (Then (Pick between no_limit (λ j t. tt {0})) (Then (With (λ j. j.0.0.0) p) (Pure (λ j. j.0.0.1 ++ j.1 ∷ [])))))

-- a token of this kind, which says nothing
abbrev pub mark : {K W : Type 0} {R : Rules K} {I : Type 0} → Tongue K W → K → Phrase K W R I (Unit {0})
mark T kind = Pick (λ h. T.same h kind) (λ i t. None) (λ i t. tt)
