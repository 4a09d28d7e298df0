-- Grammars written once: a phrase says which tokens stand there and what they mean. Its language and its parser are
-- both read off it.
use Rattle.std.specs.Prelude.{Option, Some, None, ◌≡◌, ℕ, zero, suc, Bool, true, false, length, Err}
use Rattle.text_reading.specs.declared.stop.Refusal.{Refusal}
use Rattle.text_reading.specs.Tokens.{Tok, Tongue, head_kind, at_left}
use Rattle.text_reading.specs.Parsing.{Parser, ◌>>=◌, ◌<$>◌, pure, pick, either, many}
use Rattle.text_reading.specs.Grammar as languages
use Rattle.text_reading.specs.Grammar.{Lang, Empty, none_free, all_free}

-- The rules by which phrases nest: what each is given, what it says, and before which kinds of token it ends.
pub record Rules (K : Type 0) : Type 1 where
  pub Rule : Type 0
  pub Given : Rule → Type 0
  pub Said : Rule → Type 0
  pub ends : Rule → K → Bool

-- A phrase that is given an I and says an A. All that depends on kinds of token is fixed; what a token says, and which
-- limit it meets, may depend on what was given.
pub data Phrase (K W : Type 0) (R : Rules K) : Type 0 → Type 0 → Type 1 where
  -- no tokens
  Pure : {I A : Type 0} → (I → A) → Phrase K W R I A
  -- a token of such a kind, unless it meets a limit
  Pick : {I A : Type 0} → (K → Bool) → (I → Tok K → Option W) → (I → Tok K → A) → Phrase K W R I A
  -- one after the other
  Then : {I A B : Type 0} → Phrase K W R I A → Phrase K W R (I × A) B → Phrase K W R I B
  -- the one where the next token is of such a kind, else the other
  Or : {I A : Type 0} → (K → Bool) → Phrase K W R I A → Phrase K W R I A → Phrase K W R I A
  -- as long as the next token is of such a kind, one more, which changes what was said
  Many : {I A : Type 0} → (K → Bool) → (I → A) → Phrase K W R (I × A) A → Phrase K W R I A
  -- a token that opens, and then a phrase of a rule
  Nest : {I A : Type 0} → (K → Bool) → (I → Tok K → Option W) → (r : R.Rule) → (I → Tok K → R.Given r) → (I → Tok K → R.Said r → A)
      → Phrase K W R I A
  -- a phrase that is given something else
  With : {I J A : Type 0} → (I → J) → Phrase K W R J A → Phrase K W R I A

pub record Grammar (K W : Type 0) : Type 1 where
  pub rules : Rules K
  pub rule : (r : rules.Rule) → Phrase K W rules (rules.Given r) (rules.Said r)

-- ---- the language of a phrase

-- which tokens are free of which limits
abbrev pub Free : Type 0 → Type 0 → Type 1
Free K W = Tok K → Refusal W → Type 0

abbrev pub Languages : {K : Type 0} → Rules K → Type 1
Languages {K} R = (r : R.Rule) → R.Given r → Lang K (R.Said r)

-- the first of a token's own limit, the one of its place, at its first byte, and its late one
abbrev pub first_limit : {K W : Type 0} → Tok K → Option (Refusal W) → Option W → Option (Refusal W) → Option (Refusal W)
first_limit t (Some r) at late = Some r
first_limit t None (Some why) late = Some (at_left why t.left)
first_limit t None None late = late

-- the limit that a token meets where this one is that of its place
unfoldable pub limited : {K W : Type 0} → Tongue K W → (Tok K → Option W) → Tok K → Option (Refusal W)
limited T limit t = first_limit t (T.own t) (limit t) (T.late t)

-- a phrase whose first token is of such a kind, or isn't
abbrev pub Led : {K W A : Type 0} → Tongue K W → (K → Bool) → Bool → Lang K A → Lang K A
Led T goes b P ts x = (goes (head_kind T ts) ≡ b) × P ts x

unfoldable pub language : {K W : Type 0} {R : Rules K} {I A : Type 0} → Tongue K W → Free K W → Languages R → Phrase K W R I A → I → Lang K A
language T free env (Pure f) i = Empty (f i)
language T free env (Pick can limit f) i = languages.Says (f i) (languages.Picked free can (limited T (limit i)))
language T free env (Then p q) i = languages.Then (language T free env p i) (λ a. language T free env q (i, a))
language T free env (Or goes p q) i = languages.Or (Led T goes true (language T free env p i)) (Led T goes false (language T free env q i))
language T free env (Many goes start step) i = languages.Many (λ a. Led T goes true (language T free env step (i, a))) (start i)
language T free env (Nest can limit r to f) i =
    languages.Then (languages.Picked free can (limited T (limit i))) (λ t. languages.Says (f i t) (env r (to i t)))
language T free env (With f p) i = language T free env p (f i)

-- ---- the parser of a phrase

abbrev pub Parsers : {K : Type 0} → Type 0 → Rules K → Type 0
Parsers {K} W R = (r : R.Rule) → R.Given r → Parser K W (R.Said r)

unfoldable pub parser : {K W : Type 0} {R : Rules K} {I A : Type 0} → Tongue K W → Bool → Parsers W R → Phrase K W R I A → I → Parser K W A
parser T wide env (Pure f) i = pure (f i)
parser T wide env (Pick can limit f) i = f i <$> pick T wide can (limited T (limit i))
parser T wide env (Then p q) i = parser T wide env p i >>= (λ a. parser T wide env q (i, a))
parser T wide env (Or goes p q) i = either T goes (parser T wide env p i) (parser T wide env q i)
parser T wide env (Many goes start step) i = many T goes (λ a. parser T wide env step (i, a)) (start i)
parser T wide env (Nest can limit r to f) i = pick T wide can (limited T (limit i)) >>= (λ t. f i t <$> env r (to i t))
parser T wide env (With f p) i = parser T wide env p (f i)

-- ---- the rules of a grammar

module _ {K W : Type 0} (T : Tongue K W) (G : Grammar K W) where
  -- the phrases of a rule in which rules nest less deep than this
  unfoldable pub language_at : Free K W → ℕ → Languages G.rules
  language_at free zero r i = languages.Nothing
  language_at free (suc n) r i = language T free (language_at free n) (G.rule r) i

  abbrev pub rule_language : Free K W → Languages G.rules
  rule_language free r i ts x = (n : ℕ) × language_at free n r i ts x

  -- the tokens that are a phrase, and what it says
  abbrev pub Is : {I A : Type 0} → Free K W → Phrase K W G.rules I A → I → Lang K A
  Is free p i = language T free (rule_language free) p i

  unfoldable pub parser_at : Bool → ℕ → Parsers W G.rules
  parser_at wide zero r i = λ ts. Err (T.refusal ts)
  parser_at wide (suc n) r i = parser T wide (parser_at wide n) (G.rule r) i

  -- rules nest no deeper than there are tokens
  unfoldable pub rule_parser : Bool → Parsers W G.rules
  rule_parser wide r i ts = parser_at wide (suc (length ts)) r i ts

  abbrev pub reads : {I A : Type 0} → Bool → Phrase K W G.rules I A → I → Parser K W A
  reads wide p i = parser T wide (rule_parser wide) p i

-- ---- grammars in which no phrase nests

abbrev pub no_rules : {K : Type 0} → Rules K
no_rules = record { Rule = ⊥; Given = λ r. Unit {0}; Said = λ r. Unit {0}; ends = λ r h. true }

abbrev pub plain : {K W : Type 0} → Grammar K W
plain = record { rules = no_rules; rule = λ r. absurd r }
