-- The rules of a grammar: how deep they nest makes no difference.
use Rattle.std.proofs.Common.{◌≡◌, ℕ, zero, suc, ◌+◌, ◌≤◌, ◌<◌, Bool, true, not, List, length, Ok, Err, inl, inr, refl, ap, ◌∙◌, arith}
use Rattle.text_reading.specs.declared.stop.Refusal.{Refusal}
use Rattle.text_reading.specs.Tokens.{Tok, Toks, Tongue, head_kind}
use Rattle.text_reading.specs.Parsing.{Outcome, Parser, ◌<$>◌, and_then, pure, pick, either, loop}
use Rattle.text_reading.specs.Grammar.{Lang, Done, Next}
use Rattle.text_reading.specs.Grammar as languages
use Rattle.text_reading.specs.Phrases.{Rules, Phrase, Pure, Pick, Then, Or, Many, Nest, With, Grammar, Free, Languages, language, Parsers, parser, limited, language_at, rule_language, parser_at, rule_parser}
use Rattle.text_reading.proofs.Theory.{good, bool_cases}
use Rattle.text_reading.proofs.Lengths.{Keeps, keeps_pure, keeps_err, keeps_says, keeps_then, keeps_pick, uses_pick, keeps_either, keeps_many}
use Rattle.text_reading.proofs.PhraseShape.{fits, both_left, both_right, not_true}

many_lift : {K A : Type 0} {Step Step' : A → Lang K A} → ((a : A) (ts : Toks K) (x : A) → Step a ts x → Step' a ts x)
    → {a x : A} {ts : Toks K} → languages.Many Step a ts x → languages.Many Step' a ts x
many_lift f Done = Done
many_lift f (Next {a = a} {b = b} {ts = ts} one two) = Next (f a ts b one) (many_lift f two)

-- more is free, and the rules have more phrases
module _ {K W : Type 0} {R : Rules K} (T : Tongue K W) {free free' : Free K W} {E E' : Languages R}
    (more : (t : Tok K) (r : Refusal W) → free t r → free' t r)
    (rules : (r : R.Rule) (i : R.Given r) (ts : Toks K) (x : R.Said r) → E r i ts x → E' r i ts x) where
  pub lift : {I A : Type 0} (p : Phrase K W R I A) (i : I) (ts : Toks K) (x : A) → language T free E p i ts x → language T free' E' p i ts x
  unfolding language
  lift (Pure f) i ts x l = l
  lift (Pick can limit f) i ts x l = (l.0, l.1, l.2, l.3, (l.4.0, l.4.1, λ s e. more l.2 s (l.4.2 s e)), l.5)
  lift (Then p q) i ts x l = (l.0, l.1, l.2, l.3, lift p i l.0 l.2 l.4, lift q (i, l.2) l.1 x l.5)
  lift (Or goes p q) i ts x l = elim l [ inl one ↦ inl (one.0, lift p i ts x one.1) | inr two ↦ inr (two.0, lift q i ts x two.1) ]
  lift (Many goes start step) i ts x l = many_lift (λ a us y s. (s.0, lift step (i, a) us y s.1)) l
  lift (Nest can limit r to f) i ts x l = (
    l.0,
    l.1,
    l.2,
    l.3,
    (l.4.0, l.4.1, λ s e. more l.2 s (l.4.2 s e)),
    (l.5.0, l.5.1, l.5.2, l.5.3, rules r (to i l.2) l.5.0 l.5.2 l.5.4, l.5.5),
  )
  lift (With f p) i ts x l = lift p (f i) ts x l

module _ {K W : Type 0} (T : Tongue K W) (G : Grammar K W) (free : Free K W) where
  deeper : (n m : ℕ) → n ≤ m → (r : G.rules.Rule) (i : G.rules.Given r) (ts : Toks K) (x : G.rules.Said r) → language_at T G free n r i ts x → language_at T G free m r i ts x
  unfolding language_at
  deeper zero m h r i ts x l = absurd l
  deeper (suc n) zero h r i ts x l = absurd (omega arith)
  deeper (suc n) (suc m) h r i ts x l = lift T (λ t s f. f) (deeper n m (omega arith)) (G.rule r) i ts x l

  -- the phrases in which rules nest at most so deep
  abbrev At : {I A : Type 0} → ℕ → Phrase K W G.rules I A → I → Lang K A
  At n p i = language T free (language_at T G free n) p i

  at_deeper : {I A : Type 0} (n m : ℕ) → n ≤ m → (p : Phrase K W G.rules I A) (i : I) (ts : Toks K) (x : A) → At n p i ts x → At m p i ts x
  at_deeper n m h p i ts x l = lift T (λ t s f. f) (deeper n m h) p i ts x l

  many_deep : {I A : Type 0} (goes : K → Bool) (step : Phrase K W G.rules (I × A) A) (i : I)
      → ((j : I × A) (ts : Toks K) (x : A) → language T free (rule_language T G free) step j ts x → (n : ℕ) × At n step j ts x)
      → {a x : A} {ts : Toks K} → languages.Many (λ b us y. (goes (head_kind T us) ≡ true) × language T free (rule_language T G free) step (i, b) us y) a ts x
      → (n : ℕ) × languages.Many (λ b us y. (goes (head_kind T us) ≡ true) × At n step (i, b) us y) a ts x
  many_deep goes step i one Done = (0, Done)
  many_deep goes step i one (Next {a = a} {b = b} {c = c} {ts = ts} {us = us} s l) =
      let first = one (i, a) ts b s.1 in
      let others = many_deep goes step i one l in (
        first.0 + others.0,
        Next (s.0, at_deeper first.0 (first.0 + others.0) (omega arith) step (i, a) ts b first.1)
            (many_lift (λ d vs y z. (z.0, at_deeper others.0 (first.0 + others.0) (omega arith) step (i, d) vs y z.1)) others.1),
      )

  pub deep : {I A : Type 0} (p : Phrase K W G.rules I A) (i : I) (ts : Toks K) (x : A) → language T free (rule_language T G free) p i ts x → (n : ℕ) × At n p i ts x
  unfolding language
  deep (Pure f) i ts x l = (0, l)
  deep (Pick can limit f) i ts x l = (0, l)
  deep (Then p q) i ts x l =
      let one = deep p i l.0 l.2 l.4 in
      let two = deep q (i, l.2) l.1 x l.5 in
      (one.0 + two.0, (l.0, l.1, l.2, l.3, at_deeper one.0 (one.0 + two.0) (omega arith) p i l.0 l.2 one.1, at_deeper two.0 (one.0 + two.0) (omega arith) q (i, l.2) l.1 x two.1))
  deep (Or goes p q) i ts x l = elim l [
    | inl one ↦ let d = deep p i ts x one.1 in (d.0, inl (one.0, d.1))
    | inr two ↦ let d = deep q i ts x two.1 in (d.0, inr (two.0, d.1))
  ]
  deep (Many goes start step) i ts x l = many_deep goes step i (λ j us y s. deep step j us y s) l
  deep (Nest can limit r to f) i ts x l =
      (l.5.4.0, (l.0, l.1, l.2, l.3, l.4, (l.5.0, l.5.1, l.5.2, l.5.3, l.5.4.1, l.5.5)))
  deep (With f p) i ts x l = deep p (f i) ts x l

  -- a rule's phrases are those of its phrase
  pub rule_folds : (r : G.rules.Rule) (i : G.rules.Given r) (ts : Toks K) (x : G.rules.Said r) → language T free (rule_language T G free) (G.rule r) i ts x → rule_language T G free r i ts x
  unfolding language_at
  rule_folds r i ts x l = let d = deep (G.rule r) i ts x l in (suc d.0, d.1)

-- ---- parsers

pub and_then_same : {K W A B : Type 0} (o : Outcome K W A) (f g : A → Parser K W B) → ((x : A) (rest : Toks K) → o ≡ good x rest → f x rest ≡ g x rest) → and_then o f ≡ and_then o g
and_then_same (Ok p) f g same = same p.0 p.1 refl
and_then_same (Err e) f g same = refl

either_same : {K W A : Type 0} (T : Tongue K W) (goes : K → Bool) (p p' q q' : Parser K W A) (ts : Toks K) → p ts ≡ p' ts → q ts ≡ q' ts → either T goes p q ts ≡ either T goes p' q' ts
unfolding either
either_same T goes p p' q q' ts e f = rw (e, f) refl

loop_same : {K W A : Type 0} (T : Tongue K W) (goes : K → Bool) (step step' : A → Parser K W A) (n : ℕ) → ((a : A) → Keeps (step a))
    → ((a : A) (us : Toks K) → length us ≤ n → step a us ≡ step' a us) → (m : ℕ) (a : A) (ts : Toks K) → length ts ≤ n → loop T goes step m a ts ≡ loop T goes step' m a ts
unfolding loop
loop_same T goes step step' n keeps same zero a ts h = refl
loop_same T goes step step' n keeps same (suc m) a ts h = elim (bool_cases (goes (head_kind T ts))) [
  | inr gone ↦ rw gone refl
  | inl here ↦
      let e : and_then (step a ts) (loop T goes step m) ≡ and_then (step' a ts) (loop T goes step' m) =
      and_then_same (step a ts) (loop T goes step m) (loop T goes step' m) (λ x rest o. loop_same T goes step step' n keeps same m x rest (let k = (keeps a).le ts x rest o in omega arith))
      ∙ ap (λ o. and_then o (loop T goes step' m)) (same a ts h) in
      rw here e
]

module _ {K W : Type 0} {R : Rules K} (T : Tongue K W) (list : List K) (wide : Bool) where
  pub keeps : {I A : Type 0} (E : Parsers W R) → ((r : R.Rule) (i : R.Given r) → Keeps (E r i)) → (p : Phrase K W R I A) (i : I) → Keeps (parser T wide E p i)
  unfolding parser
  keeps E rules (Pure f) i = keeps_pure (f i)
  keeps E rules (Pick can limit f) i = keeps_says (f i) (keeps_pick T wide can (limited T (limit i)))
  keeps E rules (Then p q) i = keeps_then (keeps E rules p i) (λ a. keeps E rules q (i, a))
  keeps E rules (Or goes p q) i = keeps_either T goes (keeps E rules p i) (keeps E rules q i)
  keeps E rules (Many goes start step) i = keeps_many T goes (λ a. keeps E rules step (i, a)) (start i)
  keeps E rules (Nest can limit r to f) i = keeps_then (keeps_pick T wide can (limited T (limit i))) (λ t. keeps_says (f i t) (rules r (to i t)))
  keeps E rules (With f p) i = keeps E rules p (f i)

  module _ (E E' : Parsers W R) (kept : (r : R.Rule) (i : R.Given r) → Keeps (E r i)) (n : ℕ)
      (rules : (r : R.Rule) (i : R.Given r) (ts : Toks K) → length ts < n → E r i ts ≡ E' r i ts) where
    -- the same rules on fewer tokens, the same phrase
    pub same : {I A : Type 0} (p : Phrase K W R I A) → fits T list p ≡ true → (i : I) (ts : Toks K) → length ts ≤ n → parser T wide E p i ts ≡ parser T wide E' p i ts
    unfolding parser fits
    same (Pure f) fit i ts h = refl
    same (Pick can limit f) fit i ts h = refl
    same (Then p q) fit i ts h =
        and_then_same (parser T wide E p i ts) (λ a. parser T wide E q (i, a)) (λ a. parser T wide E' q (i, a))
        (λ x rest o. same q (both_left (fits T list q) _ (both_right (fits T list p) _ fit)) (i, x) rest (let k = (keeps E kept p i).le ts x rest o in omega arith))
        ∙ ap (λ o. and_then o (λ a. parser T wide E' q (i, a))) (same p (both_left (fits T list p) _ fit) i ts h)
    same (Or goes p q) fit i ts h =
        either_same T goes (parser T wide E p i) (parser T wide E' p i) (parser T wide E q i) (parser T wide E' q i) ts
        (same p (both_left (fits T list p) _ fit) i ts h)
        (same q (both_left (fits T list q) _ (both_right (fits T list p) _ fit)) i ts h)
    same (Many goes start step) fit i ts h =
        loop_same T goes (λ a. parser T wide E step (i, a)) (λ a. parser T wide E' step (i, a)) n (λ a. keeps E kept step (i, a))
        (λ a us k. same step (both_left (fits T list step) _ fit) (i, a) us k) (length ts) (start i) ts h
    same (Nest can limit r to f) fit i ts h =
        and_then_same (pick T wide can (limited T (limit i)) ts) (λ t. f i t <$> E r (to i t)) (λ t. f i t <$> E' r (to i t))
        (λ t rest o.
        let ends = not_true (can T.end) (both_left (not (can T.end)) _ fit) in
        let less = (uses_pick T (λ _. true) wide can (limited T (limit i)) ends).lt ts t rest refl o in
        ap (λ o. and_then o (λ y. pure (f i t y))) (rules r (to i t) rest (omega arith)))
    same (With f p) fit i ts h = same p fit (f i) ts h

module _ {K W : Type 0} (T : Tongue K W) (list : List K) (G : Grammar K W)
    (fit : (r : G.rules.Rule) → fits T list (G.rule r) ≡ true) (wide : Bool) where
  at_keeps : (n : ℕ) (r : G.rules.Rule) (i : G.rules.Given r) → Keeps (parser_at T G wide n r i)
  unfolding parser_at
  at_keeps zero r i = keeps_err T.refusal
  at_keeps (suc n) r i = keeps T list wide (parser_at T G wide n) (at_keeps n) (G.rule r) i

  pub rule_keeps : (r : G.rules.Rule) (i : G.rules.Given r) → Keeps (rule_parser T G wide r i)
  unfolding rule_parser
  rule_keeps r i = record { le = λ ts x rest e. (at_keeps (suc (length ts)) r i).le ts x rest e }

  -- with more turns than there are tokens, one parser is like another
  enough : (n m : ℕ) (r : G.rules.Rule) (i : G.rules.Given r) (ts : Toks K) → length ts < n → length ts < m → parser_at T G wide n r i ts ≡ parser_at T G wide m r i ts
  unfolding parser_at
  enough zero m r i ts h k = absurd (omega arith)
  enough (suc n) zero r i ts h k = absurd (omega arith)
  enough (suc n) (suc m) r i ts h k =
      same T list wide (parser_at T G wide n) (parser_at T G wide m) (at_keeps n) (length ts)
      (λ s j us less. enough n m s j us (omega arith) (omega arith)) (G.rule r) (fit r) i ts (omega arith)

  -- a rule is read as its phrase
  pub rule_reads : (r : G.rules.Rule) (i : G.rules.Given r) (ts : Toks K) → rule_parser T G wide r i ts ≡ parser T wide (rule_parser T G wide) (G.rule r) i ts
  unfolding rule_parser parser_at
  rule_reads r i ts =
      same T list wide (parser_at T G wide (length ts)) (rule_parser T G wide) (at_keeps (length ts)) (length ts)
      (λ s j us less. enough (length ts) (suc (length us)) s j us less (omega arith)) (G.rule r) (fit r) i ts (omega arith)
