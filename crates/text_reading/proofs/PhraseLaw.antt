-- A grammar whose phrases fit: its parsers read exactly its phrases, and refuse all else where and why they have to.
use Rattle.std.proofs.Common.{◌≡◌, ℕ, zero, suc, ◌≤◌, ◌<◌, Bool, true, false, not, [], ◌∷◌, ◌++◌, length, length-append, Option, Some, None, Result, inl, inr, refl, sym, ap, subst, ◌∙◌, append-nil, arith}
use Rattle.text_reading.specs.declared.stop.Refusal.{Refusal}
use Rattle.text_reading.specs.declared.stop.Stop.{Stop}
use Rattle.text_reading.specs.Tokens.{Tok, Toks, Tongue, head_kind, at_left}
use Rattle.text_reading.specs.Parsing.{pick}
use Rattle.text_reading.specs.Grammar.{Waiver, waived, none_free, all_free, free_by}
use Rattle.text_reading.specs.Reading.{IsReading, whole, Gives}
use Rattle.text_reading.specs.Phrases.{Phrase, Pure, Pick, Then, Or, Many, Nest, With, Grammar, Free, first_limit, limited, language, parser, language_at, rule_language, Is, rule_parser, reads, plain}
use Rattle.text_reading.proofs.Theory.{good, Any, Takes, Productive, Right}
use Rattle.text_reading.proofs.Lengths.{uses_pick}
use Rattle.text_reading.proofs.KindTests.{each, Kinds, implies, by_test}
use Rattle.text_reading.proofs.PhraseShape.{both_left, both_right, not_true, may_be_empty, stops, is_some, fits}
use Rattle.text_reading.proofs.PhraseRules.{lift, rule_folds, keeps, rule_keeps, rule_reads}
use Rattle.text_reading.proofs.PhraseTakes.{found, starts, some, free_of, takes}
use Rattle.text_reading.proofs.PhraseReads.{Sound, Refused, sound_pure, refused_pure, sound_pick, refused_pick, sound_then, refused_then, sound_says, refused_says, sound_or, refused_or, sound_many, refused_many}
use Rattle.text_reading.proofs.ReadingLaws.{reading_is}

not_both : (b : Bool) → not b ≡ true → b ≡ true → ⊥
not_both true e f = absurd (cc)
not_both false e f = absurd (cc)

module _ {K W : Type 0} (N : Kinds K) (G : Grammar K W) where
  -- rules that have phrases in which rules nest less deep than this
  unfoldable pub some_at : ℕ → G.rules.Rule → Bool
  some_at zero r = false
  some_at (suc n) r = is_some N.list (some_at n) (G.rule r)

-- The grammar fits: its phrases do, they stop before the kinds that end them, and there are some.
pub record Fits {K W : Type 0} (T : Tongue K W) (N : Kinds K) (G : Grammar K W) : Type 0 where
  pub fit : (r : G.rules.Rule) → fits T N.list (G.rule r) ≡ true
  pub ends : (r : G.rules.Rule) → each (λ h. implies (G.rules.ends r h) (stops (G.rule r) h)) N.list ≡ true
  pub depth : ℕ
  pub some : (r : G.rules.Rule) → some_at N G depth r ≡ true

limited_faulty : {K W : Type 0} (T : Tongue K W) (limit : Tok K → Option W) (t : Tok K) (ts : Toks K) (r : Refusal W) → limited T limit t ≡ Some r → T.IsFault (t ∷ ts) r
unfolding limited
limited_faulty {W = W} T limit t ts r e = by_each (T.own t) (limit t) (T.late t) (T.own_is t ts r) (T.late_is t ts r) e
  where
    by_each : (o : Option (Refusal W)) (l : Option W) (late : Option (Refusal W)) → (o ≡ Some r → T.IsFault (t ∷ ts) r) → (late ≡ Some r → T.IsFault (t ∷ ts) r)
        → first_limit t o l late ≡ Some r → T.IsFault (t ∷ ts) r
    by_each (Some s) l late f g e = f e
    by_each None None late f g e = g e
    by_each None (Some w) late f g e = let is : at_left w t.left ≡ r = cc in subst (λ s. T.IsFault (t ∷ ts) s) is (T.first_is t ts w)

module _ {K W : Type 0} (T : Tongue K W) (N : Kinds K) (G : Grammar K W) (fit : Fits T N G) where
  rule_starts_none : {I A : Type 0} (free : Free K W) (p : Phrase K W G.rules I A) → fits T N.list p ≡ true → not (may_be_empty p) ≡ true → (i : I) (x : A) → Is T G free p i [] x → ⊥
  rule_starts_none free p f full i x l = elim (starts T N.list free (rule_language T G free) p f i [] x l) [
    | inl none ↦ absurd (not_both (may_be_empty p) full none.1)
    | inr b ↦ absurd (let f = b.2 in (cc))
  ]

  -- ---- there are phrases of all rules

  some_at_is : (w : Waiver W) (n : ℕ) (r : G.rules.Rule) → some_at N G n r ≡ true → (i : G.rules.Given r) → Productive (language_at T G (free_by w) n r i)
  unfolding some_at language_at
  some_at_is w zero r e i = absurd (cc)
  some_at_is w (suc n) r e i = some T N (some_at N G n) w (language_at T G (free_by w) n) (some_at_is w n) (G.rule r) (fit.fit r) e i

  some_rule : (w : Waiver W) (r : G.rules.Rule) (i : G.rules.Given r) → Productive (rule_language T G (free_by w) r i)
  some_rule w r i = let s = some_at_is w fit.depth r (fit.some r) i in (s.0, s.1, (fit.depth, s.2))

  some_is : {I A : Type 0} (w : Waiver W) (p : Phrase K W G.rules I A) → fits T N.list p ≡ true → is_some N.list (λ _. true) p ≡ true → (i : I) → Productive (Is T G (free_by w) p i)
  some_is w p f is i = some T N (λ _. true) w (rule_language T G (free_by w)) (λ r _ j. some_rule w r j) p f is i

  -- ---- phrases are taken

  takes_at : (wide : Bool) (n : ℕ) (r : G.rules.Rule) (i : G.rules.Given r) → Takes T Any (language_at T G (free_of wide) n r i) (G.rules.ends r) (rule_parser T G wide r i)
  unfolding language_at
  takes_at wide zero r i = record { all = λ used rest x h l s. absurd l }
  takes_at wide (suc n) r i =
      let one = takes T N wide (language_at T G (free_of wide) n) (rule_parser T G wide) (takes_at wide n) (G.rule r) (fit.fit r) i in
      let stop = N.all (λ h. implies (G.rules.ends r h) (stops (G.rule r) h)) (fit.ends r) in
      record { all = λ used rest x h l s. rule_reads T N.list G fit.fit wide r i (used ++ rest) ∙ one.all used rest x h l (by_test (G.rules.ends r (head_kind T rest)) (stops (G.rule r) (head_kind T rest)) (stop (head_kind T rest)) s) }

  takes_rule : (wide : Bool) (r : G.rules.Rule) (i : G.rules.Given r) → Takes T Any (rule_language T G (free_of wide) r i) (G.rules.ends r) (rule_parser T G wide r i)
  takes_rule wide r i = record { all = λ used rest x h l s. (takes_at wide l.0 r i).all used rest x h l.1 s }

  pub takes_is : {I A : Type 0} (wide : Bool) (p : Phrase K W G.rules I A) → fits T N.list p ≡ true → (i : I) → Takes T Any (Is T G (free_of wide) p i) (stops p) (reads T G wide p i)
  takes_is wide p f i = takes T N wide (rule_language T G (free_of wide)) (rule_parser T G wide) (takes_rule wide) p f i

  -- ---- what is read is a phrase

  abbrev Short : ℕ → Toks K → Type 0
  Short n ts = length ts ≤ n

  abbrev Shorter : ℕ → Toks K → Type 0
  Shorter n ts = length ts < n

  stays_short : {I A : Type 0} (p : Phrase K W G.rules I A) (i : I) (n : ℕ) (ts : Toks K) (x : A) (rest : Toks K) → Short n ts → reads T G false p i ts ≡ good x rest → Short n rest
  stays_short p i n ts x rest h e = let k = (keeps T N.list false (rule_parser T G false) (rule_keeps T N.list G fit.fit false) p i).le ts x rest e in omega arith

  picked : (can : K → Bool) (limit : Tok K → Option (Refusal W)) → can T.end ≡ false → (n : ℕ) (ts : Toks K) (t : Tok K) (rest : Toks K) → Short n ts → pick T false can limit ts ≡ good t rest → Shorter n rest
  picked can limit ends n ts t rest h e = let k = (uses_pick T (λ _. true) false can limit ends).lt ts t rest refl e in omega arith

  module _ (n : ℕ) (rules : (r : G.rules.Rule) (i : G.rules.Given r) → Sound T (Shorter n) (rule_language T G none_free r i) (rule_parser T G false r i) (rule_parser T G true r i)) where
    sound : {I A : Type 0} (p : Phrase K W G.rules I A) → fits T N.list p ≡ true → (i : I) → Sound T (Short n) (Is T G none_free p i) (reads T G false p i) (reads T G true p i)
    unfolding language parser fits
    sound (Pure f) fi i = sound_pure T (Short n) (f i)
    sound (Pick can limit f) fi i =
        let k = found can N.list (both_right (not (can T.end)) _ fi) in
        sound_says T (f i) (sound_pick T can (limited T (limit i)) (not_true (can T.end) (both_left (not (can T.end)) _ fi)) (limited_faulty T (limit i)) k.0 k.1 (Short n))
    sound (Then p q) fi i =
        sound_then T (sound p (both_left (fits T N.list p) _ fi) i) (λ a. sound q (both_left (fits T N.list q) _ (both_right (fits T N.list p) _ fi)) (i, a)) (stays_short p i n)
    sound (Or goes p q) fi i =
        let fi' = both_right (fits T N.list p) _ fi in
        let fi'' = both_right (fits T N.list q) _ fi' in
        sound_or T goes (not_true (goes T.end) (both_left (not (goes T.end)) _ fi''))
        (rule_starts_none none_free p (both_left (fits T N.list p) _ fi) (both_left (not (may_be_empty p)) _ (both_right (not (goes T.end)) _ fi'')) i)
        (sound p (both_left (fits T N.list p) _ fi) i) (sound q (both_left (fits T N.list q) _ fi') i)
    sound (Many goes start step) fi i =
        let fi' = both_right (fits T N.list step) _ fi in
        sound_many T (Short n) goes (λ a. Is T G none_free step (i, a)) (λ a. reads T G false step (i, a)) (λ a. reads T G true step (i, a))
        (not_true (goes T.end) (both_left (not (goes T.end)) _ fi'))
        (λ a x. rule_starts_none none_free step (both_left (fits T N.list step) _ fi) (both_left (not (may_be_empty step)) _ (both_right (not (goes T.end)) _ fi')) (i, a) x)
        (λ a. sound step (both_left (fits T N.list step) _ fi) (i, a)) (λ a ts x rest. stays_short step (i, a) n ts x rest) (start i)
    sound (Nest can limit r to f) fi i =
        let ends = not_true (can T.end) (both_left (not (can T.end)) _ fi) in
        let k = found can N.list (both_right (not (can T.end)) _ fi) in
        sound_then T (sound_pick T can (limited T (limit i)) ends (limited_faulty T (limit i)) k.0 k.1 (Short n))
        (λ t. sound_says T (f i t) (rules r (to i t))) (picked can (limited T (limit i)) ends n)
    sound (With f p) fi i = sound p fi (f i)

  -- what is so of a rule's phrase is so of the rule
  sound_rule : (n : ℕ) (r : G.rules.Rule) (i : G.rules.Given r) → Sound T (Shorter n) (rule_language T G none_free r i) (rule_parser T G false r i) (rule_parser T G true r i)
  sound_rule zero r i = record { all = λ ts x rest h e. absurd (omega arith) }
  sound_rule (suc n) r i = record {
    all = λ ts x rest h e.
        let one = (sound n (sound_rule n) (G.rule r) (fit.fit r) i).all ts x rest (omega arith) (sym (rule_reads T N.list G fit.fit false r i ts) ∙ e) in
        record {
          used = one.used;
          parts = one.parts;
          phrase = rule_folds T G none_free r i one.used x one.phrase;
          again = λ other h. rule_reads T N.list G fit.fit false r i (one.used ++ other) ∙ one.again other h;
          wide = λ other h. rule_reads T N.list G fit.fit true r i (one.used ++ other) ∙ one.wide other h;
        };
  }

  -- ---- what is refused, is refused rightly

  lift_at : (free : Free K W) → (n : ℕ) (r : G.rules.Rule) (i : G.rules.Given r) (ts : Toks K) (x : G.rules.Said r) → language_at T G none_free n r i ts x → language_at T G free n r i ts x
  unfolding language_at
  lift_at free zero r i ts x l = absurd l
  lift_at free (suc n) r i ts x l = lift T (λ t s f. absurd f) (lift_at free n) (G.rule r) i ts x l

  -- a phrase in which no token is free of a limit
  free_is : {I A : Type 0} (free : Free K W) (p : Phrase K W G.rules I A) (i : I) (ts : Toks K) (x : A) → Is T G none_free p i ts x → Is T G free p i ts x
  free_is free p i ts x l = lift T (λ t r f. absurd f) (λ r j us y m. (m.0, lift_at free m.0 r j us y m.1)) p i ts x l

  keeps_is : {I A : Type 0} (p : Phrase K W G.rules I A) (i : I) (w : Waiver W) (ts : Toks K) (x : A) → Is T G none_free p i ts x → Is T G (free_by w) p i ts x
  keeps_is p i w ts x l = free_is (free_by w) p i ts x l

  keeps_rule : (r : G.rules.Rule) (i : G.rules.Given r) (w : Waiver W) (ts : Toks K) (x : G.rules.Said r) → rule_language T G none_free r i ts x → rule_language T G (free_by w) r i ts x
  keeps_rule r i w ts x l = (l.0, lift_at (free_by w) l.0 r i ts x l.1)

  module _ (n : ℕ)
      (rules : (r : G.rules.Rule) (i : G.rules.Given r) → Refused T (Shorter n) (λ w. rule_language T G (free_by w) r i) (rule_language T G all_free r i) (rule_parser T G false r i) (rule_parser T G true r i)) where
    refused : {I A : Type 0} (p : Phrase K W G.rules I A) → fits T N.list p ≡ true → (i : I) → Refused T (Short n) (λ w. Is T G (free_by w) p i) (Is T G all_free p i) (reads T G false p i) (reads T G true p i)
    unfolding language parser fits
    refused (Pure f) fi i = refused_pure T (Short n) (f i)
    refused (Pick can limit f) fi i =
        let ends = not_true (can T.end) (both_left (not (can T.end)) _ fi) in
        let k = found can N.list (both_right (not (can T.end)) _ fi) in
        refused_says T (f i) (sound_pick T can (limited T (limit i)) ends (limited_faulty T (limit i)) k.0 k.1 (Short n))
        (refused_pick T can (limited T (limit i)) ends (limited_faulty T (limit i)) k.0 k.1 (Short n))
        (λ w ts x l. (l.0, l.1, λ r e. absurd (l.2 r e)))
    refused (Then p q) fi i =
        let fi' = both_right (fits T N.list p) _ fi in
        let fi'' = both_right (fits T N.list q) _ fi' in
        refused_then T (sound n (sound_rule n) p (both_left (fits T N.list p) _ fi) i) (λ a. sound n (sound_rule n) q (both_left (fits T N.list q) _ fi') (i, a)) (stays_short p i n)
        (refused p (both_left (fits T N.list p) _ fi) i) (λ a. refused q (both_left (fits T N.list q) _ fi') (i, a))
        (λ w a. some_is w q (both_left (fits T N.list q) _ fi') (both_left (is_some N.list (λ _. true) q) _ fi'') (i, a)) (keeps_is p i)
    refused (Or goes p q) fi i =
        let fi' = both_right (fits T N.list p) _ fi in
        let fi'' = both_right (fits T N.list q) _ fi' in
        refused_or T goes
        (λ w. some_is w (Or goes p q) fi (both_right (not (may_be_empty p)) _ (both_right (not (goes T.end)) _ fi'')) i)
        (refused p (both_left (fits T N.list p) _ fi) i) (refused q (both_left (fits T N.list q) _ fi') i)
    refused (Many goes start step) fi i =
        let fi' = both_right (fits T N.list step) _ fi in
        refused_many T (Short n) goes (λ a. Is T G none_free step (i, a)) (λ a. reads T G false step (i, a)) (λ a. reads T G true step (i, a))
        (not_true (goes T.end) (both_left (not (goes T.end)) _ fi'))
        (λ a x. rule_starts_none none_free step (both_left (fits T N.list step) _ fi) (both_left (not (may_be_empty step)) _ (both_right (not (goes T.end)) _ fi')) (i, a) x)
        (λ a. sound n (sound_rule n) step (both_left (fits T N.list step) _ fi) (i, a)) (λ a ts x rest. stays_short step (i, a) n ts x rest)
        (λ a. Is T G all_free step (i, a)) (λ w a. Is T G (free_by w) step (i, a))
        (λ a. refused step (both_left (fits T N.list step) _ fi) (i, a)) (λ w a ts x l. keeps_is step (i, a) w ts x l) (start i)
    refused (Nest can limit r to f) fi i =
        let ends = not_true (can T.end) (both_left (not (can T.end)) _ fi) in
        let k = found can N.list (both_right (not (can T.end)) _ fi) in
        refused_then T (sound_pick T can (limited T (limit i)) ends (limited_faulty T (limit i)) k.0 k.1 (Short n))
        (λ t. sound_says T (f i t) (sound_rule n r (to i t))) (picked can (limited T (limit i)) ends n)
        (refused_pick T can (limited T (limit i)) ends (limited_faulty T (limit i)) k.0 k.1 (Short n))
        (λ t. refused_says T (f i t) (sound_rule n r (to i t)) (rules r (to i t)) (keeps_rule r (to i t)))
        (λ w t. let s = some_rule w r (to i t) in (s.0, f i t s.1, (s.0, [], s.1, sym (append-nil s.0), s.2, (refl, refl))))
        (λ w ts x l. (l.0, l.1, λ s e. absurd (l.2 s e)))
    refused (With f p) fi i = refused p fi (f i)

  refused_rule : (n : ℕ) (r : G.rules.Rule) (i : G.rules.Given r)
      → Refused T (Shorter n) (λ w. rule_language T G (free_by w) r i) (rule_language T G all_free r i) (rule_parser T G false r i) (rule_parser T G true r i)
  refused_rule zero r i = record { all = λ ts s h e. absurd (omega arith) }
  refused_rule (suc n) r i = record {
    all = λ ts s h e.
        let one = (refused n (refused_rule n) (G.rule r) (fit.fit r) i).all ts s (omega arith) (sym (rule_reads T N.list G fit.fit false r i ts) ∙ e) in
        record {
          used = one.used;
          rest = one.rest;
          parts = one.parts;
          clean = λ w. let c = one.clean w in (c.0, c.1, rule_folds T G (free_by w) r i (one.used ++ c.0) c.1 c.2);
          stuck = λ t after other is. let k = one.stuck t after other is in (k.0, rule_reads T N.list G fit.fit false r i (one.used ++ t ∷ other) ∙ k.1);
          reason = elim one.reason [
            | inl l ↦ inl (record { is = l.is; stuck = λ t after other is. let k = l.stuck t after other is in (k.0, rule_reads T N.list G fit.fit true r i (one.used ++ t ∷ other) ∙ k.1) })
            | inr l ↦ inr (record {
              is = l.is;
              token = l.token;
              after = l.after;
              begins = l.begins;
              more = l.more;
              value = l.value;
              goes-on = rule_folds T G (free_by (waived one.rest s)) r i (one.used ++ l.token ∷ l.more) l.value l.goes-on;
            })
          ];
        };
  }

  -- ---- the law

  pub right : {I A : Type 0} (p : Phrase K W G.rules I A) → fits T N.list p ≡ true → (i : I)
      → Right T Any (Is T G none_free p i) (λ w. Is T G (free_by w) p i) (Is T G all_free p i) (stops p) (reads T G false p i) (reads T G true p i)
  right p f i = record {
    sound = λ ts x rest _ e. (sound (length ts) (sound_rule (length ts)) p f i).all ts x rest (omega arith) e;
    narrow = takes_is false p f i;
    wide = takes_is true p f i;
    refused = λ ts r _ e. (refused (length ts) (refused_rule (length ts)) p f i).all ts r (omega arith) e;
    within = λ ts x l. free_is all_free p i ts x l;
    keeps = λ w ts x l. keeps_is p i w ts x l;
  }

  -- what a text's reader answers, against the grammar
  pub is_reading : {I A : Type 0} (p : Phrase K W G.rules I A) → fits T N.list p ≡ true → stops p T.end ≡ true → (i : I) (ts : Toks K) (result : Result A (Stop W))
      → Gives result (whole T (reads T G false p i) ts) → IsReading T (Is T G none_free p i) (λ w. Is T G (free_by w) p i) (Is T G all_free p i) ts result
  is_reading p f end i ts result g = reading_is T (right p f i) end ts result g

  -- a phrase that can't be empty takes a token
  pub shrinks : {I A : Type 0} (p : Phrase K W G.rules I A) → fits T N.list p ≡ true → not (may_be_empty p) ≡ true → (i : I) (ts : Toks K) (x : A) (rest : Toks K)
      → reads T G false p i ts ≡ good x rest → length rest < length ts
  shrinks p f full i ts x rest e =
      let one = (right p f i).sound ts x rest tt e in
      elim (starts T N.list none_free (rule_language T G none_free) p f i one.used x one.phrase) [
        | inl none ↦ absurd (not_both (may_be_empty p) full none.1)
        | inr b ↦ omega (arith, ap length one.parts, length-append one.used rest, ap length b.2)
      ]

-- a grammar in which no phrase nests fits
pub plain_fits : {K W : Type 0} (T : Tongue K W) (N : Kinds K) → Fits T N (plain {K = K} {W = W})
plain_fits T N = record { fit = λ r. absurd r; ends = λ r. absurd r; depth = 0; some = λ r. absurd r }
