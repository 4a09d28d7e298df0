-- How phrases begin, that there are some, and that each that stands before a kind at which its parser stops is taken.
use Rattle.std.proofs.Common.{◌≡◌, Bool, true, false, not, ◌&&◌, ◌||◌, List, [], ◌∷◌, ◌++◌, Option, inl, inr, refl, sym, ap, ◌⊎◌, ◌∙◌, append-nil, arith}
use Rattle.text_reading.specs.declared.stop.Refusal.{Refusal}
use Rattle.text_reading.specs.Tokens.{Tok, Toks, Tongue, head_kind}
use Rattle.text_reading.specs.Parsing.{Parser, ◌<$>◌, pick, either}
use Rattle.text_reading.specs.Grammar.{Lang, Waiver, Says, Picked, none_free, all_free, free_by, Done, Next}
use Rattle.text_reading.specs.Grammar as languages
use Rattle.text_reading.specs.Phrases.{Rules, Phrase, Pure, Pick, Then, Or, Many, Nest, With, Free, Led, Languages, language, Parsers, parser, limited}
use Rattle.text_reading.proofs.Theory.{good, Any, always, Takes, Joins, Productive, token_of, takes_then, takes_end, joins_empty}
use Rattle.text_reading.proofs.Loops.{takes_many}
use Rattle.text_reading.proofs.Choices.{pick_wide, pick_good, no_free, goes_one, goes_other}
use Rattle.text_reading.proofs.KindTests.{each, Kinds, implies, by_test, both_test, or_left, or_right}
use Rattle.text_reading.proofs.PhraseShape.{both_left, both_right, not_true, some_kind, may_be_empty, begins, stops, is_some, fits}

-- Phrases begin with such a kind, or they may be empty.
abbrev pub Starts : {K : Type 0} → (K → Bool) → Bool → Toks K → Type 0
Starts {K} first empty ts = ((ts ≡ []) × (empty ≡ true)) ⊎ ((t : Tok K) × (us : Toks K) × (ts ≡ t ∷ us)
    × (first t.kind ≡ true))

pub is_not : (b : Bool) → b ≡ false → not b ≡ true
is_not true e = absurd (cc)
is_not false e = refl

either_test : (a b : Bool) → (a || b) ≡ true → (a ≡ true) ⊎ (b ≡ true)
either_test true b e = inl refl
either_test false b e = inr e

module _ {K W : Type 0} (T : Tongue K W) where
  -- a phrase whose first token is of such a kind has one
  led : (goes : K → Bool) (F : K → Bool) (e : Bool) (ts : Toks K) → goes T.end ≡ false → goes (head_kind T ts) ≡ true → Starts F e ts
      → (t : Tok K) × (us : Toks K) × (ts ≡ t ∷ us) × (goes t.kind ≡ true) × (F t.kind ≡ true)
  led goes F e ts ends here s = elim s [
    | inl none ↦ absurd (let f = ap (λ u. goes (head_kind T u)) (sym none.0) ∙ here in (cc))
    | inr b ↦ (b.0, b.1, b.2, ap (λ u. goes (head_kind T u)) (sym b.2) ∙ here, b.3)
  ]

  many_starts : {A : Type 0} (goes F : K → Bool) (e : Bool) {Step : A → Lang K A} → goes T.end ≡ false → ((a : A) (ts : Toks K) (x : A) → Step a ts x → (goes (head_kind T ts) ≡ true) × Starts F e ts)
      → {a x : A} {ts : Toks K} → languages.Many Step a ts x → Starts (λ h. goes h && F h) true ts
  many_starts goes F e ends one Done = inl (refl, refl)
  many_starts goes F e ends one (Next {a = a} {b = b} {ts = ts} {us = us} s l) =
      let o = one a ts b s in
      let g = led goes F e ts ends o.0 o.1 in
      inr (g.0, g.1 ++ us, ap (λ u. u ++ us) g.2, both_test (goes g.0.kind) (F g.0.kind) g.3 g.4)

module _ {K W : Type 0} {R : Rules K} (T : Tongue K W) (list : List K) where
  pub starts : {I A : Type 0} (free : Free K W) (E : Languages R) (p : Phrase K W R I A) → fits T list p ≡ true → (i : I) (ts : Toks K) (x : A) → language T free E p i ts x → Starts (begins p) (may_be_empty p) ts
  unfolding language fits begins may_be_empty
  starts free E (Pure f) fit i ts x l = inl (l.0, refl)
  starts free E (Pick can limit f) fit i ts x l = inr (l.2, l.1, l.3 ∙ ap (λ u. u ++ l.1) l.4.0, l.4.1)
  starts free E (Then p q) fit i ts x l = elim (starts free E p (both_left (fits T list p) _ fit) i l.0 l.2 l.4) [
    | inl none ↦ elim (starts free E q (both_left (fits T list q) _ (both_right (fits T list p) _ fit)) (i, l.2) l.1 x l.5) [
      | inl none' ↦ inl (l.3 ∙ ap (λ u. u ++ l.1) none.0 ∙ none'.0, both_test (may_be_empty p) (may_be_empty q) none.1 none'.1)
      | inr b ↦ inr (
        b.0,
        b.1,
        l.3 ∙ ap (λ u. u ++ l.1) none.0 ∙ b.2,
        or_right (begins p b.0.kind) (may_be_empty p && begins q b.0.kind) (both_test (may_be_empty p) (begins q b.0.kind) none.1 b.3),
      )
    ]
    | inr b ↦ inr (b.0, b.1 ++ l.1, l.3 ∙ ap (λ u. u ++ l.1) b.2, or_left (begins p b.0.kind) (may_be_empty p && begins q b.0.kind) b.3)
  ]
  starts free E (Or goes p q) fit i ts x l = elim l [
    | inl one ↦
        let ends = not_true (goes T.end) (both_left (not (goes T.end)) _ (both_right (fits T list q) _ (both_right (fits T list p) _ fit))) in
        let b = led T goes (begins p) (may_be_empty p) ts ends one.0 (starts free E p (both_left (fits T list p) _ fit) i ts x one.1) in
        inr (b.0, b.1, b.2, or_left (goes b.0.kind && begins p b.0.kind) (not (goes b.0.kind) && begins q b.0.kind) (both_test (goes b.0.kind) (begins p b.0.kind) b.3 b.4))
    | inr two ↦ elim (starts free E q (both_left (fits T list q) _ (both_right (fits T list p) _ fit)) i ts x two.1) [
      | inl none ↦ inl none
      | inr b ↦
          let gone : goes b.0.kind ≡ false = ap (λ u. goes (head_kind T u)) (sym b.2) ∙ two.0 in
          inr (b.0, b.1, b.2, or_right (goes b.0.kind && begins p b.0.kind) (not (goes b.0.kind) && begins q b.0.kind) (both_test (not (goes b.0.kind)) (begins q b.0.kind) (is_not (goes b.0.kind) gone) b.3))
    ]
  ]
  starts free E (Many goes start step) fit i ts x l =
      let ends = not_true (goes T.end) (both_left (not (goes T.end)) _ (both_right (fits T list step) _ fit)) in
      many_starts T goes (begins step) (may_be_empty step) ends
      (λ a us y s. (s.0, starts free E step (both_left (fits T list step) _ fit) (i, a) us y s.1)) l
  starts free E (Nest can limit r to f) fit i ts x l = inr (l.2, l.1, l.3 ∙ ap (λ u. u ++ l.1) l.4.0, l.4.1)
  starts free E (With f p) fit i ts x l = starts free E p fit (f i) ts x l

-- ---- there are phrases

pub found : {K : Type 0} (test : K → Bool) (list : List K) → some_kind test list ≡ true → (h : K) × (test h ≡ true)
unfolding some_kind
found test [] e = absurd (cc)
found test (h ∷ hs) e = elim (either_test (test h) (some_kind test hs) e) [ inl here ↦ (h, here) | inr later ↦ found test hs later ]

module _ {K W : Type 0} {R : Rules K} (T : Tongue K W) (N : Kinds K) (known : R.Rule → Bool) (w : Waiver W) (E : Languages R)
    (rules : (r : R.Rule) → known r ≡ true → (i : R.Given r) → Productive (E r i)) where
  pub some : {I A : Type 0} (p : Phrase K W R I A) → fits T N.list p ≡ true → is_some N.list known p ≡ true → (i : I) → Productive (language T (free_by w) E p i)
  unfolding language is_some fits
  some (Pure f) fit is i = ([], f i, (refl, refl))
  some (Pick can limit f) fit is i =
      let k = found can N.list is in
      (token_of k.0 ∷ [], f i (token_of k.0), (token_of k.0 ∷ [], [], token_of k.0, refl, (refl, k.1, λ r e. inl (omega arith)), (refl, refl)))
  some (Then p q) fit is i =
      let a = some p (both_left (fits T N.list p) _ fit) (both_left (is_some N.list known p) _ is) i in
      let b = some q (both_left (fits T N.list q) _ (both_right (fits T N.list p) _ fit)) (both_right (is_some N.list known p) _ is) (i, a.1) in
      (a.0 ++ b.0, b.1, (a.0, b.0, a.1, refl, a.2, b.2))
  some (Or goes p q) fit is i = elim (either_test (is_some N.list known p && (not (may_be_empty p) && each (λ h. implies (begins p h) (goes h)) N.list)) _ is) [
    | inl one ↦
        let a = some p (both_left (fits T N.list p) _ fit) (both_left (is_some N.list known p) _ one) i in
        let rest = both_right (is_some N.list known p) _ one in
        let on = N.all (λ h. implies (begins p h) (goes h)) (both_right (not (may_be_empty p)) _ rest) in
        elim (starts T N.list (free_by w) E p (both_left (fits T N.list p) _ fit) i a.0 a.1 a.2) [
          | inl none ↦ absurd (let f = not_true (may_be_empty p) (both_left (not (may_be_empty p)) _ rest) in let g = none.1 in (cc))
          | inr b ↦ (a.0, a.1, inl (ap (λ u. goes (head_kind T u)) b.2 ∙ by_test (begins p b.0.kind) (goes b.0.kind) (on b.0.kind) b.3, a.2))
        ]
    | inr two ↦
        let fit' = both_right (fits T N.list p) _ fit in
        let a = some q (both_left (fits T N.list q) _ fit') (both_left (is_some N.list known q) _ two) i in
        let away = N.all (λ h. implies (begins q h) (not (goes h))) (both_right (is_some N.list known q) _ two) in
        elim (starts T N.list (free_by w) E q (both_left (fits T N.list q) _ fit') i a.0 a.1 a.2) [
          | inl none ↦ (a.0, a.1, inr (ap (λ u. goes (head_kind T u)) none.0 ∙ not_true (goes T.end) (both_left (not (goes T.end)) _ (both_right (fits T N.list q) _ fit')), a.2))
          | inr b ↦ (a.0, a.1, inr (ap (λ u. goes (head_kind T u)) b.2 ∙ not_true (goes b.0.kind) (by_test (begins q b.0.kind) (not (goes b.0.kind)) (away b.0.kind) b.3), a.2))
        ]
  ]
  some (Many goes start step) fit is i = ([], start i, Done)
  some (Nest can limit r to f) fit is i =
      let k = found can N.list (both_left (some_kind can N.list) _ is) in
      let y = rules r (both_right (some_kind can N.list) _ is) (to i (token_of k.0)) in (
        token_of k.0 ∷ y.0,
        f i (token_of k.0) y.1,
        (token_of k.0 ∷ [], y.0, token_of k.0, refl, (refl, k.1, λ r e. inl (omega arith)), (y.0, [], y.1, sym (append-nil y.0), y.2, (refl, refl))),
      )
  some (With f p) fit is i = some p fit is (f i)

-- ---- phrases are taken

abbrev pub free_of : {K W : Type 0} → Bool → Free K W
free_of true = all_free
free_of false = none_free

module _ {K W : Type 0} (T : Tongue K W) where
  pub takes_before : {A : Type 0} {L : Lang K A} {S : K → Bool} {p : Parser K W A} (S' : K → Bool) → ((h : K) → S' h ≡ true → S h ≡ true) → Takes T Any L S p → Takes T Any L S' p
  takes_before S' f takes = record { all = λ used rest x h l s. takes.all used rest x h l (f (head_kind T rest) s) }

  takes_says : {A B : Type 0} {L : Lang K A} {S : K → Bool} {p : Parser K W A} (f : A → B) → Takes T Any L S p → Takes T Any (Says f L) S (f <$> p)
  takes_says {S = S} f takes = takes_then T takes (λ x. takes_end T S (f x)) (λ x. joins_empty T (f x) S)

  takes_pick : (wide : Bool) (can : K → Bool) (limit : Tok K → Option (Refusal W)) → can T.end ≡ false → Takes T Any (Picked (free_of wide) can limit) always (pick T wide can limit)
  takes_pick true can limit ends = record { all = λ used rest x _ l _. ap (λ u. pick T true can limit (u ++ rest)) l.0 ∙ pick_wide T can limit ends x rest l.1 }
  takes_pick false can limit ends = record { all = λ used rest x _ l _. ap (λ u. pick T false can limit (u ++ rest)) l.0 ∙ pick_good T can limit ends x rest l.1 (no_free (limit x) l.2) }

  -- the kind behind a phrase is one before which the phrase before it stops
  joins : {A : Type 0} (N : Kinds K) (L : Lang K A) (F : K → Bool) (e : Bool) (S S' : K → Bool) → ((ts : Toks K) (x : A) → L ts x → Starts F e ts)
      → each (λ h. implies (F h) (S h)) N.list ≡ true → ((h : K) → S' h ≡ true → implies e (S h) ≡ true) → Joins T L S' S
  joins N L F e S S' starts test behind back rest y l s = elim (starts back y l) [
    | inl none ↦ ap (λ u. S (head_kind T (u ++ rest))) none.0 ∙ by_test e (S (head_kind T rest)) (behind (head_kind T rest) s) none.1
    | inr b ↦ ap (λ u. S (head_kind T (u ++ rest))) b.2 ∙ by_test (F b.0.kind) (S b.0.kind) (N.all (λ h. implies (F h) (S h)) test b.0.kind) b.3
  ]

  takes_one : {A : Type 0} (goes F : K → Bool) (e : Bool) (P : Lang K A) (S : K → Bool) (p q : Parser K W A) → goes T.end ≡ false
      → ((ts : Toks K) (x : A) → P ts x → Starts F e ts) → Takes T Any P S p
      → (used rest : Toks K) (x : A) → Led T goes true P used x → S (head_kind T rest) ≡ true → either T goes p q (used ++ rest) ≡ good x rest
  takes_one goes F e P S p q ends starts one used rest x l s =
      let b = led T goes F e used ends l.0 (starts used x l.1) in
      let here : goes (head_kind T (used ++ rest)) ≡ true = ap (λ u. goes (head_kind T (u ++ rest))) b.2 ∙ b.3 in
      goes_one T goes p q (used ++ rest) here ∙ one.all used rest x tt l.1 s

  takes_other : {A : Type 0} (goes F : K → Bool) (e : Bool) (Q : Lang K A) (S : K → Bool) (p q : Parser K W A)
      → ((ts : Toks K) (x : A) → Q ts x → Starts F e ts) → Takes T Any Q S q
      → (used rest : Toks K) (x : A) → Led T goes false Q used x → S (head_kind T rest) ≡ true → implies e (not (goes (head_kind T rest))) ≡ true → either T goes p q (used ++ rest) ≡ good x rest
  takes_other goes F e Q S p q starts two used rest x l s n =
      let away : goes (head_kind T (used ++ rest)) ≡ false = elim (starts used x l.1) [
        | inl none ↦ ap (λ u. goes (head_kind T (u ++ rest))) none.0 ∙ not_true (goes (head_kind T rest)) (by_test e (not (goes (head_kind T rest))) n none.1)
        | inr b ↦ ap (λ u. goes (head_kind T (u ++ rest))) b.2 ∙ ap (λ u. goes (head_kind T u)) (sym b.2) ∙ l.0
      ] in
      goes_other T goes p q (used ++ rest) away ∙ two.all used rest x tt l.1 s

module _ {K W : Type 0} {R : Rules K} (T : Tongue K W) (N : Kinds K) (wide : Bool) (E : Languages R) (P : Parsers W R)
    (rules : (r : R.Rule) (i : R.Given r) → Takes T Any (E r i) (R.ends r) (P r i)) where
  pub takes : {I A : Type 0} (p : Phrase K W R I A) → fits T N.list p ≡ true → (i : I) → Takes T Any (language T (free_of wide) E p i) (stops p) (parser T wide P p i)
  unfolding language parser fits stops
  takes (Pure f) fit i = takes_end T (λ _. true) (f i)
  takes (Pick can limit f) fit i =
      takes_says T (f i) (takes_pick T wide can (limited T (limit i)) (not_true (can T.end) (both_left (not (can T.end)) _ fit)))
  takes (Then p q) fit i =
      let fit' = both_right (fits T N.list p) _ fit in
      let fit'' = both_right (fits T N.list q) _ fit' in
      takes_then T (takes p (both_left (fits T N.list p) _ fit) i)
      (λ a. takes_before T (stops (Then p q)) (λ h. both_left (stops q h) _) (takes q (both_left (fits T N.list q) _ fit') (i, a)))
      (λ a. joins T N (language T (free_of wide) E q (i, a)) (begins q) (may_be_empty q) (stops p) (stops (Then p q))
      (starts T N.list (free_of wide) E q (both_left (fits T N.list q) _ fit') (i, a))
      (both_right (is_some N.list (λ _. true) q) _ fit'') (λ h. both_right (stops q h) _))
  takes (Or goes p q) fit i =
      let fit' = both_right (fits T N.list p) _ fit in
      let ends = not_true (goes T.end) (both_left (not (goes T.end)) _ (both_right (fits T N.list q) _ fit')) in
      let one = takes p (both_left (fits T N.list p) _ fit) i in
      let two = takes q (both_left (fits T N.list q) _ fit') i in
      let starts_p = starts T N.list (free_of wide) E p (both_left (fits T N.list p) _ fit) i in
      let starts_q = starts T N.list (free_of wide) E q (both_left (fits T N.list q) _ fit') i in
      record {
        all = λ used rest x _ l s. elim l [
          | inl l1 ↦ takes_one T goes (begins p) (may_be_empty p) (language T (free_of wide) E p i) (stops p) (parser T wide P p i) (parser T wide P q i) ends starts_p one used rest x l1 (both_left (stops p (head_kind T rest)) _ s)
          | inr l2 ↦
              let s' = both_right (stops p (head_kind T rest)) _ s in
              takes_other T goes (begins q) (may_be_empty q) (language T (free_of wide) E q i) (stops q) (parser T wide P p i) (parser T wide P q i) starts_q two used rest x l2 (both_left (stops q (head_kind T rest)) _ s') (both_right (stops q (head_kind T rest)) _ s')
        ];
      }
  takes (Many goes start step) fit i =
      let fit' = both_right (fits T N.list step) _ fit in
      let ends = not_true (goes T.end) (both_left (not (goes T.end)) _ fit') in
      let meets = N.all (λ h. implies (goes h) (stops step h)) (both_right (not (may_be_empty step)) _ (both_right (not (goes T.end)) _ fit')) in
      takes_many T
      (λ a. record { all = λ used rest x _ l s. (takes step (both_left (fits T N.list step) _ fit) (i, a)).all used rest x tt l.1 s })
      (λ a ts x l.
      let b = led T goes (begins step) (may_be_empty step) ts ends l.0 (starts T N.list (free_of wide) E step (both_left (fits T N.list step) _ fit) (i, a) ts x l.1) in
      (b.0, b.1, b.2, b.3))
      (λ h. by_test (goes h) (stops step h) (meets h)) (start i)
  takes (Nest can limit r to f) fit i =
      takes_then T (takes_pick T wide can (limited T (limit i)) (not_true (can T.end) (both_left (not (can T.end)) _ fit)))
      (λ t. takes_says T (f i t) (rules r (to i t))) (λ t back rest y l s. refl)
  takes (With f p) fit i = takes p fit (f i)
