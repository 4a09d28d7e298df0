-- Parsers that read exactly the phrases of a grammar, and refuse at the first token that can't follow.
use Rattle.std.proofs.Common.{◌≡◌, Bool, true, false, [], ◌∷◌, ◌++◌, Ok, Err, ◌⊎◌, inl, inr, refl, sym, ap, subst, ◌∙◌, append_assoc}
use Rattle.text_reading.specs.declared.stop.Refusal.{Refusal}
use Rattle.text_reading.specs.Tokens.{Tok, Toks, Tongue, head_kind}
use Rattle.text_reading.specs.Parsing.{Outcome, Parser, ◌>>=◌, ◌<$>◌, and_then, pure}
use Rattle.text_reading.specs.Grammar.{Lang, Waiver, waived, Empty, Then, Says}

abbrev pub Any : {K : Type 0} → K → Type 0
Any _ = Unit {0}

abbrev pub always : {K : Type 0} → K → Bool
always _ = true

-- the outcome of a step, by cases
abbrev pub good : {K W A : Type 0} → A → Toks K → Outcome K W A
good x ts = Ok (x, ts)

abbrev pub Productive : {K A : Type 0} → Lang K A → Type 0
Productive {K} {A} L = (ts : Toks K) × (x : A) × L ts x

-- and the first is of such a kind
abbrev pub Begins : {K A : Type 0} → Lang K A → (K → Type 0) → Type 0
Begins {K} {A} L G = (ts : Toks K) (x : A) → L ts x → (t : Tok K) × (us : Toks K) × (ts ≡ t ∷ us) × G t.kind

-- ---- outcomes

abbrev pair_of : {K A : Type 0} → A → Toks K → A × Toks K
pair_of x ts = (x, ts)

pub ok_fst : {K W A : Type 0} (x y : A) (a b : Toks K) → good {K = K} {W = W} x a ≡ good y b → x ≡ y
ok_fst {K} {W} {A} x y a b e = let pair : pair_of x a ≡ pair_of y b = cc in ap (λ (p : A × Toks K). p.0) pair

pub ok_snd : {K W A : Type 0} (x y : A) (a b : Toks K) → good {K = K} {W = W} x a ≡ good y b → a ≡ b
ok_snd {K} {W} {A} x y a b e = let pair : pair_of x a ≡ pair_of y b = cc in ap (λ (p : A × Toks K). p.1) pair

pub bind_ok : {K W A B : Type 0} (o : Outcome K W A) (f : A → Parser K W B) (y : B) (rest : Toks K) → and_then o f ≡ good y rest → (x : A) × (mid : Toks K) × (o ≡ good x mid) × (f x mid ≡ good y rest)
bind_ok (Ok p) f y rest e = (p.0, p.1, refl, e)
bind_ok (Err d) f y rest e = absurd cc

pub bind_err : {K W A B : Type 0} (o : Outcome K W A) (f : A → Parser K W B) (r : Refusal W) → and_then o f ≡ Err r → (o ≡ Err r) ⊎ ((x : A) × (mid : Toks K) × (o ≡ good x mid) × (f x mid ≡ Err r))
bind_err (Ok p) f r e = inr (p.0, p.1, refl, e)
bind_err (Err d) f r e = inl cc

pub bool_cases : (b : Bool) → (b ≡ true) ⊎ (b ≡ false)
bool_cases true = inl refl
bool_cases false = inr refl

abbrev pub token_of : {K : Type 0} → K → Tok K
token_of kind = record { kind = kind; text = []; left = 0 }

-- ---- first tokens

module _ {K W : Type 0} (T : Tongue K W) where
  -- ---- what a parser does

  -- No phrase goes on with the token.
  pub record Plain {A : Type 0} (pV : Parser K W A) (used rest : Toks K) (r : Refusal W) : Type 0 where
    pub is : r ≡ T.refusal rest
    pub stuck : (t : Tok K) (after other : Toks K) → rest ≡ t ∷ after → (s : Refusal W) × (pV (used ++ t ∷ other) ≡ Err s)

  -- Only this refusal keeps the token from standing there.
  pub record Limit {A : Type 0} (V : Lang K A) (used rest : Toks K) (r : Refusal W) : Type 0 where
    pub is : T.IsFault rest r
    pub token : Tok K
    pub after : Toks K
    pub begins : rest ≡ token ∷ after
    pub more : Toks K
    pub value : A
    pub goes-on : V (used ++ token ∷ more) value

  -- What was read before the refused token begins a phrase of each C. With that token, whatever follows, p refuses it.
  pub record Refuses {A : Type 0} (C : Waiver W → Lang K A) (V : Lang K A) (p pV : Parser K W A) (ts : Toks K) (r : Refusal W)
      : Type 0 where
    pub used : Toks K
    pub rest : Toks K
    pub parts : ts ≡ used ++ rest
    pub clean : (n : Waiver W) → (more : Toks K) × (x : A) × C n (used ++ more) x
    pub stuck : (t : Tok K) (after other : Toks K) → rest ≡ t ∷ after → (s : Refusal W) × (p (used ++ t ∷ other) ≡ Err s)
    pub reason : Plain pV used rest r ⊎ Limit (C (waived rest r)) used rest r

  -- What was taken is a phrase, and what comes behind the next kind doesn't matter.
  pub record Accepts {A : Type 0} (L : Lang K A) (p pV : Parser K W A) (ts : Toks K) (x : A) (rest : Toks K) : Type 0 where
    pub used : Toks K
    pub parts : ts ≡ used ++ rest
    pub phrase : L used x
    pub again : (other : Toks K) → head_kind T other ≡ head_kind T rest → p (used ++ other) ≡ Ok (x, other)
    pub wide : (other : Toks K) → head_kind T other ≡ head_kind T rest → pV (used ++ other) ≡ Ok (x, other)

  -- The parser takes each phrase that stands before a kind at which it stops.
  pub record Takes {A : Type 0} (ok : K → Type 0) (L : Lang K A) (S : K → Bool) (p : Parser K W A) : Type 0 where
    pub all : (used rest : Toks K) (x : A) → ok (head_kind T (used ++ rest)) → L used x → S (head_kind T rest) ≡ true → p (used ++ rest) ≡ Ok (x, rest)

  -- On inputs that begin with a kind that is ok, p takes exactly the phrases of L that stand before a kind at which it stops.
  -- V and pV are the grammar and the parser without the limits. Each C has the phrases of L, and those on which it can go on.
  pub record Right {A : Type 0} (ok : K → Type 0) (L : Lang K A) (C : Waiver W → Lang K A) (V : Lang K A) (S : K → Bool)
      (p pV : Parser K W A) : Type 0 where
    pub sound : (ts : Toks K) (x : A) (rest : Toks K) → ok (head_kind T ts) → p ts ≡ Ok (x, rest) → Accepts L p pV ts x rest
    pub narrow : Takes ok L S p
    pub wide : Takes ok V S pV
    pub refused : (ts : Toks K) (r : Refusal W) → ok (head_kind T ts) → p ts ≡ Err r → Refuses C V p pV ts r
    pub within : (ts : Toks K) (x : A) → L ts x → V ts x
    pub keeps : (n : Waiver W) (ts : Toks K) (x : A) → L ts x → C n ts x

  -- Before a phrase that stands before a kind of S', the kind is of S.
  abbrev pub Joins : {A : Type 0} → Lang K A → (K → Bool) → (K → Bool) → Type 0
  Joins {A} L S' S = (back rest : Toks K) (y : A) → L back y → S' (head_kind T rest) ≡ true → S (head_kind T (back ++ rest)) ≡ true

  -- ---- outcomes

  -- the first token doesn't depend on what comes later
  pub same_head : (used : Toks K) (t : Tok K) (a b : Toks K) → head_kind T (used ++ t ∷ a) ≡ head_kind T (used ++ t ∷ b)
  same_head [] t a b = refl
  same_head (u ∷ us) t a b = refl

  -- ---- no tokens, before a kind at which the parser before has stopped

  pub takes_end : {A : Type 0} (S : K → Bool) (a : A) → Takes Any (Empty a) S (pure a)
  takes_end S a = record { all = λ used rest x _ l _. ap (λ u. good a (u ++ rest)) l.0 ∙ ap (λ v. good v rest) (sym l.1) }

  pub right_end : {A : Type 0} (S : K → Bool) (a : A) → Right Any (Empty a) (λ n. Empty a) (Empty a) S (pure a) (pure a)
  right_end S a = record {
    sound = λ ts x rest h e.
        let is = ok_fst a x ts rest e in
        record { used = []; parts = ok_snd a x ts rest e; phrase = (refl, sym is); again = λ other _. ap (λ v. good v other) is; wide = λ other _. ap (λ v. good v other) is };
    narrow = takes_end S a;
    wide = takes_end S a;
    refused = λ ts r _ e. absurd cc;
    within = λ ts x l. l;
    keeps = λ n ts x l. l;
  }

  -- ---- one after the other

  pub takes_then : {A B : Type 0} {ok : K → Type 0} {P : Lang K A} {Q : A → Lang K B} {S S' : K → Bool} {p : Parser K W A} {q : A → Parser K W B}
      → Takes ok P S p → ((x : A) → Takes Any (Q x) S' (q x)) → ((x : A) → Joins (Q x) S' S) → Takes ok (Then P Q) S' (p >>= q)
  takes_then {ok = ok} {p = p} {q = q} tp tq joins = record {
    all = λ used rest y h l s.
        let front = l.0 in
        let back = l.1 in
        let regroup : used ++ rest ≡ front ++ (back ++ rest) = ap (λ u. u ++ rest) l.3 ∙ append_assoc front back rest in
        let stops = joins l.2 back rest y l.5 s in
        let one : p (used ++ rest) ≡ good l.2 (back ++ rest) = ap p regroup ∙ tp.all front (back ++ rest) l.2 (subst (λ u. ok (head_kind T u)) regroup h) l.4 stops in
        ap (λ o. and_then o q) one ∙ (tq l.2).all back rest y tt l.5 s;
  }

  pub same_heads : (two a b : Toks K) → head_kind T a ≡ head_kind T b → head_kind T (two ++ a) ≡ head_kind T (two ++ b)
  same_heads [] a b h = h
  same_heads (t ∷ ts) a b h = refl

  -- the parser takes the same, whatever comes behind the first kind of the rest
  abbrev pub Again : {A : Type 0} → Parser K W A → Toks K → Toks K → A → Type 0
  Again p used rest x = (other : Toks K) → head_kind T other ≡ head_kind T rest → p (used ++ other) ≡ good x other

  pub ran_again : {A : Type 0} (p : Parser K W A) (mid one two rest : Toks K) (x : A) → Again p one mid x → mid ≡ two ++ rest → (other : Toks K) → head_kind T other ≡ head_kind T rest → p ((one ++ two) ++ other) ≡ good x (two ++ other)
  ran_again p mid one two rest x again parts other h =
      ap p (append_assoc one two other) ∙ again (two ++ other) (same_heads two other rest h ∙ ap (head_kind T) (sym parts))

  pub limit_first : {A B : Type 0} {P : Lang K A} {Q : A → Lang K B} {used rest : Toks K} {r : Refusal W} → ((x : A) → Productive (Q x)) → Limit P used rest r → Limit (Then P Q) used rest r
  limit_first {used = used} goes l =
      let g = goes l.value in
      record {
        is = l.is;
        token = l.token;
        after = l.after;
        begins = l.begins;
        more = l.more ++ g.0;
        value = g.1;
        goes-on = (used ++ l.token ∷ l.more, g.0, l.value, sym (append_assoc used (l.token ∷ l.more) g.0), l.goes-on, g.2);
      }

  pub limit_later : {A B : Type 0} {P : Lang K A} {Q : A → Lang K B} {rest : Toks K} {r : Refusal W} (one two : Toks K) (x : A) → P one x → Limit (Q x) two rest r → Limit (Then P Q) (one ++ two) rest r
  limit_later one two x phrase l = record {
    is = l.is;
    token = l.token;
    after = l.after;
    begins = l.begins;
    more = l.more;
    value = l.value;
    goes-on = (one, two ++ l.token ∷ l.more, x, append_assoc one two (l.token ∷ l.more), phrase, l.goes-on);
  }

  module _ {A B : Type 0} {ok : K → Type 0} {P PV : Lang K A} {PC : Waiver W → Lang K A} {Q QV : A → Lang K B} {QC : Waiver W → A → Lang K B} {S S' : K → Bool}
      {p pV : Parser K W A} {q qV : A → Parser K W B} (rp : Right ok P PC PV S p pV)
      (rq : (x : A) → Right Any (Q x) (λ n. QC n x) (QV x) S' (q x) (qV x))
      (goes : (n : Waiver W) (x : A) → Productive (QC n x))
      (joins : (x : A) → Joins (QV x) S' S) where
    then_sound : (ts : Toks K) (y : B) (rest : Toks K) → ok (head_kind T ts) → (p >>= q) ts ≡ good y rest → Accepts (Then P Q) (p >>= q) (pV >>= qV) ts y rest
    then_sound ts y rest h e =
        let b = bind_ok (p ts) q y rest e in
        let one = rp.sound ts b.0 b.1 h b.2 in
        let two = (rq b.0).sound b.1 y rest tt b.3 in
        record {
          used = one.used ++ two.used;
          parts = one.parts ∙ ap (λ u. one.used ++ u) two.parts ∙ sym (append_assoc one.used two.used rest);
          phrase = (one.used, two.used, b.0, refl, one.phrase, two.phrase);
          again = λ other h. ap (λ o. and_then o q) (ran_again p b.1 one.used two.used rest b.0 one.again two.parts other h) ∙ two.again other h;
          wide = λ other h. ap (λ o. and_then o qV) (ran_again pV b.1 one.used two.used rest b.0 one.wide two.parts other h) ∙ two.wide other h;
        }

    plain_first : {used rest : Toks K} {r : Refusal W} → Plain pV used rest r → Plain (pV >>= qV) used rest r
    plain_first l = record { is = l.is; stuck = λ t after other is. let s = l.stuck t after other is in (s.0, ap (λ o. and_then o qV) s.1) }

    then_refused : (ts : Toks K) (r : Refusal W) → ok (head_kind T ts) → (p >>= q) ts ≡ Err r → Refuses (λ n. Then (PC n) (QC n)) (Then PV QV) (p >>= q) (pV >>= qV) ts r
    then_refused ts r h e =
        elim (bind_err (p ts) q r e) [
          | inl first ↦
              let one = rp.refused ts r h first in
              record {
                used = one.used;
                rest = one.rest;
                parts = one.parts;
                clean = λ n.
                    let c = one.clean n in
                    let g = goes n c.1 in
                    (c.0 ++ g.0, g.1, (one.used ++ c.0, g.0, c.1, sym (append_assoc one.used c.0 g.0), c.2, g.2));
                stuck = λ t after other is. let s = one.stuck t after other is in (s.0, ap (λ o. and_then o q) s.1);
                reason = elim one.reason [ inl l ↦ inl (plain_first l) | inr l ↦ inr (limit_first (goes (waived one.rest r)) l) ];
              }
          | inr b ↦
              let one = rp.sound ts b.0 b.1 h b.2 in
              let two = (rq b.0).refused b.1 r tt b.3 in
              record {
                used = one.used ++ two.used;
                rest = two.rest;
                parts = one.parts ∙ ap (λ u. one.used ++ u) two.parts ∙ sym (append_assoc one.used two.used two.rest);
                clean = λ n.
                    let c = two.clean n in
                    let kept = rp.keeps n one.used b.0 one.phrase in
                    (c.0, c.1, (one.used, two.used ++ c.0, b.0, append_assoc one.used two.used c.0, kept, c.2));
                stuck = λ t after other is.
                    let s = two.stuck t after other is in
                    let ran = ran_again p b.1 one.used two.used two.rest b.0 one.again two.parts (t ∷ other) (ap (head_kind T) (sym is)) in
                    (s.0, ap (λ o. and_then o q) ran ∙ s.1);
                reason = elim two.reason [
                  | inl l ↦ inl (record {
                    is = l.is;
                    stuck = λ t after other is.
                        let s = l.stuck t after other is in
                        let ran = ran_again pV b.1 one.used two.used two.rest b.0 one.wide two.parts (t ∷ other) (ap (head_kind T) (sym is)) in
                        (s.0, ap (λ o. and_then o qV) ran ∙ s.1);
                  })
                  | inr l ↦ inr (limit_later one.used two.used b.0 (rp.keeps (waived two.rest r) one.used b.0 one.phrase) l)
                ];
              }
        ]

    pub right_then : Right ok (Then P Q) (λ n. Then (PC n) (QC n)) (Then PV QV) S' (p >>= q) (pV >>= qV)
    right_then = record {
      sound = then_sound;
      narrow = takes_then rp.narrow (λ x. (rq x).narrow) (λ x back rest y l s. joins x back rest y ((rq x).within back y l) s);
      wide = takes_then rp.wide (λ x. (rq x).wide) joins;
      refused = then_refused;
      within = λ ts y l. (l.0, l.1, l.2, l.3, rp.within l.0 l.2 l.4, (rq l.2).within l.1 y l.5);
      keeps = λ n ts y l. (l.0, l.1, l.2, l.3, rp.keeps n l.0 l.2 l.4, (rq l.2).keeps n l.1 y l.5);
    }

  pub joins_empty : {A : Type 0} (a : A) (S : K → Bool) → Joins (Empty a) S S
  joins_empty a S back rest y l s = ap (λ u. S (head_kind T (u ++ rest))) l.0 ∙ s

  -- f of what a parser answers
  pub right_says : {A B : Type 0} {ok : K → Type 0} {P PV : Lang K A} {PC : Waiver W → Lang K A} {S : K → Bool} {p pV : Parser K W A} (f : A → B)
      → Right ok P PC PV S p pV → Right ok (Says f P) (λ n. Says f (PC n)) (Says f PV) S (f <$> p) (f <$> pV)
  right_says {S = S} f rp =
      right_then rp (λ x. right_end S (f x)) (λ n x. ([], f x, (refl, refl))) (λ x. joins_empty (f x) S)
  -- ---- one token
  -- ---- by the kind of the first token
  -- ---- the same parser for fewer inputs
  -- ---- first tokens
