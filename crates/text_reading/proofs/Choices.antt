-- A token that may stand there but for a limit, and a choice by the kind of the next token.
use Rattle.std.proofs.Common.{◌≡◌, arith, Bool, true, false, not, [], ◌∷◌, ◌++◌, Option, Some, None, Err, ◌⊎◌, inl, inr, refl, sym, ap, subst, ◌∙◌}
use Rattle.text_reading.specs.declared.stop.Refusal.{Refusal}
use Rattle.text_reading.specs.Tokens.{Tok, Toks, Tongue, head_kind}
use Rattle.text_reading.specs.Parsing.{Parser, pick, either}
use Rattle.text_reading.specs.Grammar.{Lang, Waiver, Picked, none_free, all_free, free_by}
use Rattle.text_reading.proofs.Theory.{Right, Accepts, Refuses, Any, always, Begins, Joins, good, ok_fst, ok_snd, bool_cases, token_of, same_head}

abbrev no_limit : {A : Type 0} → Option A → Type 0
no_limit o = o ≡ None

option_cases : {A : Type 0} (o : Option A) → (o ≡ None) ⊎ ((a : A) × (o ≡ Some a))
option_cases None = inl refl
option_cases (Some a) = inr (a, refl)

pub no_free : {A : Type 0} (o : Option A) → ((a : A) → o ≡ Some a → ⊥) → o ≡ None
no_free None f = refl
no_free (Some a) f = absurd (f a refl)

module _ {K W : Type 0} (T : Tongue K W) where
  -- ---- one token

  module _ (can : K → Bool) (limit : Tok K → Option (Refusal W)) (ends : can T.end ≡ false) where
    pub pick_wide : (t : Tok K) (other : Toks K) → can t.kind ≡ true → pick T true can limit (t ∷ other) ≡ good t other
    unfolding pick
    pick_wide t other h = rw h refl

    pub pick_good : (t : Tok K) (other : Toks K) → can t.kind ≡ true → limit t ≡ None → pick T false can limit (t ∷ other) ≡ good t other
    unfolding pick
    pick_good t other h l = rw (h, l) refl

    pub pick_stopped : (t : Tok K) (other : Toks K) (r : Refusal W) → can t.kind ≡ true → limit t ≡ Some r → pick T false can limit (t ∷ other) ≡ Err r
    unfolding pick
    pick_stopped t other r h l = rw (h, l) refl

    pub pick_gone : (wide : Bool) (ts : Toks K) → can (head_kind T ts) ≡ false → pick T wide can limit ts ≡ Err (T.refusal ts)
    unfolding pick
    pick_gone wide ts h = rw h refl

    ended : can (head_kind T []) ≡ true → ⊥
    ended h = let f = sym ends ∙ h in (cc)

    pick_sound : (ts : Toks K) (x : Tok K) (rest : Toks K) → pick T false can limit ts ≡ good x rest → Accepts T (Picked none_free can limit) (pick T false can limit) (pick T true can limit) ts x rest
    pick_sound [] x rest e = absurd (let f = sym (pick_gone false [] ends) ∙ e in (cc))
    pick_sound (t ∷ ts) x rest e = elim (bool_cases (can t.kind)) [
      | inr gone ↦ absurd (let f = sym (pick_gone false (t ∷ ts) gone) ∙ e in (cc))
      | inl here ↦ elim (option_cases (limit t)) [
        | inr some ↦ absurd (let f = sym (pick_stopped t ts some.0 here some.1) ∙ e in (cc))
        | inl none ↦
            let f = sym (pick_good t ts here none) ∙ e in
            let is = ok_fst t x ts rest f in
            record {
              used = t ∷ [];
              parts = ap (λ u. t ∷ u) (ok_snd t x ts rest f);
              phrase = (ap (λ u. u ∷ []) is, subst (λ u. can u.kind ≡ true) is here, λ r f. absurd (let n = subst (λ u. limit u ≡ None) is none in (cc)));
              again = λ other _. pick_good t other here none ∙ ap (λ v. good v other) is;
              wide = λ other _. pick_wide t other here ∙ ap (λ v. good v other) is;
            }
      ]
    ]

    abbrev Faults : Type 0
    Faults = (t : Tok K) (ts : Toks K) (r : Refusal W) → can t.kind ≡ true → limit t ≡ Some r → T.IsFault (t ∷ ts) r

    -- a token of the kind that is free
    clean_pick : (kind : K) → can kind ≡ true → (n : Waiver W) → (more : Toks K) × (x : Tok K) × Picked (free_by n) can limit more x
    clean_pick kind some n = (token_of kind ∷ [], token_of kind, (refl, some, λ r e. inl (omega arith)))

    pick_refused : Faults → (kind : K) → can kind ≡ true → (ts : Toks K) (r : Refusal W) → pick T false can limit ts ≡ Err r
        → Refuses T (λ n. Picked (free_by n) can limit) (Picked all_free can limit) (pick T false can limit) (pick T true can limit) ts r
    pick_refused faults kind some [] r e =
        let f = sym (pick_gone false [] ends) ∙ e in
        let is : T.refusal [] ≡ r = cc in
        record {
          used = [];
          rest = [];
          parts = refl;
          clean = clean_pick kind some;
          stuck = λ t after other none. absurd (cc);
          reason = inl (record { is = sym is; stuck = λ t after other none. absurd (cc) });
        }
    pick_refused faults kind some (t ∷ ts) r e = elim (bool_cases (can t.kind)) [
      | inr gone ↦
          let f = sym (pick_gone false (t ∷ ts) gone) ∙ e in
          let is : T.refusal (t ∷ ts) ≡ r = cc in
          let same : (u : Tok K) (after : Toks K) → t ∷ ts ≡ u ∷ after → can u.kind ≡ false = λ u after heads. ap (λ us. can (head_kind T us)) (sym heads) ∙ gone in
          record {
            used = [];
            rest = t ∷ ts;
            parts = refl;
            clean = clean_pick kind some;
            stuck = λ u after other heads. (T.refusal (u ∷ other), pick_gone false (u ∷ other) (same u after heads));
            reason = inl (record { is = sym is; stuck = λ u after other heads. (T.refusal (u ∷ other), pick_gone true (u ∷ other) (same u after heads)) });
          }
      | inl here ↦ elim (option_cases (limit t)) [
        | inl none ↦ absurd (let f = sym (pick_good t ts here none) ∙ e in (cc))
        | inr stop ↦
            let f = sym (pick_stopped t ts stop.0 here stop.1) ∙ e in
            let is : stop.0 ≡ r = cc in
            let first : (u : Tok K) (after : Toks K) → t ∷ ts ≡ u ∷ after → t ≡ u = λ u after heads. cc in
            record {
              used = [];
              rest = t ∷ ts;
              parts = refl;
              clean = clean_pick kind some;
              stuck = λ u after other heads. (stop.0, subst (λ v. pick T false can limit (v ∷ other) ≡ Err stop.0) (first u after heads) (pick_stopped t other stop.0 here stop.1));
              reason = inr (record { is = subst (λ s. T.IsFault (t ∷ ts) s) is (faults t ts stop.0 here stop.1); token = t; after = ts; begins = refl; more = []; value = t; goes-on = (refl, here, λ s f. inr (let q = stop.1 in (cc))) });
            }
      ]
    ]

    -- a token that passes no limit; some token is of such a kind, and each limit is a fault
    pub right_pick : Faults → (kind : K) → can kind ≡ true
        → Right T Any (Picked none_free can limit) (λ n. Picked (free_by n) can limit) (Picked all_free can limit) always (pick T false can limit) (pick T true can limit)
    right_pick faults kind some = record {
      sound = λ ts x rest _ e. pick_sound ts x rest e;
      narrow = record { all = λ used rest x _ l _. ap (λ u. pick T false can limit (u ++ rest)) l.0 ∙ pick_good x rest l.1 (no_free (limit x) l.2) };
      wide = record { all = λ used rest x _ l _. ap (λ u. pick T true can limit (u ++ rest)) l.0 ∙ pick_wide x rest l.1 };
      refused = λ ts r _ e. pick_refused faults kind some ts r e;
      within = λ ts x l. (l.0, l.1, λ r e. tt);
      keeps = λ n ts x l. (l.0, l.1, λ r e. absurd (l.2 r e));
    }

  -- ---- the one or the other

  pub goes_one : {A : Type 0} (goes : K → Bool) (p q : Parser K W A) (ts : Toks K) → goes (head_kind T ts) ≡ true → either T goes p q ts ≡ p ts
  unfolding either
  goes_one goes p q ts h = rw h refl

  pub goes_other : {A : Type 0} (goes : K → Bool) (p q : Parser K W A) (ts : Toks K) → goes (head_kind T ts) ≡ false → either T goes p q ts ≡ q ts
  unfolding either
  goes_other goes p q ts h = rw h refl

  abbrev pub gone : (K → Bool) → K → Bool
  gone goes h = not (goes h)

  module _ {A : Type 0} {goes : K → Bool} {P PV Q QV : Lang K A} {PC QC : Waiver W → Lang K A} {S : K → Bool} {p pV q qV : Parser K W A}
      (rp : Right T (λ h. goes h ≡ true) P PC PV S p pV) (rq : Right T (λ h. goes h ≡ false) Q QC QV S q qV)
      (begins : Begins PV (λ h. goes h ≡ true)) (joins : Joins T QV S (gone goes)) where
    -- what goes on with the same first token chooses the same
    head_goes : (ts used rest : Toks K) → ts ≡ used ++ rest → (b : Bool) → goes (head_kind T ts) ≡ b → (t : Tok K) (after other : Toks K) → rest ≡ t ∷ after → goes (head_kind T (used ++ t ∷ other)) ≡ b
    head_goes ts used rest parts b here t after other is =
        ap goes (sym (same_head T used t after other) ∙ ap (λ u. head_kind T (used ++ u)) (sym is) ∙ ap (head_kind T) (sym parts)) ∙ here
