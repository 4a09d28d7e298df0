-- Any number of steps, each of which begins with a token that goes on.
use Rattle.std.proofs.Common.{◌≡◌, ℕ, zero, suc, ◌≤◌, ◌<◌, Bool, true, false, not, ◌&&◌, [], ◌∷◌, ◌++◌, length, length-append, Err, ◌⊎◌, inl, inr, refl, sym, ap, subst, ◌∙◌, append_assoc, append-nil, arith}
use Rattle.text_reading.specs.declared.stop.Refusal.{Refusal}
use Rattle.text_reading.specs.declared.stop.Stop.{Stop}
use Rattle.text_reading.specs.declared.stop.Stop.TheVariants.{Memory, Refused}
use Rattle.text_reading.specs.Tokens.{Tok, Toks, Tongue, head_kind}
use Rattle.text_reading.specs.Parsing.{Outcome, Parser, ◌>>=◌, and_then, loop, many, Fails}
use Rattle.text_reading.specs.Grammar.{Lang, Waiver, waived, Many, Done, Next}
use Rattle.text_reading.proofs.Theory.{Right, Takes, Limit, Begins, good, ok_fst, ok_snd, bind_ok, bind_err, bool_cases, same_head, ran_again, Again, Any}

pub nothing_left : {K : Type 0} (ts : Toks K) → length ts ≤ 0 → ts ≡ []
nothing_left [] h = refl
nothing_left (t ∷ ts) h = absurd (omega arith)

-- the kinds before which a loop ends
abbrev pub stop : {K : Type 0} → (K → Bool) → (K → Bool) → K → Bool
stop goes S h = not (goes h) && S h

pub stop_false : {K : Type 0} (goes S : K → Bool) (h : K) → stop goes S h ≡ true → goes h ≡ false
stop_false goes S h e = elim (bool_cases (goes h)) [ inl here ↦ absurd (let f = rw here at e in (cc)) | inr gone ↦ gone ]

pub stop_S : {K : Type 0} (goes S : K → Bool) (h : K) → stop goes S h ≡ true → S h ≡ true
stop_S goes S h e = elim (bool_cases (goes h)) [ inl here ↦ absurd (let f = rw here at e in (cc)) | inr gone ↦ rw gone at e ]

module _ {K W : Type 0} (T : Tongue K W) where
  pub loop_goes : {A : Type 0} (goes : K → Bool) (step : A → Parser K W A) (n : ℕ) (a : A) (ts : Toks K) → goes (head_kind T ts) ≡ true → loop T goes step (suc n) a ts ≡ (step a >>= loop T goes step n) ts
  unfolding loop
  loop_goes goes step n a ts h = rw h refl

  pub loop_stops : {A : Type 0} (goes : K → Bool) (step : A → Parser K W A) (n : ℕ) (a : A) (ts : Toks K) → goes (head_kind T ts) ≡ false → loop T goes step n a ts ≡ good a ts
  unfolding loop
  loop_stops goes step zero a ts h = refl
  loop_stops goes step (suc n) a ts h = rw h refl

  -- ---- what a loop takes

  module _ {A : Type 0} {goes : K → Bool} {Step : A → Lang K A} {S : K → Bool} {step : A → Parser K W A}
      (each : (a : A) → Takes T (λ h. goes h ≡ true) (Step a) S (step a)) (begins : (a : A) → Begins (Step a) (λ h. goes h ≡ true)) (meets : (h : K) → goes h ≡ true → S h ≡ true) where
    pub many_head : {b c : A} {us : Toks K} → Many Step b us c → (rest : Toks K) → stop goes S (head_kind T rest) ≡ true → S (head_kind T (us ++ rest)) ≡ true
    many_head Done rest s = stop_S goes S (head_kind T rest) s
    many_head (Next {a = a} {b = b} {ts = ts} {us = us} one two) rest s =
        let g = begins a ts b one in
        ap (λ u. S (head_kind T ((u ++ us) ++ rest))) g.2 ∙ meets g.0.kind g.3

    loop_takes : {a x : A} {used : Toks K} → Many Step a used x → (n : ℕ) (rest : Toks K) → length (used ++ rest) ≤ n → stop goes S (head_kind T rest) ≡ true → loop T goes step n a (used ++ rest) ≡ good x rest
    loop_takes {a} Done n rest le s = loop_stops goes step n a rest (stop_false goes S (head_kind T rest) s)
    loop_takes (Next {a = a} {b = b} {c = c} {ts = ts} {us = us} one two) n rest le s = loop_next a b c ts us n rest one le s (begins a ts b one) (many_head two rest s) (loop_takes two)
      where
        loop_next : (a b c : A) (ts us : Toks K) (n : ℕ) (rest : Toks K) → Step a ts b → length ((ts ++ us) ++ rest) ≤ n → stop goes S (head_kind T rest) ≡ true
            → ((t : Tok K) × (vs : Toks K) × (ts ≡ t ∷ vs) × (goes t.kind ≡ true)) → S (head_kind T (us ++ rest)) ≡ true
            → ((m : ℕ) (r : Toks K) → length (us ++ r) ≤ m → stop goes S (head_kind T r) ≡ true → loop T goes step m b (us ++ r) ≡ good c r)
            → loop T goes step n a ((ts ++ us) ++ rest) ≡ good c rest
        loop_next a b c ts us zero rest one le s g heads later = absurd (omega (arith, length-append (ts ++ us) rest, length-append ts us, ap length g.2))
        loop_next a b c ts us (suc n) rest one le s g heads later =
            let regroup = append_assoc ts us rest in
            let here : goes (head_kind T (ts ++ (us ++ rest))) ≡ true = ap (λ u. goes (head_kind T (u ++ (us ++ rest)))) g.2 ∙ g.3 in
            let one-step : step a (ts ++ (us ++ rest)) ≡ good b (us ++ rest) = (each a).all ts (us ++ rest) b here one heads in
            let fits : length (us ++ rest) ≤ n = omega (arith, ap length regroup, length-append ts (us ++ rest), ap length g.2) in
            ap (loop T goes step (suc n) a) regroup ∙ loop_goes goes step n a (ts ++ (us ++ rest)) here ∙ ap (λ o. and_then o (loop T goes step n)) one-step ∙ later n rest fits s

    pub takes_many : (a : A) → Takes T Any (Many Step a) (stop goes S) (many T goes step a)
    takes_many a = record { all = λ used rest x h l s. loop_takes l (length (used ++ rest)) rest (omega arith) s }

  -- Behind the refused token's first step a loop is refused, with any number of turns that is enough.
  pub first_stuck : {A : Type 0} (goes : K → Bool) (step : A → Parser K W A) (a : A) (ts : Toks K) → goes (head_kind T ts) ≡ true → (used rest : Toks K) → ts ≡ used ++ rest → (t : Tok K) (after other : Toks K) → rest ≡ t ∷ after
      → ((s : Refusal W) × (step a (used ++ t ∷ other) ≡ Err s)) → (m : ℕ) → length (used ++ t ∷ other) ≤ m → (s : Refusal W) × (loop T goes step m a (used ++ t ∷ other) ≡ Err s)
  first_stuck goes step a ts here used rest parts t after other is f zero le = absurd (omega (arith, length-append used (t ∷ other)))
  first_stuck goes step a ts here used rest parts t after other is f (suc m) le =
      let heads : head_kind T ts ≡ head_kind T (used ++ t ∷ other) = ap (head_kind T) (parts ∙ ap (λ u. used ++ u) is) ∙ same_head T used t after other in
      (f.0, loop_goes goes step m a (used ++ t ∷ other) (ap goes (sym heads) ∙ here) ∙ ap (λ o. and_then o (loop T goes step m)) f.1)

  pub later_stuck : {A : Type 0} (goes : K → Bool) (step : A → Parser K W A) (a b : A) (ts mid one two rest : Toks K) → Again T (step a) one mid b → goes (head_kind T ts) ≡ true
      → ts ≡ one ++ mid → mid ≡ two ++ rest → (t : Tok K) (after other : Toks K) → rest ≡ t ∷ after → ((g : Tok K) × (vs : Toks K) × (one ≡ g ∷ vs))
      → ((m : ℕ) → length (two ++ t ∷ other) ≤ m → (s : Refusal W) × (loop T goes step m b (two ++ t ∷ other) ≡ Err s))
      → (m : ℕ) → length ((one ++ two) ++ t ∷ other) ≤ m → (s : Refusal W) × (loop T goes step m a ((one ++ two) ++ t ∷ other) ≡ Err s)
  later_stuck goes step a b ts mid one two rest again here parts parts' t after other is some f zero le = absurd (omega (arith, length-append (one ++ two) (t ∷ other)))
  later_stuck goes step a b ts mid one two rest again here parts parts' t after other is some f (suc m) le =
      let whole : ts ≡ (one ++ two) ++ t ∷ after = parts ∙ ap (λ u. one ++ u) (parts' ∙ ap (λ u. two ++ u) is) ∙ sym (append_assoc one two (t ∷ after)) in
      let go : goes (head_kind T ((one ++ two) ++ t ∷ other)) ≡ true = subst (λ h. goes h ≡ true) (ap (head_kind T) whole ∙ same_head T (one ++ two) t after other) here in
      let ran = ran_again T (step a) mid one two rest b again parts' (t ∷ other) (ap (head_kind T) (sym is)) in
      let fits : length (two ++ t ∷ other) ≤ m = omega (arith, length-append (one ++ two) (t ∷ other), length-append one two, length-append two (t ∷ other), ap length some.2) in
      let s = f m fits in
      (s.0, loop_goes goes step m a ((one ++ two) ++ t ∷ other) go ∙ ap (λ o. and_then o (loop T goes step m)) ran ∙ s.1)

  -- a turn that is taken again, and the turns behind it
  pub later_again : {A : Type 0} (goes : K → Bool) (step : A → Parser K W A) (a b x : A) (one two mid rest : Toks K) → Again T (step a) one mid b → mid ≡ two ++ rest → ((g : Tok K) × (vs : Toks K) × (one ≡ g ∷ vs) × (goes g.kind ≡ true))
      → (other : Toks K) → head_kind T other ≡ head_kind T rest → ((m : ℕ) → length (two ++ other) ≤ m → loop T goes step m b (two ++ other) ≡ good x other)
      → (m : ℕ) → length ((one ++ two) ++ other) ≤ m → loop T goes step m a ((one ++ two) ++ other) ≡ good x other
  later_again goes step a b x one two mid rest again parts some other h later zero le = absurd (omega (arith, length-append (one ++ two) other, length-append one two, ap length some.2))
  later_again goes step a b x one two mid rest again parts some other h later (suc m) le =
      let go : goes (head_kind T ((one ++ two) ++ other)) ≡ true = ap (λ u. goes (head_kind T ((u ++ two) ++ other))) some.2 ∙ some.3 in
      let ran = ran_again T (step a) mid one two rest b again parts other h in
      let fits : length (two ++ other) ≤ m = omega (arith, length-append (one ++ two) other, length-append one two, length-append two other, ap length some.2) in
      loop_goes goes step m a ((one ++ two) ++ other) go ∙ ap (λ o. and_then o (loop T goes step m)) ran ∙ later m fits

  -- ---- a loop is right

  module _ {A : Type 0} {goes : K → Bool} {Step StepV : A → Lang K A} {StepC : Waiver W → A → Lang K A} {S : K → Bool} {step stepV : A → Parser K W A}
      (each : (a : A) → Right T (λ h. goes h ≡ true) (Step a) (λ n. StepC n a) (StepV a) S (step a) (stepV a))
      (begins : (a : A) → Begins (StepV a) (λ h. goes h ≡ true)) (ends : goes T.end ≡ false) (meets : (h : K) → goes h ≡ true → S h ≡ true) where
    begins_narrow : (a : A) → Begins (Step a) (λ h. goes h ≡ true)
    begins_narrow a ts x l = begins a ts x ((each a).within ts x l)

    -- a step takes a token
    shorter : (a b : A) (ts used mid : Toks K) (n : ℕ) → ts ≡ used ++ mid → Step a used b → length ts ≤ suc n → length mid ≤ n
    shorter a b ts used mid n parts l le =
        let g = begins_narrow a used b l in
        omega (arith, ap length parts, length-append used mid, ap length g.2)

    record LoopAccepts (a : A) (ts : Toks K) (x : A) (rest : Toks K) : Type 0 where
      used : Toks K
      parts : ts ≡ used ++ rest
      phrase : Many Step a used x
      again : (other : Toks K) → head_kind T other ≡ head_kind T rest → (m : ℕ) → length (used ++ other) ≤ m → loop T goes step m a (used ++ other) ≡ good x other
      wide : (other : Toks K) → head_kind T other ≡ head_kind T rest → (m : ℕ) → length (used ++ other) ≤ m → loop T goes stepV m a (used ++ other) ≡ good x other

    stays : (a x : A) (ts rest : Toks K) → goes (head_kind T ts) ≡ false → good {W = W} a ts ≡ good x rest → LoopAccepts a ts x rest
    stays a x ts rest g e =
        let is = ok_fst a x ts rest e in
        let gone : (other : Toks K) → head_kind T other ≡ head_kind T rest → goes (head_kind T other) ≡ false = λ other h. ap goes (h ∙ ap (head_kind T) (sym (ok_snd a x ts rest e))) ∙ g in
        record {
          used = [];
          parts = ok_snd a x ts rest e;
          phrase = subst (λ v. Many Step a [] v) is Done;
          again = λ other h m _. loop_stops goes step m a other (gone other h) ∙ ap (λ v. good v other) is;
          wide = λ other h m _. loop_stops goes stepV m a other (gone other h) ∙ ap (λ v. good v other) is;
        }

    loop_sound : (n : ℕ) (a x : A) (ts rest : Toks K) → length ts ≤ n → loop T goes step n a ts ≡ good x rest → LoopAccepts a ts x rest
    loop_sound zero a x ts rest le e =
        let gone : goes (head_kind T ts) ≡ false = ap (λ u. goes (head_kind T u)) (nothing_left ts le) ∙ ends in
        stays a x ts rest gone (sym (loop_stops goes step zero a ts gone) ∙ e)
    loop_sound (suc n) a x ts rest le e =
        elim (bool_cases (goes (head_kind T ts))) [
          | inr gone ↦ stays a x ts rest gone (sym (loop_stops goes step (suc n) a ts gone) ∙ e)
          | inl here ↦
              let b = bind_ok (step a ts) (loop T goes step n) x rest (sym (loop_goes goes step n a ts here) ∙ e) in
              let one = (each a).sound ts b.0 b.1 here b.2 in
              let two = loop_sound n b.0 x b.1 rest (shorter a b.0 ts one.used b.1 n one.parts one.phrase le) b.3 in
              let g = begins_narrow a one.used b.0 one.phrase in
              record {
                used = one.used ++ two.used;
                parts = one.parts ∙ ap (λ u. one.used ++ u) two.parts ∙ sym (append_assoc one.used two.used rest);
                phrase = Next one.phrase two.phrase;
                again = λ other h. later_again goes step a b.0 x one.used two.used b.1 rest one.again two.parts g other h (two.again other h);
                wide = λ other h. later_again goes stepV a b.0 x one.used two.used b.1 rest one.wide two.parts g other h (two.wide other h);
              }
        ]

    record LoopPlain (a : A) (used rest : Toks K) (r : Refusal W) : Type 0 where
      is : r ≡ T.refusal rest
      stuck : (t : Tok K) (after other : Toks K) → rest ≡ t ∷ after → (m : ℕ) → length (used ++ t ∷ other) ≤ m → (s : Refusal W) × (loop T goes stepV m a (used ++ t ∷ other) ≡ Err s)

    record LoopRefuses (a : A) (ts : Toks K) (r : Refusal W) : Type 0 where
      used : Toks K
      rest : Toks K
      parts : ts ≡ used ++ rest
      clean : (n : Waiver W) → (more : Toks K) × (x : A) × Many (StepC n) a (used ++ more) x
      stuck : (t : Tok K) (after other : Toks K) → rest ≡ t ∷ after → (m : ℕ) → length (used ++ t ∷ other) ≤ m → (s : Refusal W) × (loop T goes step m a (used ++ t ∷ other) ≡ Err s)
      reason : LoopPlain a used rest r ⊎ Limit T (Many (StepC (waived rest r)) a) used rest r

    limit_step : (n : Waiver W) (a : A) (used rest : Toks K) (r : Refusal W) → Limit T (StepC n a) used rest r
        → Limit T (Many (StepC n) a) used rest r
    limit_step n a used rest r l = record {
      is = l.is;
      token = l.token;
      after = l.after;
      begins = l.begins;
      more = l.more;
      value = l.value;
      goes-on = subst (λ u. Many (StepC n) a u l.value) (append-nil (used ++ l.token ∷ l.more)) (Next l.goes-on Done);
    }

    limit_next : (n : Waiver W) (a b : A) (one two rest : Toks K) (r : Refusal W) → StepC n a one b
        → Limit T (Many (StepC n) b) two rest r → Limit T (Many (StepC n) a) (one ++ two) rest r
    limit_next n a b one two rest r s l = record {
      is = l.is;
      token = l.token;
      after = l.after;
      begins = l.begins;
      more = l.more;
      value = l.value;
      goes-on = subst (λ u. Many (StepC n) a u l.value) (sym (append_assoc one two (l.token ∷ l.more))) (Next s l.goes-on);
    }

    loop_refused : (n : ℕ) (a : A) (ts : Toks K) (r : Refusal W) → length ts ≤ n → loop T goes step n a ts ≡ Err r → LoopRefuses a ts r
    loop_refused zero a ts r le e =
        let gone : goes (head_kind T ts) ≡ false = ap (λ u. goes (head_kind T u)) (nothing_left ts le) ∙ ends in
        absurd (let f = sym (loop_stops goes step zero a ts gone) ∙ e in (cc))
    loop_refused (suc n) a ts r le e =
        elim (bool_cases (goes (head_kind T ts))) [
          | inr gone ↦ absurd (let f = sym (loop_stops goes step (suc n) a ts gone) ∙ e in (cc))
          | inl here ↦
              elim (bind_err (step a ts) (loop T goes step n) r (sym (loop_goes goes step n a ts here) ∙ e)) [
                | inl first ↦
                    let one = (each a).refused ts r here first in
                    record {
                      used = one.used;
                      rest = one.rest;
                      parts = one.parts;
                      clean = λ n. let c = one.clean n in (c.0, c.1, subst (λ u. Many (StepC n) a u c.1) (append-nil (one.used ++ c.0)) (Next c.2 Done));
                      stuck = λ t after other is. first_stuck goes step a ts here one.used one.rest one.parts t after other is (one.stuck t after other is);
                      reason = elim one.reason [
                        | inl l ↦ inl (record { is = l.is; stuck = λ t after other is. first_stuck goes stepV a ts here one.used one.rest one.parts t after other is (l.stuck t after other is) })
                        | inr l ↦ inr (limit_step (waived one.rest r) a one.used one.rest r l)
                      ];
                    }
                | inr b ↦
                    let one = (each a).sound ts b.0 b.1 here b.2 in
                    let two = loop_refused n b.0 b.1 r (shorter a b.0 ts one.used b.1 n one.parts one.phrase le) b.3 in
                    let inside = (each a).within one.used b.0 one.phrase in
                    let g = begins a one.used b.0 inside in
                    record {
                      used = one.used ++ two.used;
                      rest = two.rest;
                      parts = one.parts ∙ ap (λ u. one.used ++ u) two.parts ∙ sym (append_assoc one.used two.used two.rest);
                      clean = λ n.
                          let c = two.clean n in
                          let kept = (each a).keeps n one.used b.0 one.phrase in
                          (c.0, c.1, subst (λ u. Many (StepC n) a u c.1) (sym (append_assoc one.used two.used c.0)) (Next kept c.2));
                      stuck = λ t after other is. later_stuck goes step a b.0 ts b.1 one.used two.used two.rest one.again here one.parts two.parts t after other is (g.0, g.1, g.2) (two.stuck t after other is);
                      reason = elim two.reason [
                        | inl l ↦ inl (record { is = l.is; stuck = λ t after other is. later_stuck goes stepV a b.0 ts b.1 one.used two.used two.rest one.wide here one.parts two.parts t after other is (g.0, g.1, g.2) (l.stuck t after other is) })
                        | inr l ↦ inr (limit_next (waived two.rest r) a b.0 one.used two.used two.rest r ((each a).keeps (waived two.rest r) one.used b.0 one.phrase) l)
                      ];
                    }
              ]
        ]

    -- a step takes a token
    pub shrinks : (a x : A) (ts rest : Toks K) → goes (head_kind T ts) ≡ true → step a ts ≡ good x rest → length rest < length ts
    shrinks a x ts rest h e =
        let one = (each a).sound ts x rest h e in
        let g = begins_narrow a one.used x one.phrase in
        omega (arith, ap length one.parts, length-append one.used rest, ap length g.2)

  -- ---- a loop of the code: what is left of the turns gives what all of them give

  pub record Turns {A : Type 0} (goes : K → Bool) (step : A → Parser K W A) (a : A) (ts : Toks K) (whole : Outcome K W A) : Type 0 where
    pub turns : ℕ
    pub fits : length ts ≤ turns
    pub same : loop T goes step turns a ts ≡ whole

  pub ended : {A : Type 0} {goes : K → Bool} {step : A → Parser K W A} {a : A} {ts : Toks K} {whole : Outcome K W A} → Turns goes step a ts whole → goes (head_kind T ts) ≡ false → whole ≡ good a ts
  ended {goes = goes} {step = step} {a = a} {ts = ts} t gone = sym t.same ∙ loop_stops goes step t.turns a ts gone

  -- where a token goes on there is one, and so a turn
  turn : {A : Type 0} (goes : K → Bool) (step : A → Parser K W A) (a : A) (ts : Toks K) (whole : Outcome K W A) (n : ℕ) → goes T.end ≡ false → length ts ≤ n → goes (head_kind T ts) ≡ true → loop T goes step n a ts ≡ whole
      → (m : ℕ) × (n ≡ suc m) × (and_then (step a ts) (loop T goes step m) ≡ whole)
  turn goes step a [] whole n ends le here same = absurd (let f = sym here ∙ ends in (cc))
  turn goes step a (t ∷ ts) whole zero ends le here same = absurd (omega arith)
  turn goes step a (t ∷ ts) whole (suc m) ends le here same = (m, refl, sym (loop_goes goes step m a (t ∷ ts) here) ∙ same)

  -- what a loop ensures where its step failed
  pub fails : {A : Type 0} {goes : K → Bool} {step : A → Parser K W A} {a : A} {ts : Toks K} {whole : Outcome K W A} (e : Stop W) → goes T.end ≡ false → Turns goes step a ts whole → goes (head_kind T ts) ≡ true → Fails (step a ts) e → Fails whole e
  fails Memory ends t here f = tt
  fails {goes = goes} {step = step} {a = a} {ts = ts} {whole = whole} (Refused r) ends t here f =
      let m = turn goes step a ts whole t.turns ends t.fits here t.same in
      sym m.2 ∙ ap (λ o. and_then o (loop T goes step m.0)) f
