-- Any number of steps, by equations: what is left of the turns says what all of them say.
use Rattle.std.proofs.Common.{◌≡◌, ℕ, zero, suc, ◌≤◌, ◌<◌, Bool, true, false, [], ◌∷◌, length, Err, inl, inr, sym, ap, ◌∙◌, arith}
use Rattle.text_reading.specs.declared.stop.Refusal.{Refusal}
use Rattle.text_reading.specs.Tokens.{Toks, Tongue, head_kind}
use Rattle.text_reading.specs.Parsing.{Parser, and_then, loop, many}
use Rattle.text_reading.proofs.Theory.{good, bool_cases}
use Rattle.text_reading.proofs.Loops.{loop_goes, loop_stops, nothing_left}
use Rattle.text_reading.proofs.PhraseRules.{and_then_same}

module _ {K W A : Type 0} (T : Tongue K W) (goes : K → Bool) (step : A → Parser K W A) (ends : goes T.end ≡ false)
    (uses : (a b : A) (ts rest : Toks K) → step a ts ≡ good b rest → length rest < length ts) where
  none_goes : (ts : Toks K) → length ts ≤ 0 → goes (head_kind T ts) ≡ false
  none_goes ts h = ap (λ u. goes (head_kind T u)) (nothing_left ts h) ∙ ends

  enough : (n m : ℕ) (a : A) (ts : Toks K) → length ts ≤ n → length ts ≤ m → loop T goes step n a ts ≡ loop T goes step m a ts
  enough zero m a ts h k = let gone = none_goes ts h in loop_stops T goes step zero a ts gone ∙ sym (loop_stops T goes step m a ts gone)
  enough (suc n) zero a ts h k = let gone = none_goes ts k in loop_stops T goes step (suc n) a ts gone ∙ sym (loop_stops T goes step zero a ts gone)
  enough (suc n) (suc m) a ts h k = elim (bool_cases (goes (head_kind T ts))) [
    | inr gone ↦ loop_stops T goes step (suc n) a ts gone ∙ sym (loop_stops T goes step (suc m) a ts gone)
    | inl here ↦
        loop_goes T goes step n a ts here
        ∙ and_then_same (step a ts) (loop T goes step n) (loop T goes step m) (λ b rest e. let less = uses a b ts rest e in enough n m b rest (omega arith) (omega arith))
        ∙ sym (loop_goes T goes step m a ts here)
  ]

  one_more : (a : A) (ts : Toks K) → goes (head_kind T ts) ≡ true → many T goes step a ts ≡ and_then (step a ts) (λ b rest. many T goes step b rest)
  one_more a [] here = absurd (let f = sym ends ∙ here in (cc))
  one_more a (t ∷ ts) here =
      loop_goes T goes step (length ts) a (t ∷ ts) here
      ∙ and_then_same (step a (t ∷ ts)) (loop T goes step (length ts)) (λ b rest. many T goes step b rest)
      (λ b rest e. let less = uses a b (t ∷ ts) rest e in enough (length ts) (length rest) b rest (omega arith) (omega arith))

  pub many_on : (a b : A) (ts rest : Toks K) → goes (head_kind T ts) ≡ true → step a ts ≡ good b rest → many T goes step a ts ≡ many T goes step b rest
  many_on a b ts rest here e = one_more a ts here ∙ ap (λ o. and_then o (λ b rest. many T goes step b rest)) e

  pub many_off : (a : A) (ts : Toks K) → goes (head_kind T ts) ≡ false → many T goes step a ts ≡ good a ts
  many_off a ts gone = loop_stops T goes step (length ts) a ts gone

  pub many_fails : (a : A) (ts : Toks K) (r : Refusal W) → goes (head_kind T ts) ≡ true → step a ts ≡ Err r → many T goes step a ts ≡ Err r
  many_fails a ts r here e = one_more a ts here ∙ ap (λ o. and_then o (λ b rest. many T goes step b rest)) e
