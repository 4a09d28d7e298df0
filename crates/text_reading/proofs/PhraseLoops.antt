-- Loops of the code that read any number of phrases: what is left of the turns says what all of them say.
use Rattle.std.proofs.Common.{◌≡◌, ◌<◌, Bool, true, false, not, length, Err, sym, ◌∙◌}
use Rattle.text_reading.specs.declared.stop.Refusal.{Refusal}
use Rattle.text_reading.specs.Tokens.{Toks, Tongue, head_kind}
use Rattle.text_reading.specs.declared.stop.Stop.{Stop}
use Rattle.text_reading.specs.declared.stop.Stop.TheVariants.{Memory, Refused}
use Rattle.text_reading.specs.Parsing.{Outcome, Parser, many, Fails}
use Rattle.text_reading.specs.Phrases.{Phrase, Grammar, reads}
use Rattle.text_reading.proofs.Theory.{good}
use Rattle.text_reading.proofs.KindTests.{Kinds}
use Rattle.text_reading.proofs.PhraseShape.{fits, may_be_empty}
use Rattle.text_reading.proofs.PhraseLaw.{Fits, shrinks}
use Rattle.text_reading.proofs.ManyLaws.{many_on, many_off, many_fails}

pub record TurnLaws {K W A : Type 0} (T : Tongue K W) (goes : K → Bool) (step : A → Parser K W A) : Type 0 where
  pub on : (a b : A) (ts rest : Toks K) → goes (head_kind T ts) ≡ true → step a ts ≡ good b rest → many T goes step a ts ≡ many T goes step b rest
  pub off : (a : A) (ts : Toks K) → goes (head_kind T ts) ≡ false → many T goes step a ts ≡ good a ts
  pub fails : (a : A) (ts : Toks K) (r : Refusal W) → goes (head_kind T ts) ≡ true → step a ts ≡ Err r → many T goes step a ts ≡ Err r
  pub shrinks : (a b : A) (ts rest : Toks K) → step a ts ≡ good b rest → length rest < length ts

pub turn_laws : {K W : Type 0} (T : Tongue K W) (N : Kinds K) (G : Grammar K W) → Fits T N G → {I A : Type 0} (goes : K → Bool) (step : Phrase K W G.rules (I × A) A)
    → goes T.end ≡ false → fits T N.list step ≡ true → not (may_be_empty step) ≡ true → (i : I) → TurnLaws T goes (λ b. reads T G false step (i, b))
turn_laws {K = K} {W = W} T N G fit {I = I} {A = A} goes step ends f full i =
    let less : (a b : A) (ts rest : Toks K) → reads T G false step (i, a) ts ≡ good {W = W} b rest → length rest < length ts
    = λ a b ts rest e. shrinks T N G fit step f full (i, a) ts b rest e in
    record {
      on = λ a b ts rest here e. many_on T goes (λ b. reads T G false step (i, b)) ends less a b ts rest here e;
      off = λ a ts gone. many_off T goes (λ b. reads T G false step (i, b)) ends less a ts gone;
      fails = λ a ts r here e. many_fails T goes (λ b. reads T G false step (i, b)) ends less a ts r here e;
      shrinks = less;
    }

-- where a turn fails, all fails
pub fails_on : {K W A : Type 0} (T : Tongue K W) (goes : K → Bool) (step : A → Parser K W A) → TurnLaws T goes step → (a : A) (ts : Toks K) (all : Outcome K W A) (stop : Stop W)
    → many T goes step a ts ≡ all → goes (head_kind T ts) ≡ true → Fails (step a ts) stop → Fails all stop
fails_on T goes step laws a ts all Memory e here f = tt
fails_on T goes step laws a ts all (Refused r) e here f = sym e ∙ laws.fails a ts r here f
