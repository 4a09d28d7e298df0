-- A token that the code picked meets no limit of its place: so a phrase that opens less than so many deep is one.
use Rattle.std.proofs.Common.{◌≡◌, Bool, true, false, Option, Some, None, Ok, drop, refl}
use Rattle.text_reading.specs.declared.stop.Refusal.{Refusal}
use Rattle.text_reading.specs.Tokens.{Tok, Toks, Tongue}
use Rattle.text_reading.specs.Parsing.{unless, next}
use Rattle.text_reading.specs.Phrases.{first_limit}
use Rattle.text_reading.specs.PhraseReading.{pick_if}
use Rattle.text_reading.proofs.Theory.{good}

none_kept : {K W : Type 0} (t : Tok K) (own : Option (Refusal W)) (limit : Option W) (late : Option (Refusal W)) (u v : Tok K) (us vs : Toks K)
    → unless (first_limit t own limit late) (good {W = W} u us) ≡ good v vs → limit ≡ None
none_kept t (Some r) limit late u v us vs e = absurd (cc)
none_kept t None None late u v us vs e = refl
none_kept t None (Some w) late u v us vs e = absurd (cc)

pub picked_free : {K W : Type 0} (T : Tongue K W) (can : Bool) (limit : Option W) (ts : Toks K) (t : Tok K) (rest : Toks K) → pick_if T can limit ts ≡ Ok (t, rest) → limit ≡ None
picked_free T true limit ts t rest e = none_kept (next T ts) (T.own (next T ts)) limit (T.late (next T ts)) (next T ts) t (drop 1 ts) rest e
picked_free T false limit ts t rest e = absurd (cc)
