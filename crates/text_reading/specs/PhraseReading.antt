-- How the code reads tokens of phrases.
use Rattle.std.specs.Prelude.{Bool, false, if◌then◌else◌, Option, None, drop, Result, Ok, Err}
use Rattle.text_reading.specs.declared.stop.Stop.{Stop}
use Rattle.text_reading.specs.Tokens.{Tok, Tongue}
use Rattle.text_reading.specs.Parsing.{Outcome, Parser, ◌<$>◌, unless, next, pick, Fails}
use Rattle.text_reading.specs.Phrases.{first_limit, limited}

-- the next token where it can stand, unless it meets this limit or one that it has wherever it stands
abbrev pub pick_if : {K W : Type 0} → Tongue K W → Bool → Option W → Parser K W (Tok K)
pick_if T can limit ts =
    if can then unless (first_limit (next T ts) (T.own (next T ts)) limit (T.late (next T ts))) (Ok (next T ts, drop 1 ts)) else Err (T.refusal ts)

-- where the code fails, the parser does so too, unless memory ran out
abbrev pub IfFails : {K W A B : Type 0} → Result B (Stop W) → Outcome K W A → Type 0
IfFails (Ok x) outcome = Unit {0}
IfFails (Err e) outcome = Fails outcome e

-- a token of this kind
abbrev pub marks : {K W : Type 0} → Tongue K W → K → Parser K W (Unit {0})
marks T kind = (λ t. tt) <$> pick T false (λ h. T.same h kind) (limited T (λ t. None))
