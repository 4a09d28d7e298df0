-- How the spelling of a text or of a bare number goes on, byte by byte.
use Rattle.std.specs.Prelude.{ℕ, ◌+◌, ◌-◌, ◌*◌, Bool, true, false, ◌&&◌, ◌==◌, nat_le, nat_lt, if◌then◌else◌}
use Rattle.obj_kinds.specs.LeadingNumber.{is_digit}
use Rattle.obj_kinds.specs.Quoted.{is_plain}
use Rattle.dump_reading.specs.declared.place.Place.{Place}
use Rattle.dump_reading.specs.declared.place.Place.TheVariants as place
use Rattle.dump_reading.specs.declared.place.Turn.{Turn}
use Rattle.dump_reading.specs.declared.place.Turn.TheVariants.{Moves, Puts, Ends, Wrong}

-- between quotes: a quote closes them, or is the first of two
abbrev pub inside_or : Place → ℕ → Turn
inside_or at_quote b = if b == 34 then Moves at_quote else (if is_plain b then Puts place.Inside b else Wrong)

-- behind a quote: another one makes both one quote of the text
abbrev pub doubled_or : Turn → ℕ → Turn
doubled_or otherwise b = if b == 34 then Puts place.Inside 34 else otherwise

abbrev pub only : ℕ → Place → Turn → ℕ → Turn
only wanted then_at otherwise b = if b == wanted then Moves then_at else otherwise

-- a code begins with a digit
abbrev pub first_digit : ℕ → Turn
first_digit b = if is_digit b then Moves (place.Code (b - 48)) else Wrong

-- a code of more digits doesn't begin with 0, and is at most 255
abbrev pub more_digits : ℕ → ℕ → Turn
more_digits code b = if is_digit b && nat_lt 0 code && nat_le (code * 10 + (b - 48)) 255 then Moves (place.Code (code * 10 + (b - 48))) else Wrong

-- codes are those of the bytes that don't stand for themselves; a comma or `)` ends one
abbrev pub behind_code : ℕ → ℕ → Turn
behind_code code b =
    if is_plain code then more_digits code b
    else (if b == 44 then Puts place.Number code else (if b == 41 then Puts place.Closed code else more_digits code b))

abbrev pub digit_or : Turn → ℕ → Turn
digit_or otherwise b = if is_digit b then Puts place.Digits b else otherwise

-- a text begins with a quote or with `$c(`, a number with a digit or `-`
abbrev pub at_start : ℕ → Turn
at_start b =
    if b == 34 then Moves place.Opened
    else (if b == 36 then Moves place.Dollar
    else (if b == 45 then Puts place.Minus 45
    else (if b == 48 then Puts place.Zero 48
    else digit_or Wrong b)))

abbrev pub behind_minus : ℕ → Turn
behind_minus b = if b == 48 then Wrong else digit_or Wrong b

abbrev pub turn_in_quotes : Place → ℕ → Turn
turn_in_quotes place.Opened b = inside_or place.Emptied b
turn_in_quotes place.Emptied b = doubled_or Ends b
turn_in_quotes place.Inside b = inside_or place.Quote b
turn_in_quotes place.Quote b = doubled_or (only 95 place.Joined Ends b) b
turn_in_quotes place.Reopened b = inside_or place.Requoted b
turn_in_quotes place.Requoted b = doubled_or Wrong b
turn_in_quotes _ b = Wrong

abbrev pub turn_in_codes : Place → ℕ → Turn
turn_in_codes place.Joined b = only 36 place.JoinedDollar Wrong b
turn_in_codes place.Dollar b = only 99 place.Letter Wrong b
turn_in_codes place.JoinedDollar b = only 99 place.Letter Wrong b
turn_in_codes place.Letter b = only 40 place.Number Wrong b
turn_in_codes place.Number b = first_digit b
turn_in_codes (place.Code code) b = behind_code code b
turn_in_codes place.Closed b = only 95 place.Rejoined Ends b
turn_in_codes place.Rejoined b = only 34 place.Reopened Wrong b
turn_in_codes _ b = Wrong

-- what the next byte does
unfoldable pub turn : Place → ℕ → Turn
turn place.Start b = at_start b
turn place.Minus b = behind_minus b
turn place.Zero b = Ends
turn place.Digits b = digit_or Ends b
turn place.Opened b = turn_in_quotes place.Opened b
turn place.Emptied b = turn_in_quotes place.Emptied b
turn place.Inside b = turn_in_quotes place.Inside b
turn place.Quote b = turn_in_quotes place.Quote b
turn place.Reopened b = turn_in_quotes place.Reopened b
turn place.Requoted b = turn_in_quotes place.Requoted b
turn p b = turn_in_codes p b

-- whether a text or a number is whole here
unfoldable pub is_whole : Place → Bool
is_whole place.Emptied = true
is_whole place.Quote = true
is_whole place.Closed = true
is_whole place.Zero = true
is_whole place.Digits = true
is_whole _ = false

-- whether it is a bare number
unfoldable pub is_bare : Place → Bool
is_bare place.Zero = true
is_bare place.Digits = true
is_bare _ = false
