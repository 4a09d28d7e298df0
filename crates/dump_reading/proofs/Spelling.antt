-- Written texts and numbers are spelt so: turn by turn they give the text back.
use Rattle.std.proofs.Common.{◌≡◌, ◌≢◌, ℕ, zero, suc, ◌+◌, ◌-◌, ◌*◌, ◌/◌, ◌%◌, ◌<◌, ◌≤◌, ◌^◌, ℤ, pos, negsuc, Bool, true, false, cond, ◌&&◌, ◌==◌, nat_le, nat_lt, List, [], ◌∷◌, ◌++◌, refl, sym, ap, subst, ◌∙◌, eqb-true, arith}
use borrow.Author.Tests.{ltb-true}
use Rattle.std.specs.Fmt.{decimal, signed_decimal}
use Rattle.std.specs.Char.{is_ascii}
use Rattle.std.specs.List.{list_all}
use Rattle.std.proofs.lemmas.Fmt.{decimal_digit, decimal_by_steps}
use Rattle.std.proofs.lemmas.List.{append_assoc, append-nil}
use Rattle.std.proofs.lemmas.Bool.Decides.{nat_tests}
use Rattle.obj_kinds.specs.LeadingNumber.{is_digit}
use Rattle.obj_kinds.specs.Subscript.{IsWhole}
use Rattle.obj_kinds.specs.Quoted.{is_plain, plain_byte, rest_of_text, quoted}
use Rattle.obj_kinds.specs.declared.quote.Run.TheVariants as run
use Rattle.dump_reading.specs.declared.place.Place.{Place}
use Rattle.dump_reading.specs.declared.place.Place.TheVariants as place
use Rattle.dump_reading.specs.declared.place.Turn.TheVariants.{Moves, Puts}
use Rattle.dump_reading.specs.Places.{inside_or, turn, is_whole, is_bare}

-- the bytes lead from one place to the other, and tell these bytes of the text
pub data Spells : Place → List ℕ → Place → List ℕ → Type 0 where
  Done : {p : Place} → Spells p [] p []
  Move : {p q r : Place} {b : ℕ} {z u : List ℕ} → turn p b ≡ Moves q → Spells q z r u → Spells p (b ∷ z) r u
  Put : {p q r : Place} {b c : ℕ} {z u : List ℕ} → turn p b ≡ Puts q c → Spells q z r u → Spells p (b ∷ z) r (c ∷ u)

-- they lead to where a text or a bare number is whole
pub record Spelt (bare : Bool) (p : Place) (z u : List ℕ) : Type 0 where
  pub last : Place
  pub whole : is_whole last ≡ true
  pub form : is_bare last ≡ bare
  pub path : Spells p z last u

moves : {bare : Bool} {p q : Place} {b : ℕ} {z u : List ℕ} → turn p b ≡ Moves q → Spelt bare q z u → Spelt bare p (b ∷ z) u
moves e s = record { last = s.last; whole = s.whole; form = s.form; path = Move e s.path }

puts : {bare : Bool} {p q : Place} {b c : ℕ} {z u : List ℕ} → turn p b ≡ Puts q c → Spelt bare q z u → Spelt bare p (b ∷ z) (c ∷ u)
puts e s = record { last = s.last; whole = s.whole; form = s.form; path = Put e s.path }

done : (bare : Bool) (p : Place) → is_whole p ≡ true → is_bare p ≡ bare → Spelt bare p [] []
done bare p w f = record { last = p; whole = w; form = f; path = Done }

-- ---- bytes in quotes

-- a printable byte between quotes, a quote as two of them
plain_on : (p q : Place) → ((b : ℕ) → turn p b ≡ inside_or q b) → turn q 34 ≡ Puts place.Inside 34 → (b : ℕ) → is_plain b ≡ true → (z u : List ℕ) → Spelt false place.Inside z u → Spelt false p (plain_byte b ++ z) (b ∷ u)
plain_on p q opens doubles b plain z u s = by (b == 34) refl
  where
    by : (t : Bool) → (b == 34) ≡ t → Spelt false p (plain_byte b ++ z) (b ∷ u)
    by true e =
        let is : b ≡ 34 = eqb-true b 34 e in
        subst (λ t. Spelt false p (cond t (34 ∷ 34 ∷ []) (b ∷ []) ++ z) (b ∷ u)) (sym e) (moves (opens 34) (puts (doubles ∙ ap (λ c. Puts place.Inside c) (sym is)) s))
    by false e =
        subst (λ t. Spelt false p (cond t (34 ∷ 34 ∷ []) (b ∷ []) ++ z) (b ∷ u)) (sym e) (puts (opens b ∙ rw (e, plain) refl) s)

-- ---- codes

digit_is : (d : ℕ) → d < 10 → is_digit (48 + d) ≡ true
digit_is d h = grind (arith, nat_tests)

apart : (m n : ℕ) → m ≢ n → (m == n) ≡ false
apart m n h = grind (arith, nat_tests)

within : (m n : ℕ) → m ≤ n → nat_le m n ≡ true
within m n h = grind (arith, nat_tests)

below : (m n : ℕ) → m < n → nat_lt m n ≡ true
below m n h = grind (arith, nat_tests)

no_less : (d : ℕ) → 48 + d - 48 ≡ d
no_less d = omega arith

first_code : (d : ℕ) → d < 10 → turn place.Number (48 + d) ≡ Moves (place.Code d)
unfolding turn
first_code d h = rw (digit_is d h, no_less d) refl

more_code : (c d : ℕ) → 0 < c → d < 10 → c * 10 + d ≤ 255 → turn (place.Code c) (48 + d) ≡ Moves (place.Code (c * 10 + d))
unfolding turn
more_code c d some h few = by (is_plain c) refl
  where
    by : (t : Bool) → is_plain c ≡ t → turn (place.Code c) (48 + d) ≡ Moves (place.Code (c * 10 + d))
    by true e = rw (e, digit_is d h, below 0 c some, no_less d, within (c * 10 + d) 255 few) refl
    by false e = rw (e, apart (48 + d) 44 (λ f. omega arith), apart (48 + d) 41 (λ f. omega arith), digit_is d h, below 0 c some, no_less d, within (c * 10 + d) 255 few) refl

code_ends : (c : ℕ) → is_plain c ≡ false → turn (place.Code c) 41 ≡ Puts place.Closed c
unfolding turn
code_ends c e = rw e refl

code_follows : (c : ℕ) → is_plain c ≡ false → turn (place.Code c) 44 ≡ Puts place.Number c
unfolding turn
code_follows c e = rw e refl

abbrev LeadsToCode : ℕ → List ℕ → Type 0
LeadsToCode n ds = n < 256 → (z u : List ℕ) → Spelt false (place.Code n) z u → Spelt false place.Number (ds ++ z) u

parts : (n : ℕ) → n / 10 * 10 + n % 10 ≡ n
parts n = omega arith

small_rest : (n : ℕ) → n % 10 < 10
small_rest n = omega arith

more_of_code : (n : ℕ) (ds : List ℕ) → 10 ≤ n → LeadsToCode (n / 10) ds → LeadsToCode n (ds ++ ((48 + n % 10) ∷ []))
more_of_code n ds ge ih small z u s =
    let step : turn (place.Code (n / 10)) (48 + n % 10) ≡ Moves (place.Code n) =
    more_code (n / 10) (n % 10) (omega arith) (small_rest n) (omega arith) ∙ ap (λ k. Moves (place.Code k)) (parts n) in
    subst (λ w. Spelt false place.Number w u) (sym (append_assoc ds ((48 + n % 10) ∷ []) z)) (ih (omega arith) ((48 + n % 10) ∷ z) u (moves step s))

code_on : (n : ℕ) → n < 256 → (z u : List ℕ) → Spelt false (place.Code n) z u → Spelt false place.Number (decimal n ++ z) u
code_on n small = decimal_by_steps LeadsToCode (λ d h few z u s. moves (first_code d h) s) more_of_code n (omega arith) small

-- ---- texts

both : (a b : Bool) → a && b ≡ true → (a ≡ true) × (b ≡ true)
both true b h = (refl, h)
both false b h = cc

byte_is : (b : ℕ) → is_ascii b ≡ true → b < 256
byte_is b h = let f : b < 128 = ltb-true b 128 h in omega arith

-- what is left of a text is spelt, within a run in quotes, and behind a code
abbrev Rests : List ℕ → Type 0
Rests r = Spelt false place.Inside (rest_of_text run.Quotes r) r × ((c : ℕ) → is_plain c ≡ false → Spelt false (place.Code c) (rest_of_text run.Codes r) (c ∷ r))

rests : (r : List ℕ) → list_all is_ascii r ≡ true → Rests r
unfolding turn is_whole is_bare
rests [] h = (moves refl (done false place.Quote refl refl), λ c n. puts (code_ends c n) (done false place.Closed refl refl))
rests (b ∷ r) h = by (is_plain b) refl (both (is_ascii b) (list_all is_ascii r) h) (rests r)
  where
    by : (t : Bool) → is_plain b ≡ t → (is_ascii b ≡ true) × (list_all is_ascii r ≡ true) → (list_all is_ascii r ≡ true → Rests r) → Rests (b ∷ r)
    by true plain ok ih =
        let more = ih ok.1 in
        rw plain (
          plain_on place.Inside place.Quote (λ c. refl) refl b plain (rest_of_text run.Quotes r) r more.0,
          λ c n. puts (code_ends c n) (moves refl (moves refl (plain_on place.Reopened place.Requoted (λ c. refl) refl b plain (rest_of_text run.Quotes r) r more.0))),
        )
    by false other ok ih =
        let code = code_on b (byte_is b ok.0) (rest_of_text run.Codes r) (b ∷ r) ((ih ok.1).1 b other) in
        rw other (moves refl (moves refl (moves refl (moves refl (moves refl code)))), λ c n. puts (code_follows c n) code)

pub quoted_spelt : (t : List ℕ) → list_all is_ascii t ≡ true → Spelt false place.Start (quoted t) t
unfolding quoted turn is_whole is_bare
quoted_spelt [] h = moves refl (moves refl (done false place.Emptied refl refl))
quoted_spelt (b ∷ r) h = by (is_plain b) refl (both (is_ascii b) (list_all is_ascii r) h)
  where
    by : (t : Bool) → is_plain b ≡ t → (is_ascii b ≡ true) × (list_all is_ascii r ≡ true) → Spelt false place.Start (rest_of_text run.Start (b ∷ r)) (b ∷ r)
    by true plain ok = rw plain (moves refl (plain_on place.Opened place.Emptied (λ c. refl) refl b plain (rest_of_text run.Quotes r) r (rests r ok.1).0))
    by false other ok = rw other (moves refl (moves refl (moves refl (code_on b (byte_is b ok.0) (rest_of_text run.Codes r) (b ∷ r) ((rests r ok.1).1 b other)))))

-- ---- bare numbers

start_digit : (d : ℕ) → 0 < d → d < 10 → turn place.Start (48 + d) ≡ Puts place.Digits (48 + d)
unfolding turn
start_digit d some h =
    rw (apart (48 + d) 34 (λ f. omega arith), apart (48 + d) 36 (λ f. omega arith), apart (48 + d) 45 (λ f. omega arith), apart (48 + d) 48 (λ f. omega arith), digit_is d h) refl

minus_digit : (d : ℕ) → 0 < d → d < 10 → turn place.Minus (48 + d) ≡ Puts place.Digits (48 + d)
unfolding turn
minus_digit d some h = rw (apart (48 + d) 48 (λ f. omega arith), digit_is d h) refl

next_digit : (d : ℕ) → d < 10 → turn place.Digits (48 + d) ≡ Puts place.Digits (48 + d)
unfolding turn
next_digit d h = rw (digit_is d h) refl

abbrev LeadsToDigits : ℕ → List ℕ → Type 0
LeadsToDigits n ds = 0 < n → (z u : List ℕ) → Spelt true place.Digits z u → Spelt true place.Start (ds ++ z) (ds ++ u) × Spelt true place.Minus (ds ++ z) (ds ++ u)

one_digit : (n : ℕ) → n < 10 → LeadsToDigits n ((48 + n) ∷ [])
one_digit n h some z u s = (puts (start_digit n some h) s, puts (minus_digit n some h) s)

more_digits : (n : ℕ) (ds : List ℕ) → 10 ≤ n → LeadsToDigits (n / 10) ds → LeadsToDigits n (ds ++ ((48 + n % 10) ∷ []))
more_digits n ds ge ih some z u s =
    let b = 48 + n % 10 in
    let more = ih (omega arith) (b ∷ z) (b ∷ u) (puts (next_digit (n % 10) (small_rest n)) s) in
    (turned place.Start more.0, turned place.Minus more.1)
  where
    turned : (p : Place) → Spelt true p (ds ++ ((48 + n % 10) ∷ z)) (ds ++ ((48 + n % 10) ∷ u)) → Spelt true p (ds ++ ((48 + n % 10) ∷ []) ++ z) (ds ++ ((48 + n % 10) ∷ []) ++ u)
    turned p t = subst (λ w. Spelt true p w (ds ++ ((48 + n % 10) ∷ []) ++ u)) (sym (append_assoc ds ((48 + n % 10) ∷ []) z)) (subst (λ w. Spelt true p (ds ++ ((48 + n % 10) ∷ z)) w) (sym (append_assoc ds ((48 + n % 10) ∷ []) u)) t)

digits_spelt : (n : ℕ) → 0 < n → n < 2 ^ 64 → Spelt true place.Start (decimal n) (decimal n) × Spelt true place.Minus (decimal n) (decimal n)
unfolding is_whole is_bare
digits_spelt n some small =
    let more = decimal_by_steps LeadsToDigits one_digit more_digits n small some [] [] (done true place.Digits refl refl) in
    (turned place.Start more.0, turned place.Minus more.1)
  where
    turned : (p : Place) → Spelt true p (decimal n ++ []) (decimal n ++ []) → Spelt true p (decimal n) (decimal n)
    turned p t = subst (λ w. Spelt true p w w) (append-nil (decimal n)) t

pub number_spelt : (z : ℤ) → IsWhole z → Spelt true place.Start (signed_decimal z) (signed_decimal z)
unfolding turn is_whole is_bare
number_spelt (pos zero) h = subst (λ w. Spelt true place.Start w w) (sym (decimal_digit 0 (omega arith))) (puts refl (done true place.Zero refl refl))
number_spelt (pos (suc n)) h = (digits_spelt (suc n) (omega arith) (omega arith)).0
number_spelt (negsuc n) h = puts refl (digits_spelt (suc n) (omega arith) (omega arith)).1
