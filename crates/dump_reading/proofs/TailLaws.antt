-- What leads to a whole text or number is its spelling: place by place, what is left of the bytes is what the writer would write there.
use Rattle.std.proofs.Common.{◌≡◌, ◌≢◌, ℕ, ◌+◌, ◌-◌, ◌*◌, ◌/◌, ◌%◌, ◌<◌, ◌≤◌, Bool, true, false, ◌&&◌, ◌==◌, nat_le, nat_lt, if◌then◌else◌, ◌⊎◌, inl, inr, List, [], ◌∷◌, ◌++◌, refl, sym, ap, subst, ◌∙◌, eqb-true, arith}
use borrow.Author.Tests.{ltb-true}
use Rattle.std.specs.Fmt.{decimal}
use Rattle.std.proofs.lemmas.Fmt.{decimal_digit, decimal_step}
use Rattle.std.proofs.lemmas.List.{append_assoc}
use Rattle.std.proofs.lemmas.Bool.Decides.{nat_tests}
use Rattle.obj_kinds.specs.LeadingNumber.{is_digit}
use Rattle.obj_kinds.specs.Quoted.{is_plain, rest_of_text, quoted}
use Rattle.obj_kinds.specs.declared.quote.Run.TheVariants as run
use Rattle.dump_reading.specs.declared.place.Place.{Place}
use Rattle.dump_reading.specs.declared.place.Place.TheVariants as place
use Rattle.dump_reading.specs.declared.place.Turn.{Turn}
use Rattle.dump_reading.specs.declared.place.Turn.TheVariants.{Moves, Puts, Ends, Wrong}
use Rattle.dump_reading.specs.Places.{inside_or, doubled_or, only, first_digit, more_digits, behind_code, digit_or, turn, is_whole, is_bare}
use Rattle.dump_reading.proofs.Spelling.{Spells, Done, Move, Put}

-- ---- what a turn tells of its byte

pub inside_move : (p q : Place) (b : ℕ) → inside_or p b ≡ Moves q → (b ≡ 34) × (p ≡ q)
inside_move p q b = by (b == 34) (is_plain b) refl
  where
    by : (t u : Bool) → (b == 34) ≡ t → (if t then Moves p else (if u then Puts place.Inside b else Wrong)) ≡ Moves q → (b ≡ 34) × (p ≡ q)
    by true u e h = (eqb-true b 34 e, cc)
    by false true e h = absurd (cc)
    by false false e h = absurd (cc)

pub record IsInside (q : Place) (b c : ℕ) : Type 0 where
  pub at : place.Inside ≡ q
  pub same : b ≡ c
  pub plain : is_plain b ≡ true
  pub no_quote : (b == 34) ≡ false

pub inside_put : (p q : Place) (b c : ℕ) → inside_or p b ≡ Puts q c → IsInside q b c
inside_put p q b c = by (b == 34) (is_plain b) refl refl
  where
    by : (t u : Bool) → (b == 34) ≡ t → is_plain b ≡ u → (if t then Moves p else (if u then Puts place.Inside b else Wrong)) ≡ Puts q c → IsInside q b c
    by true u e f h = absurd (cc)
    by false true e f h = record { at = cc; same = cc; plain = f; no_quote = e }
    by false false e f h = absurd (cc)

pub only_move : (w b : ℕ) (p q : Place) (other : Turn) → other ≢ Moves q → only w p other b ≡ Moves q → (b ≡ w) × (p ≡ q)
only_move w b p q other n = by (b == w) refl
  where
    by : (t : Bool) → (b == w) ≡ t → (if t then Moves p else other) ≡ Moves q → (b ≡ w) × (p ≡ q)
    by true e h = (eqb-true b w e, cc)
    by false e h = absurd (n h)

pub only_put : (w b c : ℕ) (p q : Place) (other : Turn) → other ≢ Puts q c → only w p other b ≢ Puts q c
only_put w b c p q other n = by (b == w)
  where
    by : (t : Bool) → (if t then Moves p else other) ≡ Puts q c → ⊥
    by true h = cc
    by false h = n h

pub doubled_put : (b c : ℕ) (q : Place) (other : Turn) → other ≢ Puts q c → doubled_or other b ≡ Puts q c → (b ≡ 34) × (place.Inside ≡ q) × (34 ≡ c)
doubled_put b c q other n = by (b == 34) refl
  where
    by : (t : Bool) → (b == 34) ≡ t → (if t then Puts place.Inside 34 else other) ≡ Puts q c → (b ≡ 34) × (place.Inside ≡ q) × (34 ≡ c)
    by true e h = (eqb-true b 34 e, cc, cc)
    by false e h = absurd (n h)

pub doubled_move : (b : ℕ) (q : Place) (other : Turn) → doubled_or other b ≡ Moves q → other ≡ Moves q
doubled_move b q other = by (b == 34)
  where
    by : (t : Bool) → (if t then Puts place.Inside 34 else other) ≡ Moves q → other ≡ Moves q
    by true h = absurd (cc)
    by false h = h

digit_range : (b : ℕ) → is_digit b ≡ true → (48 ≤ b) × (b ≤ 57)
digit_range b h = grind (arith, nat_tests)

pub record IsFirstDigit (b : ℕ) (q : Place) : Type 0 where
  pub low : 48 ≤ b
  pub high : b ≤ 57
  pub at : place.Code (b - 48) ≡ q

pub first_move : (b : ℕ) (q : Place) → first_digit b ≡ Moves q → IsFirstDigit b q
first_move b q = by (is_digit b) refl
  where
    by : (t : Bool) → is_digit b ≡ t → (if t then Moves (place.Code (b - 48)) else Wrong) ≡ Moves q → IsFirstDigit b q
    by true e h = let r = digit_range b e in record { low = r.0; high = r.1; at = cc }
    by false e h = absurd (cc)

pub first_put : (b c : ℕ) (q : Place) → first_digit b ≢ Puts q c
first_put b c q = by (is_digit b)
  where
    by : (t : Bool) → (if t then Moves (place.Code (b - 48)) else Wrong) ≡ Puts q c → ⊥
    by true h = cc
    by false h = cc

both : (a b : Bool) → a && b ≡ true → (a ≡ true) × (b ≡ true)
both true b h = (refl, h)
both false b h = cc

less_is : (m n : ℕ) → nat_lt m n ≡ true → m < n
less_is m n h = ltb-true m n h

most_is : (m n : ℕ) → nat_le m n ≡ true → m ≤ n
most_is m n h = grind (arith, nat_tests)

pub record IsMoreDigit (code b : ℕ) (q : Place) : Type 0 where
  pub low : 48 ≤ b
  pub high : b ≤ 57
  pub some : 0 < code
  pub few : code * 10 + (b - 48) ≤ 255
  pub at : place.Code (code * 10 + (b - 48)) ≡ q

pub more_move : (code b : ℕ) (q : Place) → more_digits code b ≡ Moves q → IsMoreDigit code b q
more_move code b q = by (is_digit b && nat_lt 0 code && nat_le (code * 10 + (b - 48)) 255) refl
  where
    by : (t : Bool) → (is_digit b && nat_lt 0 code && nat_le (code * 10 + (b - 48)) 255) ≡ t → (if t then Moves (place.Code (code * 10 + (b - 48))) else Wrong) ≡ Moves q → IsMoreDigit code b q
    by true e h =
        let x = both (is_digit b && nat_lt 0 code) (nat_le (code * 10 + (b - 48)) 255) e in
        let y = both (is_digit b) (nat_lt 0 code) x.0 in
        let r = digit_range b y.0 in
        record { low = r.0; high = r.1; some = less_is 0 code y.1; few = most_is (code * 10 + (b - 48)) 255 x.1; at = cc }
    by false e h = absurd (cc)

more_put : (code b c : ℕ) (q : Place) → more_digits code b ≢ Puts q c
more_put code b c q = by (is_digit b && nat_lt 0 code && nat_le (code * 10 + (b - 48)) 255)
  where
    by : (t : Bool) → (if t then Moves (place.Code (code * 10 + (b - 48))) else Wrong) ≡ Puts q c → ⊥
    by true h = cc
    by false h = cc

pub code_move : (code b : ℕ) (q : Place) → behind_code code b ≡ Moves q → more_digits code b ≡ Moves q
code_move code b q = by (is_plain code) (b == 44) (b == 41)
  where
    by : (t u v : Bool) → (if t then more_digits code b else (if u then Puts place.Number code else (if v then Puts place.Closed code else more_digits code b))) ≡ Moves q → more_digits code b ≡ Moves q
    by true u v h = h
    by false true v h = absurd (cc)
    by false false true h = absurd (cc)
    by false false false h = h

pub record IsCodeEnd (code b c : ℕ) (q : Place) : Type 0 where
  pub other : is_plain code ≡ false
  pub same : code ≡ c
  pub at : ((b ≡ 44) × (place.Number ≡ q)) ⊎ ((b ≡ 41) × (place.Closed ≡ q))

pub code_put : (code b c : ℕ) (q : Place) → behind_code code b ≡ Puts q c → IsCodeEnd code b c q
code_put code b c q = by (is_plain code) (b == 44) (b == 41) refl refl refl
  where
    by : (t u v : Bool) → is_plain code ≡ t → (b == 44) ≡ u → (b == 41) ≡ v → (if t then more_digits code b else (if u then Puts place.Number code else (if v then Puts place.Closed code else more_digits code b))) ≡ Puts q c → IsCodeEnd code b c q
    by true u v e f g h = absurd (more_put code b c q h)
    by false true v e f g h = record { other = e; same = cc; at = inl (eqb-true b 44 f, cc) }
    by false false true e f g h = record { other = e; same = cc; at = inr (eqb-true b 41 g, cc) }
    by false false false e f g h = absurd (more_put code b c q h)

pub digit_put : (b c : ℕ) (q : Place) (other : Turn) → other ≢ Puts q c → digit_or other b ≡ Puts q c → (place.Digits ≡ q) × (b ≡ c)
digit_put b c q other n = by (is_digit b)
  where
    by : (t : Bool) → (if t then Puts place.Digits b else other) ≡ Puts q c → (place.Digits ≡ q) × (b ≡ c)
    by true h = (cc, cc)
    by false h = absurd (n h)

pub digit_move : (b : ℕ) (q : Place) (other : Turn) → other ≢ Moves q → digit_or other b ≢ Moves q
digit_move b q other n = by (is_digit b)
  where
    by : (t : Bool) → (if t then Puts place.Digits b else other) ≡ Moves q → ⊥
    by true h = cc
    by false h = n h

-- ---- what is left, place by place

-- the rest of a code, and of the text behind it, with the digits of a number in front
record CodeTail (front z u : List ℕ) : Type 0 where
  pub code : ℕ
  pub more : List ℕ
  pub text : u ≡ code ∷ more
  pub other : is_plain code ≡ false
  pub is : front ++ z ≡ decimal code ++ rest_of_text run.Codes more

abbrev Tail : Place → Place → List ℕ → List ℕ → Type 0
Tail q place.Start z u = (z ≡ quoted u) ⊎ ((z ≡ u) × (is_bare q ≡ true))
Tail q place.Opened z u = quoted u ≡ 34 ∷ z
Tail q place.Emptied z u = quoted u ≡ 34 ∷ 34 ∷ z
Tail q place.Inside z u = rest_of_text run.Quotes u ≡ z
Tail q place.Quote z u = rest_of_text run.Quotes u ≡ 34 ∷ z
Tail q place.Joined z u = rest_of_text run.Quotes u ≡ 34 ∷ 95 ∷ z
Tail q place.Dollar z u = quoted u ≡ 36 ∷ z
Tail q place.JoinedDollar z u = rest_of_text run.Quotes u ≡ 34 ∷ 95 ∷ 36 ∷ z
Tail q place.Letter z u = (y : List ℕ) × (z ≡ 40 ∷ y) × CodeTail [] y u
Tail q place.Number z u = CodeTail [] z u
Tail q (place.Code n) z u = CodeTail (decimal n) z u
Tail q place.Closed z u = rest_of_text run.Codes u ≡ 41 ∷ z
Tail q place.Rejoined z u = rest_of_text run.Codes u ≡ 41 ∷ 95 ∷ z
Tail q place.Reopened z u = rest_of_text run.Codes u ≡ 41 ∷ 95 ∷ 34 ∷ z
Tail q place.Requoted z u = rest_of_text run.Codes u ≡ 41 ∷ 95 ∷ 34 ∷ 34 ∷ z
Tail q place.Minus z u = (z ≡ u) × (is_bare q ≡ true)
Tail q place.Zero z u = (z ≡ u) × (is_bare q ≡ true)
Tail q place.Digits z u = (z ≡ u) × (is_bare q ≡ true)

tail_done : (p : Place) → is_whole p ≡ true → Tail p p [] []
unfolding is_whole is_bare quoted
tail_done place.Emptied h = refl
tail_done place.Quote h = refl
tail_done place.Closed h = refl
tail_done place.Zero h = (refl, refl)
tail_done place.Digits h = (refl, refl)
tail_done _ h = absurd (cc h)

-- what the writer writes of a code in front
code_of_quotes : (c : ℕ) (more : List ℕ) → is_plain c ≡ false → rest_of_text run.Quotes (c ∷ more) ≡ 34 ∷ 95 ∷ 36 ∷ 99 ∷ 40 ∷ (decimal c ++ rest_of_text run.Codes more)
code_of_quotes c more h = rw h refl

code_of_codes : (c : ℕ) (more : List ℕ) → is_plain c ≡ false → rest_of_text run.Codes (c ∷ more) ≡ 44 ∷ (decimal c ++ rest_of_text run.Codes more)
code_of_codes c more h = rw h refl

code_of_start : (c : ℕ) (more : List ℕ) → is_plain c ≡ false → quoted (c ∷ more) ≡ 36 ∷ 99 ∷ 40 ∷ (decimal c ++ rest_of_text run.Codes more)
unfolding quoted
code_of_start c more h = rw h refl

-- and of a printable byte that is no quote
plain_of_quotes : (b : ℕ) (u : List ℕ) → is_plain b ≡ true → (b == 34) ≡ false → rest_of_text run.Quotes (b ∷ u) ≡ b ∷ rest_of_text run.Quotes u
plain_of_quotes b u h n = rw (h, n) refl

plain_of_codes : (b : ℕ) (u : List ℕ) → is_plain b ≡ true → (b == 34) ≡ false → rest_of_text run.Codes (b ∷ u) ≡ 41 ∷ 95 ∷ 34 ∷ b ∷ rest_of_text run.Quotes u
plain_of_codes b u h n = rw (h, n) refl

plain_of_start : (b : ℕ) (u : List ℕ) → is_plain b ≡ true → (b == 34) ≡ false → quoted (b ∷ u) ≡ 34 ∷ b ∷ rest_of_text run.Quotes u
unfolding quoted
plain_of_start b u h n = rw (h, n) refl

-- a digit more
one_digit : (b : ℕ) → 48 ≤ b → b ≤ 57 → decimal (b - 48) ≡ b ∷ []
one_digit b low high = decimal_digit (b - 48) (omega arith) ∙ ap (λ k. k ∷ []) (is)
  where
    is : 48 + (b - 48) ≡ b
    is = omega arith

digits_grow : (n b : ℕ) → 48 ≤ b → b ≤ 57 → 0 < n → n * 10 + (b - 48) ≤ 255 → decimal (n * 10 + (b - 48)) ≡ decimal n ++ (b ∷ [])
digits_grow n b low high some few =
    decimal_step (n * 10 + (b - 48)) (omega arith) (omega arith) ∙ ap (λ k. decimal k ++ ((48 + (n * 10 + (b - 48)) % 10) ∷ [])) front ∙ ap (λ k. decimal n ++ (k ∷ [])) last
  where
    front : (n * 10 + (b - 48)) / 10 ≡ n
    front = omega arith

    last : 48 + (n * 10 + (b - 48)) % 10 ≡ b
    last = omega arith

-- ---- a turn back

tail_move : (q p r : Place) (b : ℕ) (z u : List ℕ) → turn p b ≡ Moves r → Tail q r z u → Tail q p (b ∷ z) u
unfolding turn
tail_move q place.Opened r b z u e t =
    let i = inside_move place.Emptied r b e in
    let f : Tail q place.Emptied z u = subst (λ p. Tail q p z u) (sym i.1) t in
    f ∙ ap (λ c. 34 ∷ c ∷ z) (sym i.0)
tail_move q place.Inside r b z u e t =
    let i = inside_move place.Quote r b e in
    let f : Tail q place.Quote z u = subst (λ p. Tail q p z u) (sym i.1) t in
    f ∙ ap (λ c. c ∷ z) (sym i.0)
tail_move q place.Reopened r b z u e t =
    let i = inside_move place.Requoted r b e in
    let f : Tail q place.Requoted z u = subst (λ p. Tail q p z u) (sym i.1) t in
    f ∙ ap (λ c. 41 ∷ 95 ∷ 34 ∷ c ∷ z) (sym i.0)
tail_move q place.Emptied r b z u e t = absurd (let f = doubled_move b r Ends e in cc)
tail_move q place.Requoted r b z u e t = absurd (let f = doubled_move b r Wrong e in cc)
tail_move q place.Quote r b z u e t =
    let i = only_move 95 b place.Joined r Ends (λ f. cc f) (doubled_move b r (only 95 place.Joined Ends b) e) in
    let f : Tail q place.Joined z u = subst (λ p. Tail q p z u) (sym i.1) t in
    f ∙ ap (λ c. 34 ∷ c ∷ z) (sym i.0)
tail_move q place.Joined r b z u e t =
    let i = only_move 36 b place.JoinedDollar r Wrong (λ f. cc f) e in
    let f : Tail q place.JoinedDollar z u = subst (λ p. Tail q p z u) (sym i.1) t in
    f ∙ ap (λ c. 34 ∷ 95 ∷ c ∷ z) (sym i.0)
tail_move q place.Dollar r b z u e t =
    let i = only_move 99 b place.Letter r Wrong (λ f. cc f) e in
    let f : Tail q place.Letter z u = subst (λ p. Tail q p z u) (sym i.1) t in
    let k = f.2 in
    ap quoted k.text ∙ code_of_start k.code k.more k.other ∙ ap (λ y. 36 ∷ 99 ∷ 40 ∷ y) (sym k.is) ∙ ap (λ y. 36 ∷ 99 ∷ y) (sym f.1) ∙ ap (λ c. 36 ∷ c ∷ z) (sym i.0)
tail_move q place.JoinedDollar r b z u e t =
    let i = only_move 99 b place.Letter r Wrong (λ f. cc f) e in
    let f : Tail q place.Letter z u = subst (λ p. Tail q p z u) (sym i.1) t in
    let k = f.2 in
    ap (rest_of_text run.Quotes) k.text ∙ code_of_quotes k.code k.more k.other ∙ ap (λ y. 34 ∷ 95 ∷ 36 ∷ 99 ∷ 40 ∷ y) (sym k.is) ∙ ap (λ y. 34 ∷ 95 ∷ 36 ∷ 99 ∷ y) (sym f.1)
    ∙ ap (λ c. 34 ∷ 95 ∷ 36 ∷ c ∷ z) (sym i.0)
tail_move q place.Letter r b z u e t =
    let i = only_move 40 b place.Number r Wrong (λ f. cc f) e in
    (z, ap (λ c. c ∷ z) i.0, subst (λ p. Tail q p z u) (sym i.1) t)
tail_move q place.Number r b z u e t =
    let i = first_move b r e in
    let f : Tail q (place.Code (b - 48)) z u = subst (λ p. Tail q p z u) (sym i.at) t in
    record { code = f.code; more = f.more; text = f.text; other = f.other; is = ap (λ y. y ++ z) (sym (one_digit b i.low i.high)) ∙ f.is }
tail_move q (place.Code n) r b z u e t =
    let i = more_move n b r (code_move n b r e) in
    let f : Tail q (place.Code (n * 10 + (b - 48))) z u = subst (λ p. Tail q p z u) (sym i.at) t in
    record {
      code = f.code;
      more = f.more;
      text = f.text;
      other = f.other;
      is = sym (append_assoc (decimal n) (b ∷ []) z) ∙ ap (λ y. y ++ z) (sym (digits_grow n b i.low i.high i.some i.few)) ∙ f.is;
    }
tail_move q place.Closed r b z u e t =
    let i = only_move 95 b place.Rejoined r Ends (λ f. cc f) e in
    let f : Tail q place.Rejoined z u = subst (λ p. Tail q p z u) (sym i.1) t in
    f ∙ ap (λ c. 41 ∷ c ∷ z) (sym i.0)
tail_move q place.Rejoined r b z u e t =
    let i = only_move 34 b place.Reopened r Wrong (λ f. cc f) e in
    let f : Tail q place.Reopened z u = subst (λ p. Tail q p z u) (sym i.1) t in
    f ∙ ap (λ c. 41 ∷ 95 ∷ c ∷ z) (sym i.0)
tail_move q place.Zero r b z u e t = absurd (cc e)
tail_move q place.Digits r b z u e t = absurd (digit_move b r Ends (λ f. cc f) e)
tail_move q place.Minus r b z u e t = absurd (minus (b == 48) e)
  where
    minus : (t : Bool) → (if t then Wrong else digit_or Wrong b) ≡ Moves r → ⊥
    minus true h = cc
    minus false h = digit_move b r Wrong (λ f. cc f) h
tail_move q place.Start r b z u e t = start (b == 34) (b == 36) (b == 45) (b == 48) refl refl e
  where
    start : (s v w x : Bool) → (b == 34) ≡ s → (b == 36) ≡ v
        → (if s then Moves place.Opened else (if v then Moves place.Dollar else (if w then Puts place.Minus 45 else (if x then Puts place.Zero 48 else digit_or Wrong b)))) ≡ Moves r
        → Tail q place.Start (b ∷ z) u
    start true v w x f g h =
        let o : Tail q place.Opened z u = let same : place.Opened ≡ r = cc in subst (λ p. Tail q p z u) (sym same) t in
        inl (ap (λ c. c ∷ z) (eqb-true b 34 f) ∙ sym o)
    start false true w x f g h =
        let o : Tail q place.Dollar z u = let same : place.Dollar ≡ r = cc in subst (λ p. Tail q p z u) (sym same) t in
        inl (ap (λ c. c ∷ z) (eqb-true b 36 g) ∙ sym o)
    start false false true x f g h = absurd (cc)
    start false false false true f g h = absurd (cc)
    start false false false false f g h = absurd (digit_move b r Wrong (λ f. cc f) h)

-- a quote of the text, in front of what is left of it
quote_in : (b c : ℕ) (z u : List ℕ) → b ≡ 34 → 34 ≡ c → rest_of_text run.Quotes u ≡ z → rest_of_text run.Quotes (c ∷ u) ≡ 34 ∷ b ∷ z
quote_in b c z u is same e = ap (λ d. rest_of_text run.Quotes (d ∷ u)) (sym same) ∙ ap (λ y. 34 ∷ 34 ∷ y) e ∙ ap (λ d. 34 ∷ d ∷ z) (sym is)

tail_put : (q p r : Place) (b c : ℕ) (z u : List ℕ) → turn p b ≡ Puts r c → Tail q r z u → Tail q p (b ∷ z) (c ∷ u)
unfolding turn quoted
tail_put q place.Opened r b c z u e t =
    let i = inside_put place.Emptied r b c e in
    let f : Tail q place.Inside z u = subst (λ p. Tail q p z u) (sym i.at) t in
    ap (λ d. quoted (d ∷ u)) (sym i.same) ∙ plain_of_start b u i.plain i.no_quote ∙ ap (λ y. 34 ∷ b ∷ y) f
tail_put q place.Inside r b c z u e t =
    let i = inside_put place.Quote r b c e in
    let f : Tail q place.Inside z u = subst (λ p. Tail q p z u) (sym i.at) t in
    ap (λ d. rest_of_text run.Quotes (d ∷ u)) (sym i.same) ∙ plain_of_quotes b u i.plain i.no_quote ∙ ap (λ y. b ∷ y) f
tail_put q place.Reopened r b c z u e t =
    let i = inside_put place.Requoted r b c e in
    let f : Tail q place.Inside z u = subst (λ p. Tail q p z u) (sym i.at) t in
    ap (λ d. rest_of_text run.Codes (d ∷ u)) (sym i.same) ∙ plain_of_codes b u i.plain i.no_quote ∙ ap (λ y. 41 ∷ 95 ∷ 34 ∷ b ∷ y) f
tail_put q place.Emptied r b c z u e t =
    let i = doubled_put b c r Ends (λ f. cc f) e in
    let f : Tail q place.Inside z u = subst (λ p. Tail q p z u) (sym i.1) t in
    ap (λ d. quoted (d ∷ u)) (sym i.2) ∙ ap (λ y. 34 ∷ 34 ∷ 34 ∷ y) f ∙ ap (λ d. 34 ∷ 34 ∷ d ∷ z) (sym i.0)
tail_put q place.Requoted r b c z u e t =
    let i = doubled_put b c r Wrong (λ f. cc f) e in
    let f : Tail q place.Inside z u = subst (λ p. Tail q p z u) (sym i.1) t in
    ap (λ d. rest_of_text run.Codes (d ∷ u)) (sym i.2) ∙ ap (λ y. 41 ∷ 95 ∷ 34 ∷ 34 ∷ 34 ∷ y) f ∙ ap (λ d. 41 ∷ 95 ∷ 34 ∷ 34 ∷ d ∷ z) (sym i.0)
tail_put q place.Quote r b c z u e t =
    let i = doubled_put b c r (only 95 place.Joined Ends b) (only_put 95 b c place.Joined r Ends (λ f. cc f)) e in
    let f : Tail q place.Inside z u = subst (λ p. Tail q p z u) (sym i.1) t in
    quote_in b c z u i.0 i.2 f
tail_put q place.Joined r b c z u e t = absurd (only_put 36 b c place.JoinedDollar r Wrong (λ f. cc f) e)
tail_put q place.Dollar r b c z u e t = absurd (only_put 99 b c place.Letter r Wrong (λ f. cc f) e)
tail_put q place.JoinedDollar r b c z u e t = absurd (only_put 99 b c place.Letter r Wrong (λ f. cc f) e)
tail_put q place.Letter r b c z u e t = absurd (only_put 40 b c place.Number r Wrong (λ f. cc f) e)
tail_put q place.Number r b c z u e t = absurd (first_put b c r e)
tail_put q place.Closed r b c z u e t = absurd (only_put 95 b c place.Rejoined r Ends (λ f. cc f) e)
tail_put q place.Rejoined r b c z u e t = absurd (only_put 34 b c place.Reopened r Wrong (λ f. cc f) e)
tail_put q (place.Code n) r b c z u e t =
    let i = code_put n b c r e in
    record { code = n; more = u; text = ap (λ d. d ∷ u) (sym i.same); other = i.other; is = ap (λ y. decimal n ++ y) (by i.at) }
  where
    by : ((b ≡ 44) × (place.Number ≡ r)) ⊎ ((b ≡ 41) × (place.Closed ≡ r)) → b ∷ z ≡ rest_of_text run.Codes u
    by (inl i) =
        let f : Tail q place.Number z u = subst (λ p. Tail q p z u) (sym i.1) t in
        ap (λ d. d ∷ z) i.0 ∙ ap (λ y. 44 ∷ y) f.is ∙ sym (code_of_codes f.code f.more f.other) ∙ ap (rest_of_text run.Codes) (sym f.text)
    by (inr i) =
        let f : Tail q place.Closed z u = subst (λ p. Tail q p z u) (sym i.1) t in
        ap (λ d. d ∷ z) i.0 ∙ sym f
tail_put q place.Zero r b c z u e t = absurd (cc e)
tail_put q place.Digits r b c z u e t =
    let i = digit_put b c r Ends (λ f. cc f) e in
    let f : Tail q place.Digits z u = subst (λ p. Tail q p z u) (sym i.0) t in
    (ap (λ d. d ∷ z) i.1 ∙ ap (λ y. c ∷ y) f.0, f.1)
tail_put q place.Minus r b c z u e t = minus (b == 48) e
  where
    minus : (s : Bool) → (if s then Wrong else digit_or Wrong b) ≡ Puts r c → Tail q place.Minus (b ∷ z) (c ∷ u)
    minus true h = absurd (cc)
    minus false h =
        let i = digit_put b c r Wrong (λ f. cc f) h in
        let f : Tail q place.Digits z u = subst (λ p. Tail q p z u) (sym i.0) t in
        (ap (λ d. d ∷ z) i.1 ∙ ap (λ y. c ∷ y) f.0, f.1)
tail_put q place.Start r b c z u e t = start (b == 34) (b == 36) (b == 45) (b == 48) refl refl e
  where
    bare : (p : Place) (d : ℕ) → b ≡ d → d ≡ c → (z ≡ u) × (is_bare q ≡ true) → Tail q place.Start (b ∷ z) (c ∷ u)
    bare p d is same f = inr (ap (λ k. k ∷ z) (is ∙ same) ∙ ap (λ y. c ∷ y) f.0, f.1)

    start : (s v w x : Bool) → (b == 45) ≡ w → (b == 48) ≡ x
        → (if s then Moves place.Opened else (if v then Moves place.Dollar else (if w then Puts place.Minus 45 else (if x then Puts place.Zero 48 else digit_or Wrong b)))) ≡ Puts r c
        → Tail q place.Start (b ∷ z) (c ∷ u)
    start true v w x f g h = absurd (cc)
    start false true w x f g h = absurd (cc)
    start false false true x f g h =
        let o : Tail q place.Minus z u = let same : place.Minus ≡ r = cc in subst (λ p. Tail q p z u) (sym same) t in
        bare place.Minus 45 (eqb-true b 45 f) (cc) o
    start false false false true f g h =
        let o : Tail q place.Zero z u = let same : place.Zero ≡ r = cc in subst (λ p. Tail q p z u) (sym same) t in
        bare place.Zero 48 (eqb-true b 48 g) (cc) o
    start false false false false f g h =
        let i = digit_put b c r Wrong (λ f. cc f) h in
        let o : Tail q place.Digits z u = subst (λ p. Tail q p z u) (sym i.0) t in
        bare place.Digits b refl i.1 o

tail : {p q : Place} {z u : List ℕ} → Spells p z q u → is_whole q ≡ true → Tail q p z u
tail (Done {p = p}) w = tail_done p w
tail (Move {p = p} {q = q} {r = r} {b = b} {z = z} {u = u} e more) w = tail_move r p q b z u e (tail more w)
tail (Put {p = p} {q = q} {r = r} {b = b} {c = c} {z = z} {u = u} e more) w = tail_put r p q b c z u e (tail more w)

-- a whole text is spelt in quotes, or is a bare number
pub spelling_is : {q : Place} {z u : List ℕ} → Spells place.Start z q u → is_whole q ≡ true → (z ≡ quoted u) ⊎ ((z ≡ u) × (is_bare q ≡ true))
spelling_is s w = tail s w
